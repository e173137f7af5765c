use Rattle.std.proofs.Common.{◌∙◌, sym, subst}
use Rattle.definitions.specs.Words.{Extent, IsWord}
use Rattle.exp_log.proofs.SeriesLaws.{logarithm-still}
use Rattle.exp_log.proofs.logarithm.log_series.Goals as goal

pub returns-then-weight-eq0-clause-values : goal.returns-then-weight-eq0-clause-values
returns-then-weight-eq0-clause-values c = λ word is_word.
    c.in_ok-log.ensures.value word (subst (λ (e : Extent). IsWord e word) (sym c.shape.ensures.value) is_word)
    ∙ sym (logarithm-still c.args.t.now c.args.weight word c.requires.bounded c.if-weight-eq0.true is_word)
