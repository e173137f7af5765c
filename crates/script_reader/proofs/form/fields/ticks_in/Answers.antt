use Rattle.std.proofs.Common.{◌+◌, ◌∷◌, ◌++◌, [], List, ℕ, map, drop, get_or, sym, ap, ◌∙◌, arith, append_assoc, Bor}
use Rattle.std.proofs.lemmas.Grind.{common_steps}
use Rattle.std.proofs.lemmas.List.{at_drop_more, at_drop_all}
use Rattle.script_reader.specs.Fields.{are_ticks, ticks_of}
use Rattle.script_reader.proofs.Fields.{tick_missing, tick_found, no_ticks}
use Rattle.script_reader.proofs.form.fields.ticks_in.Goals as goal

abbrev spelled : List (Bor (List ℕ)) → List (List ℕ)
spelled words = map (λ w. w.now) words

abbrev nowhere : Bor (List ℕ)
nowhere = record { ref_ptr = (0, 0); now = [] }

pub returns-in_default : goal.returns-in_default
returns-in_default c =
    let most = c.args.most in
    sym c.loop-word.invariant.test ∙ at_drop_more (λ words. are_ticks most (spelled words)) c.args.words.now c.loop-word.word-index nowhere c.loop-word-test.true ∙ tick_missing most _ _ c.in_default.ensures

pub loop-word-preserved : goal.loop-word-preserved
loop-word-preserved c =
    let most = c.args.most in
    let words = c.args.words.now in
    let i = c.loop-word.word-index in
    let found = tick_found most (get_or words i nowhere).now (spelled (drop (i + 1) words)) c.in-Some.end c.in-Some.ensures in
    record {
      test = sym found.0 ∙ sym (at_drop_more (λ w. are_ticks most (spelled w)) words i nowhere c.loop-word-test.true) ∙ c.loop-word.invariant.test;
      value =
          ap (λ v. v ++ ticks_of most (spelled (drop (i + 1) words))) c.in_ok-push.ensures.items
          ∙ append_assoc c.loop-word.ticks.items (c.in-Some.end ∷ []) (ticks_of most (spelled (drop (i + 1) words)))
          ∙ ap (λ v. c.loop-word.ticks.items ++ v) (sym found.1 ∙ sym (at_drop_more (λ w. ticks_of most (spelled w)) words i nowhere c.loop-word-test.true))
          ∙ c.loop-word.invariant.value;
    }

pub returns : goal.returns
returns c =
    let end = at_drop_all spelled c.args.words.now c.loop-word.word-index c.loop-word-test.false in
    (sym c.loop-word.invariant.test ∙ ap (are_ticks c.args.most) end ∙ no_ticks c.args.most, grind (arith, common_steps, ap (ticks_of c.args.most) end, c.loop-word.invariant.value))
