use Rattle.std.proofs.Common.{◌+◌, ◌∙◌, ap, sym, arith, inl, inr, ℕ, [], length, pos}
use Rattle.std.specs.Prelude.{int_div}
use Rattle.std.proofs.lemmas.Bool.{cases_eq}
use Rattle.scaled_tensor.specs.Tensors.{coefficient}
use Rattle.tensor_product.proofs.SigLaws.{empty-word}
use Rattle.piecewise.specs.Faults.{AreMultiples}
use Rattle.piecewise.proofs.LevelSteps.{each-none, each-more}
use Rattle.piecewise.proofs.unfolding.split.Goals as goal

pub loop-before-init : goal.loop-before-init
loop-before-init c = record {
  extent = c.in_ok-log.ensures.extent ∙ c.shape.ensures.value;
  values = λ word is_word some none. absurd (omega (arith, some, none));
  empty = c.in_ok-log.ensures.value [] (empty-word c.shape.result);
  splits = each-none (λ k. AreMultiples c.args.expansion.now.extent (coefficient c.args.expansion.now) k k);
}

pub loop-before-preserved : goal.loop-before-preserved
loop-before-preserved c =
    let k : ℕ = c.loop-before.before + 1 in
    record {
      extent = c.write_quotients.ensures.extent;
      values = λ word is_word some within.
          elim (cases_eq (length word) k) [
            | inl here ↦ c.write_quotients.ensures.level word is_word here ∙ ap (λ (n : ℕ). int_div (coefficient c.args.expansion.now word) (pos n)) (sym here)
            | inr apart ↦ c.write_quotients.ensures.others word is_word apart ∙ c.loop-before.invariant.values word is_word some (omega (arith, within, apart))
          ];
      empty = c.write_quotients.ensures.others [] (empty-word c.args.expansion.now.extent) (λ e. absurd (omega (arith, e))) ∙ c.loop-before.invariant.empty;
      splits = each-more (λ j. AreMultiples c.args.expansion.now.extent (coefficient c.args.expansion.now) j j) k c.loop-before.invariant.splits (c.are_multiples.ensures.0 c.if-not-are_multiples.false);
    }
