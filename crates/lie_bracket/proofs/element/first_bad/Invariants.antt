use Rattle.std.proofs.Common.{◌≡◌, ◌<◌, ℕ}
use Rattle.lie_bracket.specs.Elements.{IsGoodAt, number_before}
use Rattle.lie_bracket.proofs.element.first_bad.Given as goal

abbrev pub invariant-loop-i : goal.invariant-loop-i
invariant-loop-i l = record {
  last : l.last ≡ number_before l.terms l.i;
  good : (k : ℕ) → k < l.i → IsGoodAt l.len l.terms k;
}
