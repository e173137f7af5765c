use Rattle.std.proofs.Common.{◌≡◌, ◌≤◌, ◌+◌, ◌∙◌, ap, sym, arith, rules, ℕ, ℤ, pos, length, unsigned_abs, ◌+ℤ◌, ◌*ℤ◌, FitsSigned, to_z-of_z, refl}
use mir.Syntax.{w128}
use mir.Val.{to_z}
use Rattle.std.proofs.lemmas.List.Elements.{All-get_or}
use Rattle.definitions.specs.Signature.{limit}
use Rattle.definitions.specs.Hall.{InHall, degree}
use Rattle.lie_bracket.specs.Brackets.{term}
use Rattle.lie_bracket.specs.Elements.{term_at}
use Rattle.lie_bracket.proofs.ExpandSteps.{degree-read, sum-bound, term-bound, sum-take, sum-pass}
use Rattle.lie_bracket.proofs.expansion.sum_at.Goals as goal
use Rattle.lie_bracket.proofs.expansion.sum_at.Goals.{then-degree-word, else-degree-word}

pub product_of-part-requires : goal.product_of-part-requires
product_of-part-requires c =
    let i : ℕ = c.loop-t.t-index in
    let inside : InHall c.args.members.now (term_at c.args.terms.now i).number = All-get_or (λ t. InHall c.args.members.now t.number) c.args.terms.now i (term (pos 0) 0) c.loop-t-test.true c.requires.numbers in
    let here : degree c.args.members.now (term_at c.args.terms.now i).number ≡ length c.args.word.now = sym (degree-read c.args.members.now (term_at c.args.terms.now i).number c.degree.result inside c.degree.ensures) ∙ c.if-degree-word.true in
    let ff : FitsSigned w128 ((term_at c.args.terms.now i).factor) = search rules in
    let fc : FitsSigned w128 c.coefficient_of.result = search rules in
    simp to_z-of_z (term-bound c.args.members.now c.args.terms.now i (length c.args.word.now) c.coefficient_of.result c.loop-t-test.true here c.coefficient_of.ensures.bound c.requires.fits)

pub sum_of-sum-requires : goal.sum_of-sum-requires
sum_of-sum-requires c =
    let i : ℕ = c.loop-t.t-index in
    let ff : FitsSigned w128 ((term_at c.args.terms.now i).factor) = search rules in
    let fc : FitsSigned w128 c.coefficient_of.result = search rules in
    let fp : FitsSigned w128 c.product_of-part.result = search rules in
    let sum : ℤ = to_z w128 c.loop-t.sum-bits in
    let part : c.product_of-part.result ≡ (term_at c.args.terms.now i).factor *ℤ c.coefficient_of.result = simp to_z-of_z at c.product_of-part.ensures in
    let within : unsigned_abs (sum +ℤ c.product_of-part.result) ≤ limit =
    omega (
      arith,
      ap unsigned_abs (sum-take c.args.members.now c.args.terms.now i c.args.word.now sum c.product_of-part.result (sum +ℤ c.product_of-part.result) c.coefficient_of.result c.loop-t-test.true c.loop-t.invariant
          c.coefficient_of.ensures.value part refl),
      sum-bound c.args.members.now c.requires.list c.args.terms.now c.requires.numbers c.args.word.now c.requires.fits (i + 1),
    ) in
    simp to_z-of_z within

pub loop-t-preserved : goal.loop-t-preserved
loop-t-preserved c =
    let i : ℕ = c.loop-t.t-index in
    let inside : InHall c.args.members.now (term_at c.args.terms.now i).number = All-get_or (λ t. InHall c.args.members.now t.number) c.args.terms.now i (term (pos 0) 0) c.loop-t-test.true c.requires.numbers in
    let sum : ℤ = to_z w128 c.loop-t.sum-bits in
    elim c.if-degree-word.branch [
      | then-degree-word w ↦
          let ff : FitsSigned w128 ((term_at c.args.terms.now i).factor) = search rules in
          let fc : FitsSigned w128 w.coefficient_of.result = search rules in
          let fp : FitsSigned w128 w.product_of-part.result = search rules in
          let fs : FitsSigned w128 w.sum_of-sum.result = search rules in
          let part : w.product_of-part.result ≡ (term_at c.args.terms.now i).factor *ℤ w.coefficient_of.result = simp to_z-of_z at w.product_of-part.ensures in
          let whole : w.sum_of-sum.result ≡ sum +ℤ w.product_of-part.result = simp to_z-of_z at w.sum_of-sum.ensures in
          w.sum-is
          ∙ to_z-of_z fs
          ∙ sum-take c.args.members.now c.args.terms.now i c.args.word.now sum w.product_of-part.result w.sum_of-sum.result w.coefficient_of.result c.loop-t-test.true c.loop-t.invariant w.coefficient_of.ensures.value part whole
      | else-degree-word w ↦
          w.sum-is
          ∙ sum-pass c.args.members.now c.requires.list c.args.terms.now c.requires.numbers i c.args.word.now sum c.loop-t-test.true c.loop-t.invariant
          (λ here. w.if-degree-word.false (degree-read c.args.members.now (term_at c.args.terms.now i).number c.degree.result inside c.degree.ensures ∙ here))
    ]

pub returns-clause-bound : goal.returns-clause-bound
returns-clause-bound c =
    omega (arith, ap unsigned_abs c.loop-t.invariant, sum-bound c.args.members.now c.requires.list c.args.terms.now c.requires.numbers c.args.word.now c.requires.fits c.loop-t.t-index)
