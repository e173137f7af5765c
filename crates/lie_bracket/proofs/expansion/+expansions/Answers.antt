use Rattle.std.proofs.Common.{◌≡◌, ◌≤◌, ◌-◌, ◌^◌, ◌∙◌, ap, ap₂, arith, rules, ℕ, length, unsigned_abs, ◌*ℤ◌, ◌-ℤ◌, FitsSigned, to_z-of_z}
use mir.Syntax.{w128}
use Rattle.definitions.specs.Signature.{limit}
use Rattle.lie_bracket.proofs.ExpandSteps.{AreParents, parents-read, pair-read, letter-here, letter-elsewhere, power-small, abs-difference, IsProduct, product-read}
use Rattle.lie_bracket.proofs.expansion.+expansions.Goals as goal

pub coefficient_of-product_at-requires : goal.coefficient_of-product_at-requires
coefficient_of-product_at-requires t c =
    let p : AreParents c.args.members.now c.args.h c.in-Pair.left c.in-Pair.right = parents-read c.args.members.now c.requires.list c.args.h c.in-Pair.degree c.in-Pair.left c.in-Pair.right c.requires.number c.in-Pair.is in
    (omega (arith, c.decreases, p.left_earlier, p.right_earlier), (c.requires.list, (p.left_in, (p.right_in, c.requires.letters ∙ p.sum))))

pub coefficient_of-product_at-requires-in-Pair : goal.coefficient_of-product_at-requires-in-Pair
coefficient_of-product_at-requires-in-Pair t c =
    let p : AreParents c.args.members.now c.args.h c.in-Pair.left c.in-Pair.right = parents-read c.args.members.now c.requires.list c.args.h c.in-Pair.degree c.in-Pair.left c.in-Pair.right c.requires.number c.in-Pair.is in
    (omega (arith, c.decreases, p.left_earlier, p.right_earlier), (c.requires.list, (p.right_in, (p.left_in, omega (arith, c.requires.letters, p.sum)))))

pub coefficient_of-difference_of-requires : goal.coefficient_of-difference_of-requires
coefficient_of-difference_of-requires t c =
    let p : AreParents c.args.members.now c.args.h c.in-Pair.left c.in-Pair.right = parents-read c.args.members.now c.requires.list c.args.h c.in-Pair.degree c.in-Pair.left c.in-Pair.right c.requires.number c.in-Pair.is in
    let fa : FitsSigned w128 c.product_at.result = search rules in
    let fb : FitsSigned w128 c.product_at-in-Pair.result = search rules in
    let k : ℕ = length c.args.word.now in
    let some : 2 ≤ k = omega (arith, c.requires.letters, p.sum, p.left_some, p.right_some) in
    let small : 2 ^ (k - 1) ≤ limit = power-small (k - 1) (omega (arith, c.requires.letters, p.small)) in
    let bound : unsigned_abs (c.product_at.result -ℤ c.product_at-in-Pair.result) ≤ 2 ^ (k - 1) = abs-difference k c.product_at.result c.product_at-in-Pair.result some c.product_at.ensures.bound c.product_at-in-Pair.ensures.bound in
    let within : unsigned_abs (c.product_at.result -ℤ c.product_at-in-Pair.result) ≤ limit = omega (arith, bound, small) in
    simp to_z-of_z within

pub coefficient_of-returns-in-Pair-clause-value : goal.coefficient_of-returns-in-Pair-clause-value
coefficient_of-returns-in-Pair-clause-value t c =
    let fa : FitsSigned w128 c.product_at.result = search rules in
    let fb : FitsSigned w128 c.product_at-in-Pair.result = search rules in
    let fd : FitsSigned w128 c.difference_of.result = search rules in
    let is : c.difference_of.result ≡ c.product_at.result -ℤ c.product_at-in-Pair.result = simp to_z-of_z at c.difference_of.ensures in
    simp to_z-of_z
    (is ∙ ap₂ ◌-ℤ◌ c.product_at.ensures.value c.product_at-in-Pair.ensures.value
    ∙ pair-read c.args.members.now c.requires.list c.args.h c.in-Pair.degree c.in-Pair.left c.in-Pair.right c.requires.number c.in-Pair.is c.args.word.now c.requires.letters)

pub coefficient_of-returns-in-Pair-clause-bound : goal.coefficient_of-returns-in-Pair-clause-bound
coefficient_of-returns-in-Pair-clause-bound t c =
    let p : AreParents c.args.members.now c.args.h c.in-Pair.left c.in-Pair.right = parents-read c.args.members.now c.requires.list c.args.h c.in-Pair.degree c.in-Pair.left c.in-Pair.right c.requires.number c.in-Pair.is in
    let fa : FitsSigned w128 c.product_at.result = search rules in
    let fb : FitsSigned w128 c.product_at-in-Pair.result = search rules in
    let fd : FitsSigned w128 c.difference_of.result = search rules in
    let is : c.difference_of.result ≡ c.product_at.result -ℤ c.product_at-in-Pair.result = simp to_z-of_z at c.difference_of.ensures in
    let k : ℕ = length c.args.word.now in
    let some : 2 ≤ k = omega (arith, c.requires.letters, p.sum, p.left_some, p.right_some) in
    let bound : unsigned_abs (c.product_at.result -ℤ c.product_at-in-Pair.result) ≤ 2 ^ (k - 1) = abs-difference k c.product_at.result c.product_at-in-Pair.result some c.product_at.ensures.bound c.product_at-in-Pair.ensures.bound in
    let within : unsigned_abs c.difference_of.result ≤ 2 ^ (k - 1) = omega (arith, bound, ap unsigned_abs is) in
    simp to_z-of_z within

pub coefficient_of-returns-then-word-h-clause-value : goal.coefficient_of-returns-then-word-h-clause-value
coefficient_of-returns-then-word-h-clause-value t c = letter-here c.args.members.now c.args.h c.requires.number c.in-Letter.is c.args.word.now c.requires.letters c.if-word-h.true

pub coefficient_of-returns-else-word-h-clause-value : goal.coefficient_of-returns-else-word-h-clause-value
coefficient_of-returns-else-word-h-clause-value t c = letter-elsewhere c.args.members.now c.args.h c.requires.number c.in-Letter.is c.args.word.now c.requires.letters c.if-word-h.false

pub product_at-product_of-requires : goal.product_at-product_of-requires
product_at-product_of-requires t c =
    let fa : FitsSigned w128 c.coefficient_of-first.result = search rules in
    let fb : FitsSigned w128 c.coefficient_of.result = search rules in
    let p : IsProduct c.args.members.now c.args.i c.args.j c.args.word.now c.coefficient_of-first.result c.coefficient_of.result =
    product-read c.args.members.now c.requires.list c.args.i c.args.j c.requires.left c.requires.right c.args.word.now c.split_at.result.0.now c.split_at.result.1.now c.degree.result c.coefficient_of-first.result c.coefficient_of.result
    c.degree.ensures c.requires.letters c.split_at.ensures.front c.split_at.ensures.back c.split_at.ensures.front_len c.split_at.ensures.back_len c.coefficient_of-first.ensures.value c.coefficient_of.ensures.value
    c.coefficient_of-first.ensures.bound c.coefficient_of.ensures.bound in
    simp to_z-of_z p.in_range

pub product_at-returns-clause-value : goal.product_at-returns-clause-value
product_at-returns-clause-value t c =
    let fa : FitsSigned w128 c.coefficient_of-first.result = search rules in
    let fb : FitsSigned w128 c.coefficient_of.result = search rules in
    let p : IsProduct c.args.members.now c.args.i c.args.j c.args.word.now c.coefficient_of-first.result c.coefficient_of.result =
    product-read c.args.members.now c.requires.list c.args.i c.args.j c.requires.left c.requires.right c.args.word.now c.split_at.result.0.now c.split_at.result.1.now c.degree.result c.coefficient_of-first.result c.coefficient_of.result
    c.degree.ensures c.requires.letters c.split_at.ensures.front c.split_at.ensures.back c.split_at.ensures.front_len c.split_at.ensures.back_len c.coefficient_of-first.ensures.value c.coefficient_of.ensures.value
    c.coefficient_of-first.ensures.bound c.coefficient_of.ensures.bound in
    let fp : FitsSigned w128 c.product_of.result = search rules in
    let is : c.product_of.result ≡ c.coefficient_of-first.result *ℤ c.coefficient_of.result = simp to_z-of_z at c.product_of.ensures in
    simp to_z-of_z (is ∙ p.value)

pub product_at-returns-clause-bound : goal.product_at-returns-clause-bound
product_at-returns-clause-bound t c =
    let fa : FitsSigned w128 c.coefficient_of-first.result = search rules in
    let fb : FitsSigned w128 c.coefficient_of.result = search rules in
    let p : IsProduct c.args.members.now c.args.i c.args.j c.args.word.now c.coefficient_of-first.result c.coefficient_of.result =
    product-read c.args.members.now c.requires.list c.args.i c.args.j c.requires.left c.requires.right c.args.word.now c.split_at.result.0.now c.split_at.result.1.now c.degree.result c.coefficient_of-first.result c.coefficient_of.result
    c.degree.ensures c.requires.letters c.split_at.ensures.front c.split_at.ensures.back c.split_at.ensures.front_len c.split_at.ensures.back_len c.coefficient_of-first.ensures.value c.coefficient_of.ensures.value
    c.coefficient_of-first.ensures.bound c.coefficient_of.ensures.bound in
    let fp : FitsSigned w128 c.product_of.result = search rules in
    let is : c.product_of.result ≡ c.coefficient_of-first.result *ℤ c.coefficient_of.result = simp to_z-of_z at c.product_of.ensures in
    let within : unsigned_abs c.product_of.result ≤ 2 ^ (length c.args.word.now - 2) = omega (arith, ap unsigned_abs is, p.bound) in
    simp to_z-of_z within
