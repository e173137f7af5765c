use Rattle.std.proofs.Common.{◌≡◌, ◌≤◌, ◌<◌, ◌^◌, ◌∙◌, ap₂, sym, subst, rules, arith, ℕ, ℤ, pos, ◌+ℤ◌, ◌*ℤ◌, unsigned_abs, to_z, of_z, to_z-of_z, FitsSigned}
use Rattle.std.proofs.lemmas.Int.{to_z_pos}
use mir.Syntax.{w128}
use Rattle.tensor_product.proofs.extend.next_sum.Goals as goal

grown-kept : (product sum entry : ℤ) → FitsSigned w128 product → FitsSigned w128 sum → FitsSigned w128 entry
    → product ≡ to_z w128 (of_z w128 sum) *ℤ to_z w128 (of_z w128 entry) → to_z w128 (of_z w128 product) ≡ sum *ℤ entry
grown-kept product sum entry fp fs fe e = to_z-of_z fp ∙ e ∙ ap₂ ◌*ℤ◌ (to_z-of_z fs) (to_z-of_z fe)

added-kept : (product prefix : ℤ) (ways : ℕ) → FitsSigned w128 product → FitsSigned w128 prefix → ways < 2 ^ 64
    → product ≡ to_z w128 ways *ℤ to_z w128 (of_z w128 prefix) → to_z w128 (of_z w128 product) ≡ pos ways *ℤ prefix
added-kept product prefix ways fp fx fw e = to_z-of_z fp ∙ e ∙ ap₂ ◌*ℤ◌ (to_z_pos w128 ways (omega arith)) (to_z-of_z fx)

pub sum_of-requires-clause-sum : goal.sum_of-requires-clause-sum
sum_of-requires-clause-sum g c =
    let grown : to_z w128 (of_z w128 c.product_of.result) ≡ c.args.sum *ℤ c.args.entry = grown-kept c.product_of.result c.args.sum c.args.entry (search rules) (search rules) (search rules) c.product_of.ensures.value in
    let added : to_z w128 (of_z w128 c.product_of-2.result) ≡ pos c.args.ways *ℤ c.args.prefix = added-kept c.product_of-2.result c.args.prefix c.args.ways (search rules) (search rules) (omega arith) c.product_of-2.ensures.value in
    subst (λ (z : ℤ). unsigned_abs z ≤ g.A.Arithmetic.most) (sym (ap₂ ◌+ℤ◌ grown added)) c.requires.summed

pub returns : goal.returns
returns g c =
    let grown : to_z w128 (of_z w128 c.product_of.result) ≡ c.args.sum *ℤ c.args.entry = grown-kept c.product_of.result c.args.sum c.args.entry (search rules) (search rules) (search rules) c.product_of.ensures.value in
    let added : to_z w128 (of_z w128 c.product_of-2.result) ≡ pos c.args.ways *ℤ c.args.prefix = added-kept c.product_of-2.result c.args.prefix c.args.ways (search rules) (search rules) (omega arith) c.product_of-2.ensures.value in
    let fits : FitsSigned w128 c.sum_of.result = search rules in
    to_z-of_z fits ∙ c.sum_of.ensures.value ∙ ap₂ ◌+ℤ◌ grown added
