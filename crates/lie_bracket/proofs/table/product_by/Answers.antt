use Rattle.std.proofs.Common.{◌≡◌, ◌≤◌, ◌<◌, ◌-◌, ◌*◌, ◌^◌, ◌∙◌, ap, sym, subst, arith, suc, ℕ, ℤ, List, pos, length}
use Rattle.definitions.specs.Signature.{limit}
use Rattle.std.specs.Prelude.{slice_index_or, IfOk}
use Rattle.std.proofs.lemmas.List.{take_at}
use Rattle.std.proofs.Math.Nat.{mul-le-mul}
use Rattle.lie_bracket.specs.declared.term.Term.{Term}
use Rattle.lie_bracket.specs.Brackets.{coefficient, bracket_sums}
use Rattle.lie_bracket.specs.Elements.{top}
use Rattle.lie_bracket.specs.Tables.{nonzero}
use Rattle.lie_bracket.specs.Entries.{AreSmall, Numbers, sizes, looked_up}
use Rattle.lie_bracket.proofs.ElementLaws.{sizes-within}
use Rattle.lie_bracket.proofs.TableSteps.{sums-list}
use Rattle.lie_bracket.proofs.table.product_by.Goals as goal

pub add_products-requires-clause-small : goal.add_products-requires-clause-small
add_products-requires-clause-small c =
    let len : c.args.len ≡ length c.deref_mut.result.now = omega (arith, ap length c.deref_mut.ensures.value, c.in_ok-sum.ensures.len) in
    subst (λ (n : ℕ). AreSmall n c.args.entries.now) len c.requires.small

pub add_products-requires-clause-room : goal.add_products-requires-clause-room
add_products-requires-clause-room c =
    let left : sizes c.terms.result.now ≤ 2 ^ 10 * top c.terms.result.now = sizes-within c.args.len c.terms.result.now c.requires.few c.terms.ensures.element (subst (Numbers c.args.len) (sym c.terms.ensures.value) c.requires.left) in
    let right : sizes c.terms-2.result.now ≤ 2 ^ 10 * top c.terms-2.result.now =
    sizes-within c.args.len c.terms-2.result.now c.requires.few c.terms-2.ensures.element (subst (Numbers c.args.len) (sym c.terms-2.ensures.value) c.requires.right) in
    let fits : top c.terms.result.now * top c.terms-2.result.now * 2 ^ 60 ≤ limit =
    subst (λ (xs : List Term). top xs * top c.terms-2.result.now * 2 ^ 60 ≤ limit) (sym c.terms.ensures.value)
    (subst (λ (ys : List Term). top c.args.a.now * top ys * 2 ^ 60 ≤ limit) (sym c.terms-2.ensures.value) c.requires.fits) in
    omega (arith, mul-le-mul left right, fits)

pub returns : goal.returns
returns c =
    let len : length c.add_products.new.sum ≡ c.args.len = omega (arith, c.add_products.auto.sum, ap length c.deref_mut.ensures.value, c.in_ok-sum.ensures.len) in
    let same : c.deref.result.now ≡ c.add_products.new.sum = c.deref.ensures.value ∙ take_at c.add_products.new.sum _ c.in_ok-sum.sum.len (omega (arith, len, c.in_ok-sum.ensures.len)) in
    let value : (i : ℕ) → i < length c.add_products.new.sum → slice_index_or c.add_products.new.sum i (pos 0) ≡ coefficient (suc i) (bracket_sums (looked_up c.args.sign c.args.entries.now) c.args.a.now c.args.b.now) =
    subst (λ (xs : List Term). (i : ℕ) → i < length c.add_products.new.sum → slice_index_or c.add_products.new.sum i (pos 0) ≡ coefficient (suc i) (bracket_sums (looked_up c.args.sign c.args.entries.now) xs c.args.b.now)) c.terms.ensures.value
    (subst (λ (ys : List Term). (i : ℕ) → i < length c.add_products.new.sum → slice_index_or c.add_products.new.sum i (pos 0) ≡ coefficient (suc i) (bracket_sums (looked_up c.args.sign c.args.entries.now) c.terms.result.now ys)) c.terms-2.ensures.value
    c.add_products.ensures.value) in
    let list : nonzero (length c.deref.result.now) (λ h. slice_index_or c.deref.result.now (h - 1) (pos 0)) ≡ nonzero c.args.len (λ h. coefficient h (bracket_sums (looked_up c.args.sign c.args.entries.now) c.args.a.now c.args.b.now)) =
    ap (λ (xs : List ℤ). nonzero (length xs) (λ h. slice_index_or xs (h - 1) (pos 0))) same
    ∙ sums-list c.args.len (bracket_sums (looked_up c.args.sign c.args.entries.now) c.args.a.now c.args.b.now) c.add_products.new.sum len value in
    subst (λ (ts : List Term). IfOk c.from_sums.result (λ z. z ≡ ts)) list c.from_sums.ensures
