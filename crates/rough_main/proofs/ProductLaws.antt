-- What is due to moves, and that its coordinates expand to the logarithm of the product of their exponentials.
use Rattle.std.proofs.Common.{◌≡◌, ◌∙◌, ◌≤◌, ℕ, Bool, true, false, cond, List, Some, None, Option, sym, ap, ap₂, subst, inl, inr}
use Rattle.std.proofs.lemmas.Bool.{cases_Bool}
use Rattle.definitions.specs.Words.{Extent}
use Rattle.definitions.specs.Moves.{Parts}
use Rattle.definitions.specs.Signature.{Fits, signature, weight}
use Rattle.definitions.specs.Logarithm.{logarithm}
use Rattle.definitions.specs.Hall.{hall_list}
use Rattle.lie_bracket.specs.declared.term.Term.{Term}
use Rattle.lie_bracket.specs.Tables.{heavy_pair}
use Rattle.dynkin_map.specs.Coordinates.{heavy_level, lie_bounds, coordinates}
use Rattle.dynkin_map.proofs.LogarithmsInCoordinates.{logarithm-expands}
use Rattle.basis_cell.specs.Faults.{AreLight}
use Rattle.book.specs.declared.query.Allowed.{Allowed}
use Rattle.book.specs.declared.query.Allowed.TheVariants as allowed
use Rattle.book.specs.declared.step.LookReply.TheVariants as looks
use Rattle.book.specs.Play.{fits_from, weighed}
use Rattle.book.proofs.FitLaws.{weighed-fits, weighed-over}
use Rattle.session.specs.Play.{allowed_by}
use Rattle.session.specs.Logarithms.{ExpandsTo}
use Rattle.answers.specs.declared.cbh.CbhResult.TheVariants as results
use Rattle.rough_main.specs.Elements.{product_by, product_due, ListExpands}

-- ---- weights
tested : (factors : List ℕ) (v : ℕ) → Fits factors v → fits_from 1 factors v ≡ true
tested factors v fits =
    elim (cases_Bool (fits_from 1 factors v)) [
      | inl holds ↦ holds
      | inr fails ↦
          let over : weighed factors v ≡ Some (looks.Overflow v) = ap (λ (t : Bool). cond t None (Some (looks.Overflow v))) fails in
          let clash : None ≡ Some (looks.Overflow v) = sym (weighed-fits factors v fits) ∙ over in absurd (cc)
    ]

untested : (factors : List ℕ) (v : ℕ) → ¬ Fits factors v → fits_from 1 factors v ≡ false
untested factors v over =
    elim (cases_Bool (fits_from 1 factors v)) [
      | inl holds ↦
          let none : weighed factors v ≡ None = ap (λ (t : Bool). cond t None (Some (looks.Overflow v))) holds in
          let clash : None ≡ Some (looks.Overflow v) = sym none ∙ weighed-over factors v over in absurd (cc)
      | inr fails ↦ fails
    ]

-- ---- what is due
light-due : (extent : Extent) (moves : List Parts) → AreLight extent → product_by (allowed.Fits (lie_bounds extent)) extent moves ≡ product_due extent moves
light-due extent moves light = sym (ap₂ (λ (p : Option (ℕ × ℕ)) (l : Option ℕ). product_by (allowed_by p l (lie_bounds extent)) extent moves) light.pairs light.levels)

-- where the weight fits, the coordinates of the logarithm
pub lie-due : (extent : Extent) (moves : List Parts) → AreLight extent → Fits (lie_bounds extent) (weight moves) → results.Lie (coordinates extent (logarithm (signature moves))) ≡ product_due extent moves
lie-due extent moves light fits =
    sym (ap (λ (t : Bool). cond t (results.Lie (coordinates extent (logarithm (signature moves)))) (results.Overflow (weight moves))) (tested (lie_bounds extent) (weight moves) fits))
    ∙ light-due extent moves light

-- else the weight
pub overflow-due : (extent : Extent) (moves : List Parts) → AreLight extent → ¬ Fits (lie_bounds extent) (weight moves) → results.Overflow (weight moves) ≡ product_due extent moves
overflow-due extent moves light over =
    sym (ap (λ (t : Bool). cond t (results.Lie (coordinates extent (logarithm (signature moves)))) (results.Overflow (weight moves))) (untested (lie_bounds extent) (weight moves) over))
    ∙ light-due extent moves light

-- a pair that is too heavy
pub pair-due : (extent : Extent) (moves : List Parts) (a b : ℕ) → heavy_pair extent.depth (hall_list extent.width extent.depth) ≡ Some (a, b) → results.Pair a b ≡ product_due extent moves
pair-due extent moves a b is = sym (ap (λ (p : Option (ℕ × ℕ)). product_by (allowed_by p (heavy_level extent) (lie_bounds extent)) extent moves) is)

-- a degree that is too heavy
pub level-due : (extent : Extent) (moves : List Parts) (k : ℕ) → heavy_pair extent.depth (hall_list extent.width extent.depth) ≡ None → heavy_level extent ≡ Some k → results.Level k ≡ product_due extent moves
level-due extent moves k pairs is = sym (ap₂ (λ (p : Option (ℕ × ℕ)) (l : Option ℕ). product_by (allowed_by p l (lie_bounds extent)) extent moves) pairs is)

-- ---- expansion
lie-chosen : (test : Bool) (terms due : List Term) (v : ℕ) → cond test (results.Lie terms) (results.Overflow v) ≡ results.Lie due → terms ≡ due
lie-chosen true terms due v is = let same : results.Lie terms ≡ results.Lie due = is in cc
lie-chosen false terms due v is = let same : results.Overflow v ≡ results.Lie due = is in absurd (cc)

lie-is : (a : Allowed) (extent : Extent) (moves : List Parts) (due : List Term) → product_by a extent moves ≡ results.Lie due → coordinates extent (logarithm (signature moves)) ≡ due
lie-is (allowed.Pair x y) extent moves due is = let same : results.Pair x y ≡ results.Lie due = is in absurd (cc)
lie-is (allowed.Level k) extent moves due is = let same : results.Level k ≡ results.Lie due = is in absurd (cc)
lie-is (allowed.Fits factors) extent moves due is = lie-chosen (fits_from 1 factors (weight moves)) (coordinates extent (logarithm (signature moves))) due (weight moves) is

-- the coordinates that are due expand, for shapes whose words have at most 8 letters
pub list-expands : (extent : Extent) (moves : List Parts) → extent.depth ≤ 8 → ListExpands (record { extent = extent; moves = moves })
list-expands extent moves small = λ terms is.
    subst (λ (ts : List Term). ExpandsTo extent ts (logarithm (signature moves))) (lie-is _ extent moves terms is) (record { expands = logarithm-expands extent moves small })
