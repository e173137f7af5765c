use Rattle.std.proofs.Common.{◌≡◌, ◌-◌, ◌∷◌, ◌∙◌, ap, arith, ℕ, ℤ, List, pos, length, Result, Ok, Err}
use Rattle.std.specs.Prelude.{slice_index_or, IfOk, All}
use Rattle.std.proofs.lemmas.List.{take_at}
use Rattle.definitions.specs.Words.{Extent, IsLetter}
use Rattle.lie_bracket.specs.declared.term.Term.{Term}
use Rattle.lie_bracket.specs.Tables.{nonzero}
use Rattle.lie_bracket.proofs.TableSteps.{sums-list}
use Rattle.dynkin_map.specs.Coordinates.{image}
use Rattle.dynkin_map.specs.Table.{row_of}
use Rattle.dynkin_map.proofs.CoordinateSteps.{members_of}
use Rattle.dynkin_map.proofs.LongerWords.{brackets_of}
use Rattle.dynkin_map.proofs.images.image_with.Goals as goal

if_ok-each : {E : Type 0} (f : List ℕ → List Term) (P Q R : List ℕ → Type 0) (x : List Term) (r : Result (List Term) E) → IfOk r (λ z. z ≡ x) → ((word : List ℕ) → P word → Q word → R word → x ≡ f word)
    → IfOk r (λ z. (word : List ℕ) → P word → Q word → R word → z ≡ f word)
if_ok-each f P Q R x (Ok z) same each = λ word p q r. same ∙ each word p q r
if_ok-each f P Q R x (Err e) same each = same

pub returns : goal.returns
returns c =
    let extent : Extent = c.args.table.now in
    let n : ℕ = length (members_of extent) in
    let len : length c.write_image.new.sum ≡ n = omega (arith, c.write_image.auto.sum, ap length c.deref_mut.ensures.value, c.in_ok-sum.ensures.len, c.requires.len) in
    let same : c.deref.result.now ≡ c.write_image.new.sum = c.deref.ensures.value ∙ take_at c.write_image.new.sum _ c.in_ok-sum.sum.len (omega (arith, c.write_image.auto.sum, ap length c.deref_mut.ensures.value, c.in_ok-sum.ensures.len)) in
    if_ok-each (λ word. row_of extent (c.args.a ∷ word)) (λ word. All (IsLetter extent.width) word) (λ word. length word ≡ c.args.k) (λ word. c.args.row.now ≡ row_of extent word)
    (nonzero (length c.deref.result.now) (λ h. slice_index_or c.deref.result.now (h - 1) (pos 0))) c.from_sums.result c.from_sums.ensures
    (λ word letters long row.
    ap (λ (xs : List ℤ). nonzero (length xs) (λ h. slice_index_or xs (h - 1) (pos 0))) same
    ∙ sums-list n (image (brackets_of extent) (c.args.a ∷ word)) c.write_image.new.sum len (c.write_image.ensures.value word letters long row))
