-- The tensor of a move's Lie element, and its exponential.
use Rattle.std.proofs.Common.{◌≡◌, ℕ, suc, ◌+◌, ◌*◌, ◌-◌, ◌≤◌, ◌<◌, ◌^◌, sym, ap, ap₂, ◌∙◌, subst, arith, List, [], ◌∷◌, ◌++◌, length, unsigned_abs, append_assoc, ℤ, length-append}
use Rattle.std.specs.Prelude.{All, slice_index_or}
use Rattle.std.proofs.Math.Nat.{mul-le-mul, pow-le-pow_right}
use Rattle.definitions.specs.Words.{Extent, IsShape, IsWord, IsLetter}
use Rattle.definitions.specs.Hall.{degree, hall_list, expansion}
use Rattle.definitions.specs.declared.member.Member.{Member}
use Rattle.definitions.specs.Moves.{Parts, IsMove, IsPlain, plain, first_part, total, parts_series, lie_series, sizes_of, weight_from, move_weight}
use Rattle.hall_set.proofs.GrownLists.{hall_list-IsHall}
use Rattle.lie_steps.proofs.Primitives.{primitive-empty}
use Rattle.lie_steps.proofs.LieSeries.{lie_series-primitive, series-within}
use Rattle.std.proofs.lemmas.List.Elements.{All-weaker}
use Rattle.std.proofs.lemmas.List.Sums.{sum_by_push}
use Rattle.lie_steps.proofs.StepForms.{plain-form_weight, signature-plain_last}
use Rattle.lie_bracket.specs.declared.term.Term.{Term}
use Rattle.lie_bracket.specs.declared.fault.TermsFault.{TermsFault}
use Rattle.lie_bracket.specs.declared.fault.TermsFault.TheVariants.{Place}
use Rattle.lie_bracket.specs.Elements.{IsRefusedBy, IsGoodAt}
use Rattle.lie_bracket.specs.Expanding.{FitsLevel}
use Rattle.lie_bracket.specs.Brackets.{expanded}
use Rattle.lie_bracket.specs.MoveTerms.{part_terms, parts_terms, entry_terms}
use Rattle.lie_bracket.proofs.MoveTerms.{parts-expanded, parts-level, move_terms-good, part-push, first-more, first-same, first_of_degree}
use Rattle.scaled_tensor.specs.Tensors.{TensorValue, coefficient}
use Rattle.tensor_product.specs.Exponentiation.{HasSizes, IsExponentialOf}
use Rattle.tensor_product.specs.Sigs.{SigValue, StandsFor}
use Rattle.tensor_product.proofs.SigLaws.{empty-word}
use Rattle.tensor_product.proofs.ExponentialLaws.{exponential-stands}
use Rattle.words.proofs.MoveSizes.{length-sizes_of}

-- the Lie element of a move of a shape
pub lie_series-of : (extent : Extent) (x : Parts) → IsMove extent x → (w : List ℕ) → lie_series x w ≡ parts_series (hall_list extent.width extent.depth) 1 x w
unfolding lie_series
lie_series-of extent x is w = ap₂ (λ (m n : ℕ). parts_series (hall_list m n) 1 x w) is.letters is.deep

-- the terms of a move's parts expand to its Lie element
pub terms-value : (extent : Extent) (x : Parts) (terms : List Term) (w : List ℕ) → IsMove extent x → terms ≡ parts_terms (hall_list extent.width extent.depth) 1 x
    → expanded (expansion (hall_list extent.width extent.depth)) terms w ≡ lie_series x w
terms-value extent x terms w is et =
    ap (λ (ts : List Term). expanded (expansion (hall_list extent.width extent.depth)) ts w) et ∙ parts-expanded (hall_list extent.width extent.depth) 1 x w ∙ sym (lie_series-of extent x is w)

-- its terms are not refused
pub not-refused : (extent : Extent) (x : Parts) (terms : List Term) (fault : TermsFault) → 1 ≤ extent.depth → All (λ part. total part ≤ 2 ^ 95) x → terms ≡ parts_terms (hall_list extent.width extent.depth) 1 x
    → IsRefusedBy (hall_list extent.width extent.depth) terms fault → ⊥
not-refused extent x terms (Place i) some small et bad =
    let hall : List Member = hall_list extent.width extent.depth in
    bad.bad (subst (λ (ts : List Term). i < length ts → IsGoodAt (length hall) ts i) (sym et) (move_terms-good extent.depth hall (hall_list-IsHall extent.width extent.depth some) x small i) bad.inside)

-- where no part has a total above 2 ^ 95, no level of its terms leaves the range
pub level-fits : (extent : Extent) (x : Parts) (terms : List Term) (k : ℕ) → extent.depth ≤ 8 → All (λ part. total part ≤ 2 ^ 95) x → terms ≡ parts_terms (hall_list extent.width extent.depth) 1 x
    → k ≤ extent.depth → FitsLevel (hall_list extent.width extent.depth) terms k
level-fits extent x terms k few small et le =
    let hall : List Member = hall_list extent.width extent.depth in
    let scale : 2 ^ (k - 1) ≤ 2 ^ 7 = pow-le-pow_right (let some : 0 < 2 = omega arith in some) (let l : k - 1 ≤ 7 = omega arith in l) in
    subst (λ (ts : List Term). FitsLevel hall ts k) (sym et)
    (let both : _ ≤ 2 ^ 95 * 2 ^ 7 = mul-le-mul (parts-level hall k 1 (2 ^ 95) x small) scale in omega (arith, both))

-- the tensor is within the sizes of the move
pub move-HasSizes : (extent : Extent) (x : Parts) (z : TensorValue) (sizes : List ℕ) → IsShape extent → IsMove extent x → z.extent ≡ extent → ((word : List ℕ) → IsWord extent word → coefficient z word ≡ lie_series x word)
    → sizes ≡ sizes_of x → All (λ p. p ≤ 2 ^ 102) sizes → HasSizes z sizes
move-HasSizes extent x z sizes shape is same values es small =
    record {
      starts = values [] (empty-word extent) ∙ primitive-empty (lie_series x) (lie_series-primitive x);
      each = ap length es ∙ length-sizes_of x ∙ is.deep ∙ sym (ap (λ (e : Extent). e.depth) same);
      small = small;
      within = λ k word is_z len.
          let is_word : IsWord extent word = subst (λ (e : Extent). IsWord e word) same is_z in
          let bound : unsigned_abs (parts_series (hall_list extent.width extent.depth) 1 x word) ≤ slice_index_or (sizes_of x) k 0 =
          series-within extent.depth (hall_list extent.width extent.depth) (hall_list-IsHall extent.width extent.depth shape.some_depth) x k word len in
          omega (arith, bound, ap unsigned_abs (values word is_word ∙ lie_series-of extent x is word), ap (λ (ps : List ℕ). slice_index_or ps k 0) es);
    }

-- the weight of the sizes of a move is that of the move
pub move-weight_is : (extent : Extent) (x : Parts) (sizes : List ℕ) → IsMove extent x → sizes ≡ sizes_of x → weight_from extent.depth 1 sizes ≡ move_weight x
unfolding move_weight
move-weight_is extent x sizes is es = ap₂ (λ (n : ℕ) (ps : List ℕ). weight_from n 1 ps) (sym is.deep) es

-- the exponential of the tensor of a move's Lie element is the signature of this one move
pub move-stands : (extent : Extent) (x : Parts) (z : TensorValue) (sizes : List ℕ) (s : SigValue) → IsMove extent x → z.extent ≡ extent → ((word : List ℕ) → IsWord extent word → coefficient z word ≡ lie_series x word)
    → sizes ≡ sizes_of x → IsExponentialOf z sizes s → StandsFor s (x ∷ [])
move-stands extent x z sizes s is same values es made =
    exponential-stands z x s (is.deep ∙ sym (ap (λ (e : Extent). e.depth) same))
    (λ word is_z. values word (subst (λ (e : Extent). IsWord e word) same is_z))
    (subst (λ (ps : List ℕ). IsExponentialOf z ps s) es made)

-- ---- one member more
-- a member of degree n takes the next entry and adds its term
pub entry-added : (hall : List Member) (n at place : ℕ) (start old new : List Term) (entries : List ℤ) → degree hall (at + 1) ≡ n → place ≡ length (first_of_degree hall n at)
    → old ≡ start ++ part_terms (first_of_degree hall n at) entries → new ≡ old ++ entry_terms (at + 1) entries place
    → (place + 1 ≡ length (first_of_degree hall n (at + 1))) × (new ≡ start ++ part_terms (first_of_degree hall n (at + 1)) entries)
entry-added hall n at place start old new entries ed ep eo en =
    let one : at + 1 ≡ suc at = omega arith in
    let hs : List ℕ = first_of_degree hall n at in
    let more : first_of_degree hall n (at + 1) ≡ hs ++ suc at ∷ [] = ap (first_of_degree hall n) one ∙ first-more hall n at (ap (degree hall) (sym one) ∙ ed) in (
      omega (arith, ap length more, length-append hs (suc at ∷ []), ep),
      en ∙ ap₂ (λ (ts : List Term) (h : ℕ). ts ++ entry_terms h entries place) eo one
          ∙ append_assoc start (part_terms hs entries) (entry_terms (suc at) entries place)
          ∙ ap (λ (i : ℕ). start ++ (part_terms hs entries ++ entry_terms (suc at) entries i)) ep
          ∙ ap (λ (ts : List Term). start ++ ts) (sym (part-push hs (suc at) entries))
          ∙ ap (λ (ks : List ℕ). start ++ part_terms ks entries) (sym more),
    )

-- a member of another degree takes no entry and adds no term
pub entry-passed : (hall : List Member) (n at place : ℕ) (start old : List Term) (entries : List ℤ) → (degree hall (at + 1) ≡ n → ⊥) → place ≡ length (first_of_degree hall n at)
    → old ≡ start ++ part_terms (first_of_degree hall n at) entries
    → (place ≡ length (first_of_degree hall n (at + 1))) × (old ≡ start ++ part_terms (first_of_degree hall n (at + 1)) entries)
entry-passed hall n at place start old entries ne ep eo =
    let one : at + 1 ≡ suc at = omega arith in
    let same : first_of_degree hall n (at + 1) ≡ first_of_degree hall n at = ap (first_of_degree hall n) one ∙ first-same hall n at (λ e. ne (ap (degree hall) one ∙ e)) in
    (ep ∙ ap length (sym same), eo ∙ ap (λ (ks : List ℕ). start ++ part_terms ks entries) (sym same))

-- ---- plain rows
-- a signature of moves and the plain move of x's first part is one of the moves and x, where x is plain
pub plain-stands : (s : SigValue) (moves : List Parts) (depth : ℕ) (x : Parts) → 1 ≤ length x → IsPlain x → StandsFor s (moves ++ plain depth (first_part x) ∷ []) → StandsFor s (moves ++ x ∷ [])
plain-stands s moves depth x some is stands = record {
  weighs = omega (arith, stands.weighs, sum_by_push move_weight moves (plain depth (first_part x)), sum_by_push move_weight moves x, plain-form_weight depth x is);
  coefficients = λ word is_word.
      stands.coefficients word is_word
      ∙ signature-plain_last moves depth x word some is (All-weaker (IsLetter s.tensor.extent.width) (λ a. 1 ≤ a) (λ a l. l.0) word is_word.letters);
}
