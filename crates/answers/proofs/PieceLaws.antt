-- Texts that stand one after another, one more of them, and one by its number.
use Rattle.std.proofs.Common.{◌≡◌, ℕ, zero, suc, ◌-◌, ◌<◌, ◌≤◌, refl, ap, ap₂, ◌∙◌, arith, List, [], ◌∷◌, ◌++◌, length, take, drop, get_or, length-append, length-drop, inl, inr}
use Rattle.std.specs.Prelude.{slice_range}
use Rattle.std.specs.Str.{IsUtf8, IsCharBoundary}
use Rattle.std.proofs.lemmas.Bool.{cases_eq}
use Rattle.std.proofs.lemmas.List.{get_or_append_left, drop-append-le, take-append-le, drop_at, take_all}
use Rattle.std.proofs.lemmas.Str.{IsCharBoundary-at_seam, IsCharBoundary-end}
use Rattle.answers.specs.Pieces.{pieces, AreCuts}

-- text after the bytes changes no place where they may be cut
boundary-append : (bytes text : List ℕ) (i : ℕ) → IsUtf8 text → IsCharBoundary bytes i → IsCharBoundary (bytes ++ text) i
boundary-append bytes text i utf8 cut =
    elim (cases_eq i (length bytes)) [
      | inl e ↦ rw e (IsCharBoundary-at_seam (bytes ++ text) bytes text refl utf8)
      | inr other ↦
          let within : i < length bytes = omega (arith, cut.0, other) in
          let same : get_or (bytes ++ text) i 0 ≡ get_or bytes i 0 = get_or_append_left bytes text 0 i within in
          (omega (arith, length-append bytes text, cut.0), (λ _. rw same (cut.1 within)))
    ]

-- nor what stands before
slice-append : (bytes text : List ℕ) (from to : ℕ) → from ≤ to → to ≤ length bytes → slice_range (bytes ++ text) from to ≡ slice_range bytes from to
slice-append bytes text from to rising within =
    ap (take (to - from)) (drop-append-le from bytes text (omega arith))
    ∙ take-append-le (to - from) (drop from bytes) text (omega (arith, length-drop from bytes))

slice-last : (bytes text : List ℕ) → slice_range (bytes ++ text) (length bytes) (length (bytes ++ text)) ≡ text
slice-last bytes text =
    ap (take (length (bytes ++ text) - length bytes)) (drop_at bytes text (length bytes) refl)
    ∙ take_all (length (bytes ++ text) - length bytes) text (omega (arith, length-append bytes text))

-- one text more
pub cuts-push : (bytes text : List ℕ) (places : List ℕ) → IsUtf8 text → AreCuts bytes places → AreCuts (bytes ++ text) (places ++ length (bytes ++ text) ∷ [])
cuts-push bytes text [] utf8 cuts = absurd cuts
cuts-push bytes text (to ∷ []) utf8 cuts =
    (omega (arith, length-append bytes text, cuts), rw cuts (IsCharBoundary-at_seam (bytes ++ text) bytes text refl utf8), refl)
cuts-push bytes text (from ∷ to ∷ places) utf8 cuts =
    (cuts.0, boundary-append bytes text from utf8 cuts.1, cuts-push bytes text (to ∷ places) utf8 cuts.2)

-- each place is within the bytes
first-within : (bytes : List ℕ) (place : ℕ) (places : List ℕ) → AreCuts bytes (place ∷ places) → IsCharBoundary bytes place
first-within bytes place [] cuts = rw cuts (IsCharBoundary-end bytes)
first-within bytes place (to ∷ places) cuts = cuts.1

pub pieces-push : (bytes text : List ℕ) (places : List ℕ) → AreCuts bytes places → pieces (bytes ++ text) (places ++ length (bytes ++ text) ∷ []) ≡ pieces bytes places ++ text ∷ []
pieces-push bytes text [] cuts = absurd cuts
pieces-push bytes text (to ∷ []) cuts = ap (λ (piece : List ℕ). piece ∷ []) (rw cuts (slice-last bytes text))
pieces-push bytes text (from ∷ to ∷ places) cuts =
    let within : IsCharBoundary bytes to = first-within bytes to places cuts.2 in
    ap₂ (λ (piece : List ℕ) (rest : List (List ℕ)). piece ∷ rest) (slice-append bytes text from to cuts.0 within.0) (pieces-push bytes text (to ∷ places) cuts.2)

-- the text of a number, between two places where text may be cut
pub record IsPiece (bytes places : List ℕ) (i : ℕ) : Type 0 where
  pub within : suc i < length places
  pub rising : get_or places i 0 ≤ get_or places (suc i) 0
  pub from : IsCharBoundary bytes (get_or places i 0)
  pub to : IsCharBoundary bytes (get_or places (suc i) 0)
  pub piece_is : slice_range bytes (get_or places i 0) (get_or places (suc i) 0) ≡ get_or (pieces bytes places) i []

pub piece-at : (bytes places : List ℕ) (i : ℕ) → AreCuts bytes places → i < length (pieces bytes places) → IsPiece bytes places i
piece-at bytes [] i cuts h = absurd cuts
piece-at bytes (to ∷ []) i cuts h = absurd (omega arith)
piece-at bytes (from ∷ to ∷ places) zero cuts h = record {
  within = omega arith;
  rising = cuts.0;
  from = cuts.1;
  to = first-within bytes to places cuts.2;
  piece_is = refl;
}
piece-at bytes (from ∷ to ∷ places) (suc i) cuts h =
    let rest : IsPiece bytes (to ∷ places) i = piece-at bytes (to ∷ places) i cuts.2 (omega arith) in record {
      within = omega (arith, rest.within);
      rising = rest.rising;
      from = rest.from;
      to = rest.to;
      piece_is = rest.piece_is;
    }
