-- The first of the pieces between commas.
use Rattle.std.proofs.Common.{◌≡◌, ℕ, ◌+◌, ◌<◌, ◌==◌, List, [], ◌∷◌, length, Option, Some, None, MatchOption, Bor, arith, refl, ap, length-drop}
use Rattle.std.specs.List.{position_or_len, before_first, after_first}
use Rattle.std.proofs.lemmas.Grind.{common_steps}
use Rattle.command_line.specs.Values.{pieces_of}

-- up to the end
whole_piece : (value : List ℕ) → position_or_len (λ c. c == 44) value ≡ length value → pieces_of value ≡ value ∷ []
whole_piece [] none = refl
whole_piece (c ∷ value) none = grind (arith, common_steps, whole_piece value)

-- up to the first comma
piece_before_comma : (value : List ℕ) → position_or_len (λ c. c == 44) value < length value → pieces_of value ≡ before_first (λ c. c == 44) value ∷ pieces_of (after_first (λ c. c == 44) value)
piece_before_comma [] some = absurd (omega arith)
piece_before_comma (c ∷ value) some = grind (arith, common_steps, piece_before_comma value)

-- the first piece, and what follows its comma
pub first_piece : (value : List ℕ) (split : Option (Bor (List ℕ) × Bor (List ℕ))) →
    MatchOption split (position_or_len (λ c. c == 44) value ≡ length value) (λ r. (position_or_len (λ c. c == 44) value < length value) × (r.0.now ≡ before_first (λ c. c == 44) value) × (r.1.now ≡ after_first (λ c. c == 44) value)) →
    MatchOption split (pieces_of value ≡ value ∷ []) (λ r. (pieces_of value ≡ r.0.now ∷ pieces_of r.1.now) × (length r.1.now < length value))
first_piece value None none = whole_piece value none
first_piece value (Some (piece, rest)) found =
    (rw (found.1, found.2) (piece_before_comma value found.0), omega (arith, found.0, ap length found.2, length-drop (position_or_len (λ c. c == 44) value + 1) value))
