-- Texts one after another in one list of bytes, by the places where they are cut.
use Rattle.std.specs.Prelude.{◌≡◌, ℕ, ◌≤◌, List, [], ◌∷◌, length, slice_range}
use Rattle.std.specs.Str.{IsCharBoundary}

-- what stands between each place and the next
abbrev pub pieces : List ℕ → List ℕ → List (List ℕ)
pieces bytes [] = []
pieces bytes (from ∷ []) = []
pieces bytes (from ∷ to ∷ places) = slice_range bytes from to ∷ pieces bytes (to ∷ places)

-- the places don't fall, text may be cut at each, and the last one is the end
abbrev pub AreCuts : List ℕ → List ℕ → Type 0
AreCuts bytes [] = ⊥
AreCuts bytes (to ∷ []) = to ≡ length bytes
AreCuts bytes (from ∷ to ∷ places) = (from ≤ to) × IsCharBoundary bytes from × AreCuts bytes (to ∷ places)
