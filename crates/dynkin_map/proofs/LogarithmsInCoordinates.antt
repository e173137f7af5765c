-- The Hall coordinates of the logarithm of a signature expand to it.
use Rattle.std.proofs.Common.{◌≡◌, ℕ, ◌≤◌, arith, List, length}
use Rattle.std.specs.Prelude.{pos, ◌*ℤ◌}
use Rattle.definitions.specs.Words.{Extent, IsWord}
use Rattle.definitions.specs.Hall.{hall_list, expansion}
use Rattle.definitions.specs.Logarithm.{logarithm}
use Rattle.definitions.specs.Moves.{Parts}
use Rattle.definitions.specs.Signature.{signature}
use Rattle.exp_log.proofs.LogarithmsOnShuffles.{signature-IsGrouplike, logarithm-shuffles}
use Rattle.lie_bracket.specs.Brackets.{expanded}
use Rattle.dynkin_map.specs.Coordinates.{coordinates}
use Rattle.dynkin_map.proofs.DynkinTheorem.{coordinates-theorem}

-- at a word of k letters to k times the logarithm
pub logarithm-expands : (extent : Extent) (moves : List Parts) → extent.depth ≤ 8 → (word : List ℕ) → IsWord extent word → 1 ≤ length word
    → expanded (expansion (hall_list extent.width extent.depth)) (coordinates extent (logarithm (signature moves))) word ≡ pos (length word) *ℤ logarithm (signature moves) word
logarithm-expands extent moves small word is some =
    coordinates-theorem extent (logarithm (signature moves)) word some is.short is.letters
    (λ u v lu lv su sv e. logarithm-shuffles (signature moves) (signature-IsGrouplike moves) u v su sv (omega (arith, e, is.short, small)))
