-- Which versions touch an interval.
use Rattle.std.specs.Prelude.{ℕ, zero, suc, if◌then◌else◌, List, length, slice_index, ◌≡◌, ◌<◌, ◌≤◌, ◌-◌}
use Rattle.definitions.specs.Rows.{lies_in}

-- the last version from 1 to v that touches [a, b), or 0, where these are touched by version 1, 2 and so on
unfoldable pub since : ℕ → ℕ → List ℕ → ℕ → ℕ
since a b touched zero = 0
since a b touched (suc v) = if lies_in a b (slice_index touched v) then suc v else since a b touched v

-- the first version after v that touches [a, b)
pub record IsFirstAfter (a b : ℕ) (touched : List ℕ) (v t : ℕ) : Type 0 where
  pub later : v < t
  pub within : t ≤ length touched
  pub touches : since a b touched t ≡ t
  pub first : since a b touched (t - 1) ≤ v
