-- What lies in an interval.
use Rattle.std.specs.Prelude.{◌≡◌, ℕ, ◌+◌, ◌*◌, ◌/◌, ◌^◌, ◌≤◌, ◌⊎◌, max, length}
use Rattle.definitions.specs.Rows.{moves_of}
use Rattle.definitions.specs.Signature.{weight as weight_of}
use Rattle.timeline.specs.declared.view.Totals.{Totals}
use Rattle.timeline.specs.declared.view.Overlap.{Overlap}
use Rattle.timeline.specs.declared.view.Overlap.TheVariants.{Outside, Inside, Across}
use Rattle.timeline.specs.Keys.{keyed_in}
use Rattle.timeline.specs.Tries.{Trie, rows_of, last_in}

-- the number and the weight of the rows of a tree with keys in [a, b), and the last version that touched any of these keys
pub record AreTotals (a b : ℕ) (t : Trie) (totals : Totals) : Type 0 where
  pub count : totals.count ≡ length (keyed_in a b (rows_of t))
  pub weighed : totals.weight ≡ weight_of (moves_of (keyed_in a b (rows_of t)))
  pub touched : totals.since ≡ last_in a b t

abbrev pub no_totals : Totals
no_totals = record { count = 0; weight = 0; since = 0 }

abbrev pub summed : Totals → Totals → Totals
summed l r = record { count = l.count + r.count; weight = l.weight + r.weight; since = max l.since r.since }

-- the first of the keys that agree with this one but for the last digits, this many
abbrev pub lowest : ℕ → ℕ → ℕ
lowest key height = key / 2 ^ height * 2 ^ height

-- how those keys lie to [a, b)
abbrev pub IsOverlap : ℕ → ℕ → ℕ → ℕ → Overlap → Type 0
IsOverlap key height a b Outside = (b ≤ lowest key height) ⊎ (lowest key height + 2 ^ height ≤ a)
IsOverlap key height a b Inside = (a ≤ lowest key height) × (lowest key height + 2 ^ height ≤ b)
IsOverlap key height a b Across = height ≡ 0 → ⊥
