-- The order of a Hall list.
use Rattle.std.specs.Prelude.{◌≡◌, ℕ, Bool, true, false, List, ◌&&◌, ◌||◌, eqb, ltb}
use Rattle.std.specs.List.Sorted.{IsPartitionPoint}
use Rattle.definitions.specs.declared.member.Member.{Member}
use Rattle.definitions.specs.declared.member.Member.TheVariants.{Letter, Pair}

-- whether a member stands before the pair (i, j) of degree n: letters come first, pairs rise by degree, then by left parent, then by right parent
abbrev pub precedes : ℕ → ℕ → ℕ → Member → Bool
precedes n i j Letter = true
precedes n i j (Pair m l r) = ltb m n || eqb m n && (ltb l i || eqb l i && ltb r j)

-- the first so many members, and no others, stand before the pair
abbrev pub IsPlace : ℕ → ℕ → ℕ → List Member → ℕ → Type 0
IsPlace n i j hall at = IsPartitionPoint (λ m. precedes n i j m ≡ true) (λ m. precedes n i j m ≡ false) hall at
