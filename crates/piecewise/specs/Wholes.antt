-- Parts with their weights: when they are refused, and what they stand for.
use Rattle.std.specs.Prelude.{◌≡◌, ℕ, ◌^◌, ◌<◌, List, [], ◌∷◌, All, length, slice_index_or, sum_by}
use Rattle.definitions.specs.Words.{Extent}
use Rattle.definitions.specs.Moves.{Parts}
use Rattle.definitions.specs.Signature.{limit}
use Rattle.definitions.specs.Hall.{InHall, hall_list}
use Rattle.lie_bracket.specs.declared.term.Term.{Term}
use Rattle.piecewise.specs.Series.{AreCoordinates}
use Rattle.piecewise.specs.Faults.{CanUnfold, IsUnfoldFault, IsWantOfRoom}
use Rattle.piecewise.specs.declared.fault.UnfoldFault.{UnfoldFault}
use Rattle.piecewise.specs.declared.fault.UnfoldFault.TheVariants.{Memory as NoMemory}
use Rattle.piecewise.specs.declared.fault.WholeFault.{WholeFault}
use Rattle.piecewise.specs.declared.fault.WholeFault.TheVariants.{Part, Overflow, Memory}

-- the sum of the weights
abbrev pub total_weight : List (List Term × ℕ) → ℕ
total_weight parts = sum_by (λ part. part.1) parts

-- all numbers are of members
abbrev pub HaveMembers : Extent → List (List Term × ℕ) → Type 0
HaveMembers extent parts = All (λ part. All (λ t. InHall (hall_list extent.width extent.depth) t.number) part.0) parts

-- the part at a place; what stands past the end is of no matter
abbrev pub part_at : List (List Term × ℕ) → ℕ → List Term × ℕ
part_at parts i = slice_index_or parts i ([], 0)

-- each part before a place can be unfolded
abbrev pub UnfoldBefore : Extent → List (List Term × ℕ) → ℕ → Type 0
UnfoldBefore extent parts i = (j : ℕ) → j < i → CanUnfold extent (part_at parts j).0 (part_at parts j).1

-- a refusal for another cause than want of memory
abbrev pub IsRefusal : Extent → List Term → ℕ → UnfoldFault → Type 0
IsRefusal extent z weight NoMemory = ⊥
IsRefusal extent z weight fault = IsUnfoldFault extent z weight fault

-- the first part with such a refusal; else an overflow exactly where the power of the sum of the weights is past the limit
abbrev pub IsWholeFault : Extent → List (List Term × ℕ) → WholeFault → Type 0
IsWholeFault extent parts (Part i fault) = (i < length parts) × UnfoldBefore extent parts i × IsRefusal extent (part_at parts i).0 (part_at parts i).1 fault
IsWholeFault extent parts (Overflow w) = (w ≡ total_weight parts) × (limit < w ^ extent.depth) × UnfoldBefore extent parts (length parts)
IsWholeFault extent parts Memory = Unit {0}

-- each part has the coordinates and the weight of the moves of its list
abbrev pub AreCoordinatesOfEach : Extent → List (List Parts) → List (List Term × ℕ) → Type 0
AreCoordinatesOfEach extent [] [] = Unit {0}
AreCoordinatesOfEach extent [] (part ∷ parts) = ⊥
AreCoordinatesOfEach extent (moves ∷ lists) [] = ⊥
AreCoordinatesOfEach extent (moves ∷ lists) (part ∷ parts) = AreCoordinates extent moves part.0 part.1 × AreCoordinatesOfEach extent lists parts

-- a refusal for want of room: of the numbers or of memory
abbrev pub IsWantOfRoomInWhole : WholeFault → Type 0
IsWantOfRoomInWhole (Part i fault) = IsWantOfRoom fault
IsWantOfRoomInWhole (Overflow w) = Unit {0}
IsWantOfRoomInWhole Memory = Unit {0}
