-- When a sum of members can be expanded without leaving the range of a tensor.
use Rattle.std.specs.Prelude.{ℕ, suc, ◌+◌, ◌-◌, ◌*◌, ◌^◌, ◌<◌, ◌≤◌, eqb, cond, List, [], ◌∷◌, unsigned_abs}
use Rattle.definitions.specs.Signature.{limit}
use Rattle.definitions.specs.Hall.{degree}
use Rattle.definitions.specs.declared.member.Member.{Member}
use Rattle.lie_bracket.specs.declared.term.Term.{Term}
use Rattle.lie_bracket.specs.declared.fault.ExpandFault.{ExpandFault}
use Rattle.lie_bracket.specs.declared.fault.ExpandFault.TheVariants.{Level, Memory}

-- the sum of the absolute factors of the members of degree k
abbrev pub level_size : List Member → ℕ → List Term → ℕ
level_size hall k [] = 0
level_size hall k (t ∷ ts) = cond (eqb (degree hall t.number) k) (unsigned_abs t.factor) 0 + level_size hall k ts

-- no coefficient of k letters leaves the range: those of one member of degree k are at most 2 ^ (k - 1)
abbrev pub FitsLevel : List Member → List Term → ℕ → Type 0
FitsLevel hall terms k = level_size hall k terms * 2 ^ (k - 1) ≤ limit

-- each degree below k fits
abbrev pub FitsBelow : List Member → List Term → ℕ → Type 0
FitsBelow hall terms k = (j : ℕ) → 1 ≤ j → j < k → FitsLevel hall terms j

-- the first degree that doesn't fit; where all fit, want of memory
abbrev pub IsExpandFault : ℕ → List Member → List Term → ExpandFault → Type 0
IsExpandFault depth hall terms (Level k) = (1 ≤ k) × (k ≤ depth) × (FitsLevel hall terms k → ⊥) × FitsBelow hall terms k
IsExpandFault depth hall terms Memory = FitsBelow hall terms (suc depth)
