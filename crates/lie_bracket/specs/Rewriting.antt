-- What the rewriting says of the bracket of two members.
use Rattle.std.specs.Prelude.{◌≡◌, ℕ, suc, ◌+◌, ◌<◌, ◌≤◌, List, [], ◌∷◌, ◌++◌, ℤ, pos}
use Rattle.definitions.specs.Hall.{InHall, member, degree, number_of}
use Rattle.definitions.specs.declared.member.Member.{Member}
use Rattle.definitions.specs.declared.member.Member.TheVariants.{Pair}
use Rattle.lie_bracket.specs.declared.term.Term.{Term}
use Rattle.lie_bracket.specs.Brackets.{term, scaled, over_terms}

-- the equations of the bracket, with this sign for what is subtracted
pub record IsBracket (minus : ℤ → ℤ) (depth : ℕ) (hall : List Member) (br : ℕ → ℕ → List Term) : Type 0 where
  -- the bracket of a member with itself is nothing
  pub same : (a : ℕ) → br a a ≡ []
  -- so is one whose degrees add up to more than the depth
  pub deep : (a b : ℕ) → depth < degree hall a + degree hall b → br a b ≡ []
  -- in the other order it has the other sign
  pub swapped : (a b : ℕ) → InHall hall a → InHall hall b → b < a → degree hall a + degree hall b ≤ depth → br a b ≡ scaled minus (br b a)
  -- a pair of the list is its own bracket
  pub found : (a b n : ℕ) → InHall hall a → InHall hall b → a < b → degree hall a + degree hall b ≤ depth → number_of hall a b ≡ suc n → br a b ≡ term (pos 1) (suc n) ∷ []
  -- otherwise it is that of the parents: for b = [l, r] the bracket with r of [a, l], minus that with l of [a, r]
  pub split : (a b n l r : ℕ) → InHall hall a → InHall hall b → a < b → degree hall a + degree hall b ≤ depth → number_of hall a b ≡ 0 → member hall b ≡ Pair n l r
      → br a b ≡ over_terms (br a l) (λ c. br c r) ++ scaled minus (over_terms (br a r) (λ c. br c l))
