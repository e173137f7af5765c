-- When a list of terms is no functional, and when two functionals have no shuffle product.
use Rattle.std.specs.Prelude.{◌≡◌, ◌≢◌, ℕ, suc, ◌+◌, ◌*◌, ◌<◌, ◌≤◌, List, length, take, pos, unsigned_abs}
use Rattle.definitions.specs.Words.{Extent, IsWord}
use Rattle.definitions.specs.Signature.{limit}
use Rattle.functionals.specs.declared.term.WordTerm.{WordTerm}
use Rattle.functionals.specs.declared.fault.FunctionalFault.{FunctionalFault}
use Rattle.functionals.specs.declared.fault.FunctionalFault.TheVariants.{Place, Norm}
use Rattle.functionals.specs.declared.fault.ShuffleFault.{ShuffleFault}
use Rattle.functionals.specs.declared.fault.ShuffleFault.TheVariants.{Reach, Size, Memory}
use Rattle.scaled_tensor.specs.Tensors.{place}
use Rattle.functionals.specs.Functionals.{term_at, word_at, norm, reach}

-- a word of the extent, above the one before, with a coefficient that is neither 0 nor -2^127
pub record IsGoodPlace (extent : Extent) (terms : List WordTerm) (i : ℕ) : Type 0 where
  pub word : IsWord extent (word_at terms i)
  pub rises : (j : ℕ) → suc j ≡ i → place extent (word_at terms j) < place extent (word_at terms i)
  pub some : (term_at terms i).coefficient ≢ pos 0
  pub within : unsigned_abs (term_at terms i).coefficient ≤ limit

-- the first place that isn't good; or, where each is good, the first up to which the absolute values add up to more than 2^127 - 1
abbrev pub IsRefusedBy : Extent → List WordTerm → FunctionalFault → Type 0
IsRefusedBy extent terms (Place i) = (i < length terms) × ((j : ℕ) → j < i → IsGoodPlace extent terms j) × (IsGoodPlace extent terms i → ⊥)
IsRefusedBy extent terms (Norm i) =
    (i < length terms) × ((j : ℕ) → j < length terms → IsGoodPlace extent terms j) × (norm (take i terms) ≤ limit) × (limit < norm (take (i + 1) terms))

-- the answer has words of at most so many letters as the depth
abbrev pub ReachFits : Extent → List WordTerm → List WordTerm → Type 0
ReachFits extent f g = reach f + reach g ≤ extent.depth

-- 70 times the product of the norms, which the answer's norm is at most, is at most 2^127 - 1
abbrev pub NormFits : List WordTerm → List WordTerm → Type 0
NormFits f g = 70 * (norm f * norm g) ≤ limit

-- why two functionals have no shuffle product; want of memory stands where there is no other reason
abbrev pub HasNoProduct : Extent → List WordTerm → List WordTerm → ShuffleFault → Type 0
HasNoProduct extent f g (Reach n) = (n ≡ reach f + reach g) × (extent.depth < n)
HasNoProduct extent f g (Size a b) = ReachFits extent f g × (a ≡ norm f) × (b ≡ norm g) × (limit < 70 * (a * b))
HasNoProduct extent f g Memory = ReachFits extent f g × NormFits f g
