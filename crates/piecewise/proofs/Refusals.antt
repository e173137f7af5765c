-- The refusals of single steps as those of unfolding.
use Rattle.std.proofs.Common.{◌≡◌, ℕ, ◌+◌, ◌*◌, ◌^◌, refl, sym, ap, subst, arith, ℤ, List}
use Rattle.definitions.specs.Words.{Extent}
use Rattle.definitions.specs.Logarithm.{log_bound}
use Rattle.definitions.specs.Hall.{hall_list}
use Rattle.scaled_tensor.specs.Tensors.{TensorValue, coefficient}
use Rattle.lie_bracket.specs.declared.term.Term.{Term}
use Rattle.lie_bracket.specs.declared.fault.ExpandFault.{ExpandFault}
use Rattle.lie_bracket.specs.declared.fault.ExpandFault.TheVariants.{Level, Memory as NoMemory}
use Rattle.lie_bracket.specs.Expanding.{FitsBelow, IsExpandFault}
use Rattle.piecewise.specs.Series.{expansion_of, log_of}
use Rattle.piecewise.specs.Expansions.{IsTaken}
use Rattle.piecewise.specs.Faults.{EachBelow, IsFirst, AreMultiples, IsSplit, IsLogLevel, UnfoldFits, Unfolds, CanExpand, CanSplit, IsLog, CanUnfold, IsLevelFault, IsUnfoldFault}
use Rattle.piecewise.specs.Levels.{IsSplitFault}
use Rattle.piecewise.specs.declared.fault.UnfoldFault.{UnfoldFault}
use Rattle.piecewise.specs.declared.fault.UnfoldFault.TheVariants.{Overflow, Expand, Split, Log, Whole, Size, Memory}
use Rattle.piecewise.proofs.LevelSteps.{AgreeOn, each-weaker, multiples-same, within-same, unfolds-same, level_fault-same}

-- the first level that isn't so, where the same levels are
first-same : (depth k : ℕ) (P Q : ℕ → Type 0) → ((j : ℕ) → P j → Q j) → ((j : ℕ) → Q j → P j) → IsFirst depth P k → IsFirst depth Q k
first-same depth k P Q to back first = record {
  least = first.least;
  most = first.most;
  fails = λ h. first.fails (back k h);
  before = each-weaker P Q k (λ j least before h. to j h) first.before;
}

module _ (extent : Extent) (z : List Term) (weight : ℕ) where
  -- the levels of the tensor are those of the expansion
  pub split-level : (e : List ℕ → ℤ) → AgreeOn extent e (expansion_of extent z) → (k : ℕ) → AreMultiples extent e k k → IsSplit extent z k
  split-level e same k = multiples-same extent e (expansion_of extent z) k k k (λ word is_word len. same word is_word) refl

  -- the refusal of the divisions
  pub split-refused : (e : List ℕ → ℤ) (fault : UnfoldFault) → CanExpand extent z weight → AgreeOn extent e (expansion_of extent z) → IsSplitFault extent e fault → IsUnfoldFault extent z weight fault
  split-refused e (Overflow w) can same h = absurd h
  split-refused e (Expand k) can same h = absurd h
  split-refused e (Split k) can same h = (
    can,
    first-same extent.depth k (λ j. AreMultiples extent e j j) (IsSplit extent z) (split-level e same)
        (λ j. multiples-same extent (expansion_of extent z) e j j j (λ word is_word len. sym (same word is_word)) refl) h,
  )
  split-refused e (Log k) can same h = absurd h
  split-refused e (Whole k) can same h = absurd h
  split-refused e (Size k) can same h = absurd h
  split-refused e Memory can same h = can

  -- a level of the tensor within the bounds is one of the logarithm
  pub log-level : (log : List ℕ → ℤ) → AgreeOn extent log (log_of extent z) → (k : ℕ) → IsLogLevel extent log weight k → IsLogLevel extent (log_of extent z) weight k
  log-level log same k = within-same extent log (log_of extent z) k (weight ^ k * log_bound k) (weight ^ k * log_bound k) (λ word is_word len. same word is_word) refl

  -- the refusal of the bounds
  pub log-refused : (log : List ℕ → ℤ) (k : ℕ) → CanSplit extent z weight → AgreeOn extent log (log_of extent z) → IsFirst extent.depth (IsLogLevel extent log weight) k → IsUnfoldFault extent z weight (Log k)
  log-refused log k can same first = (
    can,
    first-same extent.depth k (IsLogLevel extent log weight) (IsLogLevel extent (log_of extent z) weight) (log-level log same)
        (λ j. within-same extent (log_of extent z) log j (weight ^ j * log_bound j) (weight ^ j * log_bound j) (λ word is_word len. sym (same word is_word)) refl) first,
  )

  -- the refusal of a level
  pub level-refused : (log : List ℕ → ℤ) (fault : UnfoldFault) → IsLog extent z weight → AgreeOn extent log (log_of extent z) → IsLevelFault extent log weight fault → IsUnfoldFault extent z weight fault
  level-refused log (Overflow w) can same h = absurd h
  level-refused log (Expand k) can same h = absurd h
  level-refused log (Split k) can same h = absurd h
  level-refused log (Log k) can same h = absurd h
  level-refused log (Whole k) can same h = (can, level_fault-same extent log (log_of extent z) weight (Whole k) same h)
  level-refused log (Size k) can same h = (can, level_fault-same extent log (log_of extent z) weight (Size k) same h)
  level-refused log Memory can same h = can.splits.expands

  -- ---- what is known after each step
  -- the weight fits and the coordinates can be expanded
  pub can-expand : UnfoldFits weight extent.depth → FitsBelow (hall_list extent.width extent.depth) z (extent.depth + 1) → CanExpand extent z weight
  can-expand fits levels = record { fits = fits; levels = λ j least before. levels j least (omega arith) }

  -- and the expansion can be divided
  pub can-split : (e : TensorValue) → CanExpand extent z weight → e.extent ≡ extent → AgreeOn extent (coefficient e) (expansion_of extent z)
      → EachBelow (λ k. AreMultiples e.extent (coefficient e) k k) (e.extent.depth + 1) → CanSplit extent z weight
  can-split e can same is splits = record {
    expands = can;
    levels = λ j least before.
        split-level (coefficient e) is j (subst (λ (x : Extent). AreMultiples x (coefficient e) j j) same (splits j least (omega (arith, before, ap (λ (x : Extent). x.depth) same))));
  }

  -- and its quotients are within the bounds of a logarithm
  pub is-log : (log : TensorValue) → CanSplit extent z weight → log.extent ≡ extent → AgreeOn extent (coefficient log) (log_of extent z)
      → EachBelow (IsLogLevel log.extent (coefficient log) weight) (log.extent.depth + 1) → IsLog extent z weight
  is-log log can same is levels = record {
    splits = can;
    levels = λ j least before.
        log-level (coefficient log) is j (subst (λ (x : Extent). IsLogLevel x (coefficient log) weight j) same (levels j least (omega (arith, before, ap (λ (x : Extent). x.depth) same))));
  }

  -- and each level can be unfolded
  pub can-unfold : (log : TensorValue) → IsLog extent z weight → log.extent ≡ extent → AgreeOn extent (coefficient log) (log_of extent z)
      → EachBelow (Unfolds log.extent (coefficient log) weight) (log.extent.depth + 1) → CanUnfold extent z weight
  can-unfold log can same is levels = record {
    is_log = can;
    levels = λ j least before.
        unfolds-same extent (coefficient log) (log_of extent z) weight j is
        (subst (λ (x : Extent). Unfolds x (coefficient log) weight j) same (levels j least (omega (arith, before, ap (λ (x : Extent). x.depth) same))));
  }

  -- the bounds of a logarithm, for the tensor
  pub log-bounds : (log : TensorValue) → log.extent ≡ extent → AgreeOn extent (coefficient log) (log_of extent z) → IsLog extent z weight
      → EachBelow (IsLogLevel log.extent (coefficient log) weight) (log.extent.depth + 1)
  log-bounds log same is can j least before =
      subst (λ (x : Extent). IsLogLevel x (coefficient log) weight j) (sym same)
      (within-same extent (log_of extent z) (coefficient log) j (weight ^ j * log_bound j) (weight ^ j * log_bound j) (λ word is_word len. sym (is word is_word)) refl
      (can.levels j least (omega (arith, before, ap (λ (x : Extent). x.depth) same))))
