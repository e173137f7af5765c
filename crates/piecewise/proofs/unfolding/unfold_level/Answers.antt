use Rattle.std.proofs.Common.{◌≡◌, ◌≢◌, ◌-◌, ◌≤◌, ◌^◌, ◌-ℤ◌, ◌∙◌, sym, subst, arith, refl, ℕ, ℤ, List, length, pos, unsigned_abs}
use Rattle.std.specs.Prelude.{int_div}
use Rattle.std.proofs.lemmas.Bool.{false≢true}
use Rattle.definitions.specs.Words.{Extent, IsWord}
use Rattle.definitions.specs.Logarithm.{lcm_to, logarithm}
use Rattle.scaled_tensor.specs.Tensors.{TensorValue, coefficient}
use Rattle.exp_laws.specs.Unfolded.{unfolded}
use Rattle.exp_laws.proofs.UnfoldedLaws.{lcm-some}
use Rattle.piecewise.specs.Faults.{AreMultiples, AreWithin, IsWhole}
use Rattle.piecewise.specs.Levels.{IsKnown}
use Rattle.piecewise.proofs.Rooms.{fits-power}
use Rattle.piecewise.proofs.LevelSteps.{AgreeOn, left-known, multiples-same, within-same, values-next, known-next}
use Rattle.piecewise.proofs.unfolding.unfold_level.Goals as goal

pub are_multiples-requires-clause-some : goal.are_multiples-requires-clause-some
are_multiples-requires-clause-some c = omega (arith, c.lcm_to.ensures, lcm-some c.args.k)

pub write_quotients-requires-clause-some : goal.write_quotients-requires-clause-some
write_quotients-requires-clause-some c = omega (arith, c.lcm_to-2.ensures, lcm-some c.args.k)

pub pow-requires : goal.pow-requires
pow-requires c = omega (arith, fits-power c.args.weight c.args.log.now.extent.depth c.args.k c.requires.fits c.requires.some c.requires.k c.requires.shape.within_depth)

pub returns-then-not-are_multiples-clause-fault : goal.returns-then-not-are_multiples-clause-fault
returns-then-not-are_multiples-clause-fault c = (
  refl,
  λ whole.
      let extent : Extent = c.args.log.now.extent in
      let z : List ℕ → ℤ = coefficient c.args.log.now in
      let left : TensorValue = c.in_ok-left.left in
      false≢true
      (sym c.if-not-are_multiples.true
      ∙ c.are_multiples.ensures.1
      (subst (λ (x : Extent). AreMultiples x (coefficient left) c.args.k c.lcm_to.result) (sym c.in_ok-left.ensures.extent)
      (multiples-same extent (λ w. z w -ℤ logarithm (unfolded z (c.args.k - 1)) w) (coefficient left) c.args.k (lcm_to c.args.k) c.lcm_to.result
      (λ word is_word len. sym (c.in_ok-left.ensures.level word is_word len ∙ left-known extent z c.args.weight (c.args.k - 1) c.args.known.now c.requires.known word is_word))
      (sym c.lcm_to.ensures) whole))),
)

-- no remainder at the words of k letters
whole-from : (extent : Extent) (z : List ℕ → ℤ) (weight k d : ℕ) (old left : TensorValue) → left.extent ≡ extent → IsKnown extent z weight (k - 1) old → d ≡ lcm_to k
    → ((word : List ℕ) → IsWord extent word → length word ≡ k → coefficient left word ≡ z word -ℤ logarithm (coefficient old) word)
    → AreMultiples left.extent (coefficient left) k d → IsWhole extent z k
whole-from extent z weight k d old left same known de lefts are =
    multiples-same extent (coefficient left) (λ w. z w -ℤ logarithm (unfolded z (k - 1)) w) k d (lcm_to k)
    (λ word is_word len. lefts word is_word len ∙ left-known extent z weight (k - 1) old known word is_word) de
    (subst (λ (x : Extent). AreMultiples x (coefficient left) k d) same are)

-- the values after the level is written
values-from : (extent : Extent) (z : List ℕ → ℤ) (weight k d : ℕ) (old new left : TensorValue) → 1 ≤ k → left.extent ≡ extent → IsKnown extent z weight (k - 1) old → d ≡ lcm_to k
    → ((word : List ℕ) → IsWord extent word → length word ≡ k → coefficient left word ≡ z word -ℤ logarithm (coefficient old) word)
    → ((word : List ℕ) → IsWord left.extent word → length word ≡ k → coefficient new word ≡ int_div (coefficient left word) (pos d))
    → ((word : List ℕ) → IsWord left.extent word → length word ≢ k → coefficient new word ≡ coefficient old word)
    → AgreeOn extent (coefficient new) (unfolded z k)
values-from extent z weight k d old new left some same known de lefts level others =
    values-next extent z weight k (k - 1) old new left d (omega arith) known de lefts
    (λ word is_word len. level word (subst (λ (x : Extent). IsWord x word) (sym same) is_word) len)
    (λ word is_word apart. others word (subst (λ (x : Extent). IsWord x word) (sym same) is_word) apart)

-- the level is within the bounds
within-from : (extent : Extent) (z : List ℕ → ℤ) (k b c : ℕ) (new : TensorValue) → new.extent ≡ extent → b ≡ c → AgreeOn extent (coefficient new) (unfolded z k)
    → AreWithin new.extent (coefficient new) k b → AreWithin extent (unfolded z k) k c
within-from extent z k b c new same bc values are =
    within-same extent (coefficient new) (unfolded z k) k b c (λ word is_word len. values word is_word) bc (subst (λ (x : Extent). AreWithin x (coefficient new) k b) same are)

pub returns-then-not-are_within-clause-fault : goal.returns-then-not-are_within-clause-fault
returns-then-not-are_within-clause-fault c =
    let extent : Extent = c.args.log.now.extent in
    let z : List ℕ → ℤ = coefficient c.args.log.now in
    let k : ℕ = c.args.k in
    let old : TensorValue = c.args.known.now in
    let new : TensorValue = c.write_quotients.new.tensor in
    let left : TensorValue = c.in_ok-left.left in
    let values : AgreeOn extent (coefficient new) (unfolded z k) =
    values-from extent z c.args.weight k c.lcm_to-2.result old new left c.requires.some c.in_ok-left.ensures.extent c.requires.known c.lcm_to-2.ensures c.in_ok-left.ensures.level c.write_quotients.ensures.level c.write_quotients.ensures.others in (
      refl,
      whole-from extent z c.args.weight k c.lcm_to.result old left c.in_ok-left.ensures.extent c.requires.known c.lcm_to.ensures c.in_ok-left.ensures.level (c.are_multiples.ensures.0 c.if-not-are_multiples.false),
      λ sized.
          false≢true
          (sym c.if-not-are_within.true
          ∙ c.are_within.ensures.1
          (subst (λ (x : Extent). AreWithin x (coefficient new) k c.pow.result) (sym (c.write_quotients.ensures.extent ∙ c.in_ok-left.ensures.extent))
          (within-same extent (unfolded z k) (coefficient new) k (c.args.weight ^ k) c.pow.result (λ word is_word len. sym (values word is_word)) (sym c.pow.ensures) sized))),
    )

pub returns-clause-known : goal.returns-clause-known
returns-clause-known c =
    let extent : Extent = c.args.log.now.extent in
    let z : List ℕ → ℤ = coefficient c.args.log.now in
    let k : ℕ = c.args.k in
    let old : TensorValue = c.args.known.now in
    let new : TensorValue = c.write_quotients.new.tensor in
    let left : TensorValue = c.in_ok-left.left in
    let same : new.extent ≡ extent = c.write_quotients.ensures.extent ∙ c.in_ok-left.ensures.extent in
    let values : AgreeOn extent (coefficient new) (unfolded z k) =
    values-from extent z c.args.weight k c.lcm_to-2.result old new left c.requires.some c.in_ok-left.ensures.extent c.requires.known c.lcm_to-2.ensures c.in_ok-left.ensures.level c.write_quotients.ensures.level c.write_quotients.ensures.others in
    known-next extent z c.args.weight k (k - 1) old new (omega (arith, c.requires.some)) same c.requires.known values
    (λ word is_word apart. c.write_quotients.ensures.others word (subst (λ (x : Extent). IsWord x word) (sym c.in_ok-left.ensures.extent) is_word) apart)
    (λ word is_word len.
    subst (λ (n : ℕ). unsigned_abs (coefficient new word) ≤ n) c.pow.ensures
    (c.are_within.ensures.0 c.if-not-are_within.false word (subst (λ (x : Extent). IsWord x word) (sym same) is_word) len))

pub returns-clause-level : goal.returns-clause-level
returns-clause-level c =
    let extent : Extent = c.args.log.now.extent in
    let z : List ℕ → ℤ = coefficient c.args.log.now in
    let k : ℕ = c.args.k in
    let old : TensorValue = c.args.known.now in
    let new : TensorValue = c.write_quotients.new.tensor in
    let left : TensorValue = c.in_ok-left.left in
    let values : AgreeOn extent (coefficient new) (unfolded z k) =
    values-from extent z c.args.weight k c.lcm_to-2.result old new left c.requires.some c.in_ok-left.ensures.extent c.requires.known c.lcm_to-2.ensures c.in_ok-left.ensures.level c.write_quotients.ensures.level c.write_quotients.ensures.others in (
      whole-from extent z c.args.weight k c.lcm_to.result old left c.in_ok-left.ensures.extent c.requires.known c.lcm_to.ensures c.in_ok-left.ensures.level (c.are_multiples.ensures.0 c.if-not-are_multiples.false),
      within-from extent z k c.pow.result (c.args.weight ^ k) new (c.write_quotients.ensures.extent ∙ c.in_ok-left.ensures.extent) c.pow.ensures values (c.are_within.ensures.0 c.if-not-are_within.false),
    )
