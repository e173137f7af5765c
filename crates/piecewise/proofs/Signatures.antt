-- The coordinates of the logarithm of a signature give the signature back.
use Rattle.std.proofs.Common.{◌≡◌, ℕ, suc, ◌-◌, ◌*◌, ◌≤◌, ◌^◌, sym, ap, ◌∙◌, subst, arith, ℤ, pos, ◌-ℤ◌, ◌*ℤ◌, unsigned_abs, List, [], ◌∷◌, length}
use Rattle.std.specs.Prelude.{All, int_div, int_rem}
use Rattle.definitions.specs.Words.{Extent, IsShape, IsWord}
use Rattle.definitions.specs.Moves.{Parts}
use Rattle.definitions.specs.Signature.{signature}
use Rattle.definitions.specs.Hall.{InHall, hall_list}
use Rattle.definitions.specs.Commutators.{VanishesAt}
use Rattle.definitions.specs.Logarithm.{lcm_to, logarithm, log_bound}
use Rattle.definitions.proofs.SignatureLaws.{signature-bound}
use Rattle.lie_steps.proofs.StepLaws.{moves-StepsBounded}
use Rattle.lie_bracket.specs.declared.term.Term.{Term}
use Rattle.dynkin_map.proofs.DynkinTheorem.{coordinates-theorem, coordinates-members}
use Rattle.exp_log.proofs.PowerBounds.{logarithm-bound}
use Rattle.exp_log.proofs.SeriesLaws.{words-closed, logarithm-empty}
use Rattle.exp_log.proofs.LogarithmsOnShuffles.{signature-IsGrouplike, logarithm-shuffles}
use Rattle.exp_laws.specs.Unfolded.{unfolded}
use Rattle.exp_laws.proofs.UnfoldedLaws.{exact-quotient, exact-remainder, unfolded-of_logarithm, remainder-of_logarithm}
use Rattle.piecewise.specs.Series.{expansion_of, log_of, series_of, AreCoordinates}
use Rattle.piecewise.specs.Faults.{IsSplit, IsLogLevel, IsWhole, IsSized, IsUnfoldFault, IsWantOfRoom}
use Rattle.piecewise.specs.declared.fault.UnfoldFault.{UnfoldFault}
use Rattle.piecewise.specs.declared.fault.UnfoldFault.TheVariants.{Overflow, Expand, Split, Log, Whole, Size, Memory}
use Rattle.piecewise.proofs.LevelSteps.{AgreeOn}
use Rattle.piecewise.proofs.Logarithms.{log_of-word, log_of-empty, series_of-word}

module _ (extent : Extent) (shape : IsShape extent) (moves : List Parts) (z : List Term) (v : ℕ) (are : AreCoordinates extent moves z v) where
  vanishes : (k : ℕ) → k ≤ extent.depth → VanishesAt extent.width (logarithm (signature moves)) k
  vanishes k within u w hu hw su sw e = logarithm-shuffles (signature moves) (signature-IsGrouplike moves) u w su sw (omega (arith, e, within, shape.within_depth))

  -- the expansion is so many times the logarithm as a word has letters
  pub expansion-is : (word : List ℕ) → IsWord extent word → 1 ≤ length word → expansion_of extent z word ≡ pos (length word) *ℤ logarithm (signature moves) word
  expansion-is word is_word some =
      ap (λ (terms : List Term). expansion_of extent terms word) are.coordinates_are
      ∙ coordinates-theorem extent (logarithm (signature moves)) word some is_word.short is_word.letters (vanishes (length word) is_word.short)

  -- so the quotient is the logarithm
  pub log-is : AgreeOn extent (log_of extent z) (logarithm (signature moves))
  log-is [] is_word =
      log_of-empty extent z shape (subst (λ (terms : List Term). All (λ t. InHall (hall_list extent.width extent.depth) t.number) terms) (sym are.coordinates_are) (coordinates-members extent (logarithm (signature moves))))
      ∙ sym (logarithm-empty (signature moves))
  log-is (a ∷ word) is_word =
      let k : ℕ = length (a ∷ word) in
      log_of-word extent z (a ∷ word)
      ∙ ap (λ (x : ℤ). int_div x (pos k)) (expansion-is (a ∷ word) is_word (omega arith))
      ∙ exact-quotient k (logarithm (signature moves) (a ∷ word)) (omega arith)

  -- each level is divided without a remainder
  pub splits : (k : ℕ) → 1 ≤ k → IsSplit extent z k
  splits k some word is_word len =
      exact-remainder k (logarithm (signature moves) word) (expansion_of extent z word) some
      (subst (λ (n : ℕ). expansion_of extent z word ≡ pos n *ℤ logarithm (signature moves) word) len (expansion-is word is_word (omega (arith, some, len))))

  -- each level is within the bound of a logarithm
  pub log-within : (k : ℕ) → IsLogLevel extent (log_of extent z) v k
  log-within k word is_word len =
      subst (λ (x : ℤ). unsigned_abs x ≤ v ^ k * log_bound k) (sym (log-is word is_word))
      (subst (λ (n : ℕ). unsigned_abs (logarithm (signature moves) word) ≤ v ^ n * log_bound n) len
      (subst (λ (m : ℕ). unsigned_abs (logarithm (signature moves) word) ≤ m ^ length word * log_bound (length word)) (sym are.weight_is)
      (logarithm-bound extent moves word are.moves_are is_word)))

  -- what is unfolded is the signature
  pub unfolded-is : (n : ℕ) (word : List ℕ) → IsWord extent word → length word ≤ n → unfolded (log_of extent z) n word ≡ signature moves word
  unfolded-is = unfolded-of_logarithm (IsWord extent) (log_of extent z) (signature moves) (words-closed extent) (signature-IsGrouplike moves).starts log-is

  -- no level has a remainder
  pub levels-whole : (k : ℕ) → 1 ≤ k → IsWhole extent (log_of extent z) k
  levels-whole k some word is_word len =
      let n : ℕ = k - 1 in
      let e : suc n ≡ k = omega arith in
      subst (λ (m : ℕ). int_rem (log_of extent z word -ℤ logarithm (unfolded (log_of extent z) n) word) (pos (lcm_to m)) ≡ pos 0) e
      (remainder-of_logarithm (IsWord extent) (log_of extent z) (signature moves) (words-closed extent) (signature-IsGrouplike moves).starts log-is n word is_word (len ∙ sym e))

  -- and each is within the bounds of the weight
  pub levels-sized : (k : ℕ) → IsSized extent (log_of extent z) v k
  levels-sized k word is_word len =
      subst (λ (x : ℤ). unsigned_abs x ≤ v ^ k) (sym (unfolded-is k word is_word (omega (arith, len))))
      (subst (λ (n : ℕ). unsigned_abs (signature moves word) ≤ v ^ n) len
      (subst (λ (m : ℕ). unsigned_abs (signature moves word) ≤ m ^ length word) (sym are.weight_is)
      (signature-bound extent.depth moves (moves-StepsBounded extent moves are.moves_are) word is_word.short)))

  -- the series with the logarithm of these coordinates is the signature
  pub series-is : AgreeOn extent (series_of extent z) (signature moves)
  series-is word is_word = series_of-word extent z word ∙ unfolded-is extent.depth word is_word is_word.short

  -- nothing but want of room comes
  pub only-room : (fault : UnfoldFault) → IsUnfoldFault extent z v fault → IsWantOfRoom fault
  only-room (Overflow w) h = tt
  only-room (Expand k) h = tt
  only-room (Split k) h = absurd (h.1.fails (splits k h.1.least))
  only-room (Log k) h = absurd (h.1.fails (log-within k))
  only-room (Whole k) h = absurd (h.1.2 (levels-whole k h.1.0))
  only-room (Size k) h = absurd (h.1.3 (levels-sized k))
  only-room Memory h = tt
