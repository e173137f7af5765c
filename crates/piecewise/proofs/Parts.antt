-- The parts before a place, and the refusals of parts.
use Rattle.std.proofs.Common.{◌≡◌, ◌≢◌, inl, inr, ℕ, ◌+◌, ◌<◌, refl, sym, subst, arith, List, length}
use Rattle.std.proofs.lemmas.Bool.{cases_lt}
use Rattle.definitions.specs.Words.{Extent}
use Rattle.lie_bracket.specs.declared.term.Term.{Term}
use Rattle.piecewise.specs.Faults.{CanUnfold, IsUnfoldFault}
use Rattle.piecewise.specs.Wholes.{UnfoldBefore, IsRefusal, IsWholeFault, part_at}
use Rattle.piecewise.specs.Placed.{IsRefusedPart, IsPlaced}
use Rattle.piecewise.specs.declared.fault.UnfoldFault.{UnfoldFault}
use Rattle.piecewise.specs.declared.fault.UnfoldFault.TheVariants.{Overflow as TooHeavy, Expand, Split, Log, Whole, Size, Memory as NoMemory}
use Rattle.piecewise.specs.declared.fault.WholeFault.{WholeFault}
use Rattle.piecewise.specs.declared.fault.WholeFault.TheVariants.{Part, Overflow, Memory}

-- one part more
pub before-more : (extent : Extent) (parts : List (List Term × ℕ)) (n : ℕ) → UnfoldBefore extent parts n → CanUnfold extent (part_at parts n).0 (part_at parts n).1 → UnfoldBefore extent parts (n + 1)
before-more extent parts n each here j before =
    elim (cases_lt j n) [
      | inl below ↦ each j below
      | inr last ↦ (let e : n ≡ j = omega arith in subst (λ (i : ℕ). CanUnfold extent (part_at parts i).0 (part_at parts i).1) e here)
    ]

-- the refusal of a part, by the refusal of its coordinates
pub part-refused : (extent : Extent) (z : List Term) (weight place : ℕ) (fault : UnfoldFault) (w : WholeFault) → (fault ≡ NoMemory → w ≡ Memory) → (fault ≢ NoMemory → w ≡ Part place fault)
    → IsUnfoldFault extent z weight fault → IsRefusedPart extent z weight place w
part-refused extent z weight place (TooHeavy v) w memory part h = subst (IsRefusedPart extent z weight place) (sym (part (λ e. cc))) (refl, h)
part-refused extent z weight place (Expand k) w memory part h = subst (IsRefusedPart extent z weight place) (sym (part (λ e. cc))) (refl, h)
part-refused extent z weight place (Split k) w memory part h = subst (IsRefusedPart extent z weight place) (sym (part (λ e. cc))) (refl, h)
part-refused extent z weight place (Log k) w memory part h = subst (IsRefusedPart extent z weight place) (sym (part (λ e. cc))) (refl, h)
part-refused extent z weight place (Whole k) w memory part h = subst (IsRefusedPart extent z weight place) (sym (part (λ e. cc))) (refl, h)
part-refused extent z weight place (Size k) w memory part h = subst (IsRefusedPart extent z weight place) (sym (part (λ e. cc))) (refl, h)
part-refused extent z weight place NoMemory w memory part h = subst (IsRefusedPart extent z weight place) (sym (memory refl)) tt

-- the refusal of the part at a place, where those before it can be unfolded
pub placed-at : (extent : Extent) (parts : List (List Term × ℕ)) (n : ℕ) (fault : WholeFault) → n < length parts → UnfoldBefore extent parts n
    → IsRefusedPart extent (part_at parts n).0 (part_at parts n).1 n fault → IsPlaced extent parts fault
placed-at extent parts n (Part i f) here before h =
    subst (λ (j : ℕ). (j < length parts) × UnfoldBefore extent parts j × IsRefusal extent (part_at parts j).0 (part_at parts j).1 f) (sym h.0) (here, before, h.1)
placed-at extent parts n (Overflow w) here before h = absurd h
placed-at extent parts n Memory here before h = tt

-- it is the refusal of the whole
pub placed-whole : (extent : Extent) (parts : List (List Term × ℕ)) (fault : WholeFault) → IsPlaced extent parts fault → IsWholeFault extent parts fault
placed-whole extent parts (Part i f) h = h
placed-whole extent parts (Overflow w) h = absurd h
placed-whole extent parts Memory h = tt
