-- What a query's bound allows: where it refuses no rows they fit, and where they fit they have a signature.
use Rattle.std.proofs.Common.{◌≡◌, ◌∙◌, ℕ, zero, suc, ◌+◌, ◌*◌, ◌^◌, ◌≤◌, sym, ap, ap₂, arith, add-one, true, cond, Some, None, List, get_or, replicate, inl, inr}
use Rattle.std.proofs.Math.Nat.{pow-zero}
use Rattle.std.proofs.lemmas.Bool.{cases_lt}
use Rattle.std.proofs.lemmas.List.{get_or-replicate, length-replicate}
use Rattle.definitions.specs.Words.{Extent, IsShape}
use Rattle.definitions.specs.Signature.{limit, Fits}
use Rattle.dynkin_map.specs.Coordinates.{lie_bounds}
use Rattle.basis_cell.specs.Faults.{AreLight}
use Rattle.book.specs.declared.query.Allowed.TheVariants as allowed
use Rattle.book.specs.declared.step.LookReply.TheVariants.{Overflow}
use Rattle.book.specs.Play.{fits_from, weighed, refused_by}
use Rattle.book.specs.Looks.{AllowsSignatures}
use Rattle.book.proofs.FitLaws.{weighed-over}
use Rattle.session.specs.declared.asked.Wanted.TheVariants.{Logarithm}
use Rattle.session.specs.Play.{allowed_by}
use Rattle.session.specs.Answers.{IsAllowed}
use Rattle.dynkin_map.proofs.BoundLaws.{fits-signature}

-- what isn't refused fits
pub unrefused-fits : (factors : List ℕ) (v : ℕ) → weighed factors v ≡ None → Fits factors v
unrefused-fits factors v none k here =
    elim (cases_lt limit (v ^ (k + 1) * get_or factors k 0)) [
      | inl over ↦
          let past : ¬ (Fits factors v) = λ fits. omega (arith, fits k here) in
          let clash : None ≡ Some (Overflow v) = sym none ∙ weighed-over factors v past in
          absurd (cc)
      | inr within ↦ within
    ]

tested-fits : (factors : List ℕ) (v : ℕ) → fits_from 1 factors v ≡ true → Fits factors v
tested-fits factors v test = unrefused-fits factors v (ap (λ t. cond t None (Some (Overflow v))) test)

-- ---- signatures
flat-fits : (depth v : ℕ) → Fits (replicate depth 1) v → v ^ depth ≤ limit
flat-fits zero v fits = omega (arith, pow-zero v)
flat-fits (suc k) v fits =
    omega (
      arith,
      fits k (omega (arith, length-replicate {A = ℕ} (suc k) 1)),
      ap (λ (factor : ℕ). v ^ (k + 1) * factor) (get_or-replicate {A = ℕ} (suc k) k 1 0 (omega arith)),
      ap (λ (m : ℕ). v ^ m) (add-one k),
    )

-- what fits the factors 1 has a signature
pub flat-signatures : (extent : Extent) → AllowsSignatures extent (allowed.Fits (replicate extent.depth 1))
flat-signatures extent v test = flat-fits extent.depth v (tested-fits (replicate extent.depth 1) v test)

-- so has what fits the factors of a table
pub table-signatures : (extent : Extent) → IsShape extent → AllowsSignatures extent (allowed.Fits (lie_bounds extent))
table-signatures extent shape v test = fits-signature extent v shape.some_depth shape.within_depth (tested-fits (lie_bounds extent) v test)

-- ---- logarithms
-- rows that a look for a logarithm doesn't refuse fit the factors of the table
pub allowed-fits : (extent : Extent) (v : ℕ) → AreLight extent → IsAllowed extent Logarithm v → Fits (lie_bounds extent) v
allowed-fits extent v light is = unrefused-fits (lie_bounds extent) v (sym (ap₂ (λ p l. refused_by (allowed_by p l (lie_bounds extent)) v) light.pairs light.levels) ∙ is)
