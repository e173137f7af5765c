-- The last version that touches an interval.
use Rattle.std.proofs.Common.{◌≡◌, ◌∙◌, ℕ, zero, suc, ◌<◌, ◌≤◌, refl, sym, ap, subst, arith, true, false, T, cond, add-one, List, [], ◌++◌, length, get_or, inl, inr}
use Rattle.std.proofs.lemmas.Bool.{cases_lt, cases_Bool}
use Rattle.std.proofs.lemmas.List.{get_or_append_left, length-append}
use Rattle.definitions.specs.Rows.{lies_in}
use Rattle.versions.specs.declared.log.Accepted.{Accepted}
use Rattle.versions.specs.declared.edit.Edit.TheVariants.{Remove}
use Rattle.versions.specs.Versions.{touched, since}
use Rattle.versions.proofs.TouchLaws.{touched-next}

module _ (a b : ℕ) (edits : List Accepted) where
  -- a version that touches the interval is its own last one
  pub since-touches : (v : ℕ) → touched a b edits (suc v) ≡ true → since a b edits (suc v) ≡ suc v
  since-touches v touches = ap (λ t. cond t (suc v) (since a b edits v)) touches

  -- a version that doesn't has the last one of the version before
  pub since-passes : (v : ℕ) → touched a b edits (suc v) ≡ false → since a b edits (suc v) ≡ since a b edits v
  since-passes v passes = ap (λ t. cond t (suc v) (since a b edits v)) passes

  -- the last one is no later than the version
  pub since-le : (v : ℕ) → since a b edits v ≤ v
  since-le zero = omega arith
  since-le (suc v) =
      elim (cases_Bool (touched a b edits (suc v))) [
        | inl touches ↦ omega (arith, since-touches v touches)
        | inr passes ↦ omega (arith, since-passes v passes, since-le v)
      ]

  -- it touches the interval itself
  pub since-latest : (v : ℕ) → since a b edits (since a b edits v) ≡ since a b edits v
  since-latest zero = refl
  since-latest (suc v) =
      elim (cases_Bool (touched a b edits (suc v))) [
        | inl touches ↦ ap (since a b edits) (since-touches v touches)
        | inr passes ↦ (ap (since a b edits) (since-passes v passes) ∙ since-latest v ∙ sym (since-passes v passes))
      ]

  -- the last one touches the interval, unless it is 0
  pub since-touched : (v : ℕ) → 0 < since a b edits v → touched a b edits (since a b edits v) ≡ true
  since-touched zero some = absurd (omega (arith, some))
  since-touched (suc v) some =
      elim (cases_Bool (touched a b edits (suc v))) [
        | inl touches ↦ (ap (touched a b edits) (since-touches v touches) ∙ touches)
        | inr passes ↦ (ap (touched a b edits) (since-passes v passes) ∙ since-touched v (omega (arith, some, since-passes v passes)))
      ]

  -- none up to v is later
  pub since-reaches : (v t : ℕ) → touched a b edits t ≡ true → 1 ≤ t → t ≤ v → t ≤ since a b edits v
  since-reaches zero t touches some within = omega arith
  since-reaches (suc v) t touches some within =
      elim (cases_Bool (touched a b edits (suc v))) [
        | inl last ↦ omega (arith, since-touches v last, within)
        | inr passes ↦ elim (cases_lt v t) [
          | inl late ↦ (
              let same : t ≡ suc v = omega arith in
              absurd (subst T (sym touches ∙ ap (touched a b edits) same ∙ passes) tt))
          | inr early ↦ omega (arith, since-passes v passes, since-reaches v t touches some early)
        ]
      ]

-- ---- more edits
-- what is read past the end of the edits
pub no_edit : Accepted
no_edit = record { edit = Remove []; tick = 0 }

touched-at : (a b : ℕ) (edits : List Accepted) (v : ℕ) → v < length edits → touched a b edits (suc v) ≡ lies_in a b (get_or edits v no_edit).tick
touched-at a b edits v within = ap (touched a b edits) (sym (add-one v)) ∙ touched-next a b edits v no_edit within

touched-append : (a b : ℕ) (edits more : List Accepted) (v : ℕ) → v < length edits → touched a b (edits ++ more) (suc v) ≡ touched a b edits (suc v)
touched-append a b edits more v within =
    touched-at a b (edits ++ more) v (omega (arith, length-append edits more))
    ∙ ap (λ (e : Accepted). lies_in a b e.tick) (get_or_append_left edits more no_edit v within) ∙ sym (touched-at a b edits v within)

-- later edits change nothing
pub since-append : (a b : ℕ) (edits more : List Accepted) (v : ℕ) → v ≤ length edits → since a b (edits ++ more) v ≡ since a b edits v
since-append a b edits more zero within = refl
since-append a b edits more (suc v) within =
    ap (λ t. cond t (suc v) (since a b (edits ++ more) v)) (touched-append a b edits more v (omega arith))
    ∙ ap (λ n. cond (touched a b edits (suc v)) (suc v) n) (since-append a b edits more v (omega arith))
