-- The first degree whose growth is too great, by search and by its properties.
use Rattle.std.proofs.Common.{◌≡◌, ◌∙◌, ℕ, zero, suc, ◌<◌, ◌≤◌, ◌^◌, inl, inr, refl, sym, ap, ap₂, arith, [], ◌∷◌, Bool, true, false, cond, Option, Some, None}
use Rattle.std.specs.Prelude.{find, ltb}
use Rattle.std.specs.Option.{option_or}
use Rattle.std.proofs.Math.Nat.{eq-or-lt_of_le}
use Rattle.std.proofs.lemmas.Bool.{lt-ltb, le-ltb}
use Rattle.std.proofs.lemmas.List.Folds.{find-append}
use Rattle.definitions.specs.Words.{Extent, up_to}
use Rattle.dynkin_map.specs.Coordinates.{heavy_level}
use Rattle.dynkin_map.specs.Table.{growth_of}
use Rattle.dynkin_map.specs.Faults.{IsPastLevel}

-- the last number is tried after all others
find-next : (p : ℕ → Bool) (n : ℕ) → find p (up_to (suc n)) ≡ option_or (find p (up_to n)) (cond (p (suc n)) (Some (suc n)) None)
find-next p n = find-append p (up_to n) (suc n ∷ [])

none-found : (p : ℕ → Bool) (n : ℕ) → ((k : ℕ) → 1 ≤ k → k ≤ n → p k ≡ false) → find p (up_to n) ≡ None
none-found p zero none = refl
none-found p (suc n) none =
    find-next p n
    ∙ ap₂ (λ (o : Option ℕ) (b : Bool). option_or o (cond b (Some (suc n)) None)) (none-found p n (λ k least most. none k least (omega arith))) (none (suc n) (omega arith) (omega arith))

first-found : (p : ℕ → Bool) (n k : ℕ) → 1 ≤ k → k ≤ n → p k ≡ true → ((j : ℕ) → 1 ≤ j → j < k → p j ≡ false) → find p (up_to n) ≡ Some k
first-found p zero k least most here before = absurd (omega arith)
first-found p (suc n) k least most here before =
    find-next p n
    ∙ elim (eq-or-lt_of_le most) [
      | inl last ↦ ap₂ (λ (o : Option ℕ) (b : Bool). option_or o (cond b (Some (suc n)) None)) (none-found p n (λ j low high. before j low (omega arith))) (ap p (sym last) ∙ here) ∙ ap Some (sym last)
      | inr earlier ↦ ap (λ (o : Option ℕ). option_or o (cond (p (suc n)) (Some (suc n)) None)) (first-found p n k least (omega arith) here before)
    ]

-- no growth is too great
pub no-level : (extent : Extent) → ((k : ℕ) → 1 ≤ k → k ≤ extent.depth → growth_of extent k ≤ 2 ^ 40) → heavy_level extent ≡ None
unfolding heavy_level
no-level extent small = none-found (λ k. ltb (2 ^ 40) (growth_of extent k)) extent.depth (λ k least most. le-ltb (2 ^ 40) (growth_of extent k) (small k least most))

-- the first one that is
pub past-level : (extent : Extent) (k : ℕ) → IsPastLevel extent k → heavy_level extent ≡ Some k
unfolding heavy_level
past-level extent k past =
    first-found (λ n. ltb (2 ^ 40) (growth_of extent n)) extent.depth k past.least past.most (lt-ltb (2 ^ 40) (growth_of extent k) past.past)
    (λ j least less. le-ltb (2 ^ 40) (growth_of extent j) (past.before j least less))
