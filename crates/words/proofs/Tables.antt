-- The tables of numbers are right, by computing them.
use Rattle.std.proofs.Common.{◌≡◌, ◌∙◌, ℕ, zero, suc, ◌≤◌, ◌*◌, refl, sym, ap, arith, true, List, [], ◌∷◌, get_or, map, nat_le}
use Rattle.std.specs.List.{list_all, range_with_len}
use Rattle.std.proofs.lemmas.List.FromFn.{get_or-map-range_with_len}
use Rattle.std.proofs.lemmas.Bool.{leb-true}
use Rattle.std.proofs.lemmas.List.Sums.{AllPass-from_list_all}
use Rattle.definitions.specs.Words.{factorial, shorter}
use Rattle.definitions.specs.Sums.{count_below}
use Rattle.definitions.specs.Logarithm.{lcm_to, log_bound}

-- the places of a table
abbrev pub places : List ℕ
places = 0 ∷ 1 ∷ 2 ∷ 3 ∷ 4 ∷ 5 ∷ 6 ∷ 7 ∷ 8 ∷ []

value-at : (f : ℕ → ℕ) (n : ℕ) → n ≤ 8 → get_or (map f places) n 0 ≡ f n
value-at f zero h = refl
value-at f (suc zero) h = refl
value-at f (suc (suc zero)) h = refl
value-at f (suc (suc (suc zero))) h = refl
value-at f (suc (suc (suc (suc zero)))) h = refl
value-at f (suc (suc (suc (suc (suc zero))))) h = refl
value-at f (suc (suc (suc (suc (suc (suc zero)))))) h = refl
value-at f (suc (suc (suc (suc (suc (suc (suc zero))))))) h = refl
value-at f (suc (suc (suc (suc (suc (suc (suc (suc zero)))))))) h = refl
value-at f (suc (suc (suc (suc (suc (suc (suc (suc (suc n))))))))) h = absurd (omega arith)

-- an entry of the table of a function
entry-is : (f : ℕ → ℕ) (table : List ℕ) → table ≡ map f places → (n : ℕ) → n ≤ 8 → get_or table n 0 ≡ f n
entry-is f table e n h = ap (λ (xs : List ℕ). get_or xs n 0) e ∙ value-at f n h

-- the factorials of 0 to 8
pub factorials-right : (n : ℕ) → n ≤ 8 → get_or (1 ∷ 1 ∷ 2 ∷ 6 ∷ 24 ∷ 120 ∷ 720 ∷ 5040 ∷ 40320 ∷ []) n 0 ≡ factorial n
factorials-right = entry-is factorial _ refl

-- the least common multiples of 1 .. k for k from 0 to 8
pub least_multiples-right : (k : ℕ) → k ≤ 8 → get_or (1 ∷ 1 ∷ 2 ∷ 6 ∷ 12 ∷ 60 ∷ 60 ∷ 420 ∷ 840 ∷ []) k 0 ≡ lcm_to k
least_multiples-right = entry-is lcm_to _ refl

-- the bounds of a logarithm at words of 0 to 8 letters
pub log_bounds-right : (k : ℕ) → k ≤ 8 → get_or (0 ∷ 1 ∷ 4 ∷ 36 ∷ 312 ∷ 9000 ∷ 64920 ∷ 3933720 ∷ 79452240 ∷ []) k 0 ≡ log_bound k
unfolding log_bound count_below
log_bounds-right = entry-is log_bound _ refl

-- the values of a function at the places are at most this
within-at : (f : ℕ → ℕ) (most : ℕ) → list_all (λ n. nat_le (f n) most) places ≡ true → (n : ℕ) → n ≤ 8 → f n ≤ most
within-at f most e n h =
    leb-true (f n) most
    (ap (λ (k : ℕ). nat_le (f k) most) (sym (value-at (λ k. k) n h)) ∙ AllPass-from_list_all (λ k. nat_le (f k) most) places e n 0 (omega arith))

-- the denominators of logarithms, k! L, at most at k = 8
pub log_den-within : (k : ℕ) → k ≤ 8 → factorial k * lcm_to k ≤ 33868800
log_den-within = within-at (λ k. factorial k * lcm_to k) 33868800 refl

-- the denominators of Hall coordinates, k k! L, at most at k = 8
pub lie_den-within : (k : ℕ) → k ≤ 8 → k * (factorial k * lcm_to k) ≤ 270950400
lie_den-within = within-at (λ k. k * (factorial k * lcm_to k)) 270950400 refl

-- a row for each width up to 12, which counts the words of fewer than 0 to 9 letters
pub shorter-entry : (table : List (List ℕ)) (w k : ℕ) (d : List ℕ) → table ≡ map (λ v. map (shorter v) (range_with_len 0 10)) (range_with_len 0 13) → w ≤ 12 → k ≤ 9 → get_or (get_or table w d) k 0 ≡ shorter w k
shorter-entry table w k d e narrow short =
    let row : get_or table w d ≡ map (shorter w) (range_with_len 0 10) =
    ap (λ (t : List (List ℕ)). get_or t w d) e ∙ get_or-map-range_with_len (λ v. map (shorter v) (range_with_len 0 10)) 0 13 w w d (omega arith) (omega arith) in
    ap (λ (xs : List ℕ). get_or xs k 0) row ∙ get_or-map-range_with_len (shorter w) 0 10 k k 0 (omega arith) (omega arith)
