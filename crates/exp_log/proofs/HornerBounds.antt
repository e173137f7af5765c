-- A weight whose logarithm fits leaves room for each step of Horner's rule.
use Rattle.std.proofs.Common.{◌≡◌, ℕ, zero, suc, ◌+◌, ◌*◌, ◌-◌, ◌/◌, ◌≤◌, ◌<◌, ◌^◌, min, refl, sym, ap, ◌∙◌, subst, arith, Bool, true, List, length, take, drop, length-take, length-drop, get_or, nat_le, ℤ, pos, ◌*ℤ◌, unsigned_abs}
use Rattle.std.specs.List.{list_all, range_with_len}
use Rattle.std.proofs.lemmas.List.FromFn.{get_or-range_with_len, length-range_with_len}
use Rattle.std.proofs.Math.Nat.{le_trans, le_of_eq, mul-le-mul, mul-le-mul_left, pow-le-pow_right}
use Rattle.std.proofs.lemmas.Bool.{leb-true}
use Rattle.std.proofs.lemmas.Int.{unsigned_abs-mul}
use Rattle.std.proofs.lemmas.Nat.{pow-add}
use Rattle.std.proofs.lemmas.List.Sums.{AllPass-from_list_all}
use Rattle.definitions.specs.Words.{binom}
use Rattle.definitions.specs.Sums.{count_below}
use Rattle.definitions.specs.Logarithm.{sign, lcm_to, power, surjections, log_bound}
use Rattle.definitions.proofs.SumLaws.{count_below-le, count_below-part, count_below-mul, abs-sum_below, term-le-count_below}
use Rattle.tensor_product.specs.Multiplication.{cut_value, cut_sum}
use Rattle.tensor_product.proofs.LevelLaws.{ways-small}
use Rattle.tensor_product.proofs.MultiplyLaws.{some-ways, multiple}
use Rattle.exp_log.specs.Powers.{log_factor}
use Rattle.exp_log.specs.Horner.{tail_from, HasStepRoom}
use Rattle.exp_log.proofs.Factors.{log_bound-some}
use Rattle.exp_log.proofs.PowerBounds.{IsClosed, Within, power-bound, sign-abs}

-- the tail at j letters is at most this times the j-th power of the weight
unfoldable pub mass : ℕ → ℕ → ℕ → ℕ
mass k m j = count_below (suc (k - m)) (λ i. lcm_to k / (m + i) * surjections i j)

-- the cuts of a step, without the one after all letters
unfoldable pub step_mass : ℕ → ℕ → ℕ → ℕ
step_mass k m j = count_below j (λ i. binom j i * mass k m i)

-- the numbers up to eight
abbrev upto : List ℕ
upto = range_with_len 0 9

passes-at : (p : ℕ → Bool) → list_all p upto ≡ true → (n : ℕ) → n ≤ 8 → p n ≡ true
passes-at p e n h =
    let inside : n < length upto = omega (arith, length-range_with_len 0 9) in
    let same : get_or upto n 0 ≡ n = get_or-range_with_len 0 9 n 0 (omega arith) ∙ omega arith in
    sym (ap p same) ∙ AllPass-from_list_all p upto e n 0 inside

-- no step at up to eight letters is more than the whole logarithm
mass-table : list_all (λ k. list_all (λ p. list_all (λ j. nat_le (step_mass k (suc p) (min j (k - p))) (log_bound k)) upto) upto) upto ≡ true
unfolding mass step_mass log_bound count_below
mass-table = refl

step_mass-within : (k m j : ℕ) → k ≤ 8 → 1 ≤ m → m ≤ k → j + m ≤ k + 1 → step_mass k m j ≤ log_bound k
step_mass-within k zero j small some few fits = absurd (omega arith)
step_mass-within k (suc p) j small some few fits =
    let row : list_all (λ q. list_all (λ i. nat_le (step_mass k (suc q) (min i (k - q))) (log_bound k)) upto) upto ≡ true =
    passes-at (λ n. list_all (λ q. list_all (λ i. nat_le (step_mass n (suc q) (min i (n - q))) (log_bound n)) upto) upto) mass-table k small in
    let line : list_all (λ i. nat_le (step_mass k (suc p) (min i (k - p))) (log_bound k)) upto ≡ true =
    passes-at (λ q. list_all (λ i. nat_le (step_mass k (suc q) (min i (k - q))) (log_bound k)) upto) row p (omega arith) in
    let entry : step_mass k (suc p) (min j (k - p)) ≤ log_bound k =
    leb-true (step_mass k (suc p) (min j (k - p))) (log_bound k) (passes-at (λ i. nat_le (step_mass k (suc p) (min i (k - p))) (log_bound k)) line j (omega arith)) in
    let same : min j (k - p) ≡ j = omega arith in
    subst (λ (n : ℕ). step_mass k (suc p) n ≤ log_bound k) same entry

-- one cut of a step
cut-mass : (k m j i : ℕ) → k ≤ 8 → 1 ≤ m → m ≤ k → j + m ≤ k + 1 → i < j → binom j i * mass k m i ≤ log_bound k
unfolding step_mass
cut-mass k m j i small some few fits here =
    le_trans (term-le-count_below j i (λ n. binom j n * mass k m n) here) (step_mass-within k m j small some few fits)

tail-bound : (P : List ℕ → Type 0) (s : List ℕ → ℤ) (v : ℕ) → IsClosed P → Within P s v → (k m : ℕ) (w : List ℕ) → P w → unsigned_abs (tail_from s k m w) ≤ mass k m (length w) * v ^ length w
unfolding tail_from mass
tail-bound P s v closed h k m w is =
    let n : ℕ = suc (k - m) in
    let j : ℕ = length w in
    le_trans (abs-sum_below n (λ i. log_factor (m + i) k *ℤ power s i w))
    (le_trans
    (count_below-le n (λ i. unsigned_abs (log_factor (m + i) k *ℤ power s i w)) (λ i. v ^ j * (lcm_to k / (m + i) * surjections i j)) (λ i l. term-within i))
    (le_of_eq (count_below-mul n (v ^ j) (λ i. lcm_to k / (m + i) * surjections i j) ∙ omega arith)))
  where
    term-within : (i : ℕ) → unsigned_abs (log_factor (m + i) k *ℤ power s i w) ≤ v ^ length w * (lcm_to k / (m + i) * surjections i (length w))
    term-within i =
        let c : ℕ = lcm_to k / (m + i) in
        let size : unsigned_abs (log_factor (m + i) k) ≡ c = unsigned_abs-mul (sign (m + i - 1)) (pos c) ∙ ap (λ (n : ℕ). n * c) (sign-abs (m + i - 1)) ∙ (let e : 1 * c ≡ c = omega arith in e) in
        le_trans (le_of_eq (unsigned_abs-mul (log_factor (m + i) k) (power s i w) ∙ ap (λ (n : ℕ). n * unsigned_abs (power s i w)) size))
        (le_trans (mul-le-mul_left c (power-bound P s v closed h i w is)) (le_of_eq (omega arith)))

-- the numbers of one step
module _ (most : ℕ) (P : List ℕ → Type 0) (s : List ℕ → ℤ) (v : ℕ) (closed : IsClosed P) (bounds : Within P s v) (positive : 1 ≤ v) (enough : 256 ≤ most) (k m : ℕ) (small : k ≤ 8) (some : 1 ≤ m) (few : m ≤ k)
    (fits : v ^ k * log_bound k ≤ most) (word : List ℕ) (is : P word) (short : length word + m ≤ k + 1) where
  -- the tail of which one step is taken
  abbrev pub t : List ℕ → ℤ
  t = tail_from s k m

  front-len : (i : ℕ) → i < length word → length (take i word) ≡ i
  front-len i h = omega (arith, length-take i word)

  front-bound : (i : ℕ) → i < length word → unsigned_abs (t (take i word)) ≤ mass k m i * v ^ i
  front-bound i h = subst (λ (n : ℕ). unsigned_abs (t (take i word)) ≤ mass k m n * v ^ n) (front-len i h) (tail-bound P s v closed bounds k m (take i word) (closed.front i word is))

  back-bound : (i : ℕ) → i ≤ length word → unsigned_abs (s (drop i word)) ≤ v ^ (length word - i)
  back-bound i h = subst (λ (n : ℕ). unsigned_abs (s (drop i word)) ≤ v ^ n) (length-drop i word) (bounds (drop i word) (closed.back i word is))

  -- a bound of the whole logarithm at no more letters
  whole : (n c : ℕ) → n ≤ k → c ≤ log_bound k → c * v ^ n ≤ most
  whole n c h l =
      let longer : v ^ n ≤ v ^ k = pow-le-pow_right positive h in
      let both : c * v ^ n ≤ log_bound k * v ^ k = mul-le-mul l longer in
      omega (arith, both, fits)

  scaled-bound : (i : ℕ) → i < length word → unsigned_abs (pos (binom (length word) i) *ℤ t (take i word)) ≤ binom (length word) i * mass k m i * v ^ i
  scaled-bound i h =
      le_trans (le_of_eq (unsigned_abs-mul (pos (binom (length word) i)) (t (take i word))))
      (le_trans (mul-le-mul_left (binom (length word) i) (front-bound i h)) (le_of_eq (omega arith)))

  cut-size : (i : ℕ) → i < length word → unsigned_abs (cut_value (λ j. t (take j word)) s word i) ≤ v ^ length word * (binom (length word) i * mass k m i)
  cut-size i h =
      let b : ℕ = binom (length word) i in
      let x : ℕ = unsigned_abs (t (take i word)) in
      let y : ℕ = unsigned_abs (s (drop i word)) in
      let both : x * y ≤ (mass k m i * v ^ i) * v ^ (length word - i) = mul-le-mul (front-bound i h) (back-bound i (omega arith)) in
      let joined : v ^ i * v ^ (length word - i) ≡ v ^ length word = sym (pow-add v i (length word - i)) ∙ (let e : i + (length word - i) ≡ length word = omega arith in ap (λ (n : ℕ). v ^ n) e) in
      le_trans (le_of_eq (unsigned_abs-mul (pos b) (t (take i word) *ℤ s (drop i word)) ∙ ap (λ (n : ℕ). b * n) (unsigned_abs-mul (t (take i word)) (s (drop i word)))))
      (le_trans (mul-le-mul_left b both) (le_of_eq (omega (arith, ap (λ (n : ℕ). b * (mass k m i * n)) joined))))

  cuts-size : (n : ℕ) → n ≤ length word → unsigned_abs (cut_sum (λ j. t (take j word)) s word n) ≤ step_mass k m (length word) * v ^ length word
  unfolding cut_sum step_mass
  cuts-size n h =
      let f : ℕ → ℕ = λ i. binom (length word) i * mass k m i in
      le_trans (abs-sum_below n (cut_value (λ j. t (take j word)) s word))
      (le_trans (count_below-le n (λ i. unsigned_abs (cut_value (λ j. t (take j word)) s word i)) (λ i. v ^ length word * f i) (λ i l. cut-size i (omega arith)))
      (le_trans (count_below-part (length word) n (λ i. v ^ length word * f i) h)
      (le_of_eq (count_below-mul (length word) (v ^ length word) f ∙ omega arith))))

  some-bound : 1 ≤ log_bound k
  some-bound =
      let one : suc (k - 1) ≡ k = omega arith in
      subst (λ (n : ℕ). 1 ≤ log_bound n) ((let e : k - 1 + 1 ≡ k = omega arith in e)) (log_bound-some (k - 1) (omega arith))

  -- no number on the way of the step is greater than the bound
  pub step-room : HasStepRoom most t s word
  step-room = record {
    ways = λ i h. ways-small most (length word) i (omega arith) enough;
    prefixes = λ i h.
        let more : unsigned_abs (t (take i word)) ≤ unsigned_abs (pos (binom (length word) i) *ℤ t (take i word)) = multiple (binom (length word) i) (t (take i word)) (some-ways (length word) i (omega arith)) in
        le_trans more (le_trans (scaled-bound i h) (whole i (binom (length word) i * mass k m i) (omega arith) (cut-mass k m (length word) i small some few short h)));
    suffixes = λ i h.
        let one : 1 * v ^ (length word - i) ≤ most = whole (length word - i) 1 (omega arith) some-bound in
        omega (arith, back-bound i h, one);
    scaled = λ i h. le_trans (scaled-bound i h) (whole i (binom (length word) i * mass k m i) (omega arith) (cut-mass k m (length word) i small some few short h));
    weighted = λ i h.
        let all : (binom (length word) i * mass k m i) * v ^ length word ≤ most = whole (length word) (binom (length word) i * mass k m i) (omega arith) (cut-mass k m (length word) i small some few short h) in
        omega (arith, cut-size i h, all);
    summed = λ n h. le_trans (cuts-size n h) (whole (length word) (step_mass k m (length word)) (omega arith) (step_mass-within k m (length word) small some few short));
  }
