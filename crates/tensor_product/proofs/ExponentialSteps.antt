-- The powers and the sums on the way to the exponential of a tensor: what they are, and that a weight that fits leaves room for each step.
use Rattle.std.proofs.Common.{◌≡◌, inl, inr, ℕ, zero, suc, ◌*◌, ◌-◌, ◌≤◌, ◌^◌, refl, sym, ap, ap₂, ◌∙◌, subst, arith, List, [], ◌∷◌, length, take, drop, ℤ, pos, ◌+ℤ◌, ◌*ℤ◌, unsigned_abs}
use Rattle.std.proofs.Math.IntN.{*ℤ-zero}
use Rattle.std.proofs.lemmas.Int.{ints, unsigned_abs-mul}
use Rattle.std.proofs.lemmas.Bool.{cases_lt}
use Rattle.definitions.specs.Words.{Extent, IsWord}
use Rattle.definitions.specs.Sums.{sum_below, count_below}
use Rattle.definitions.specs.Products.{unit}
use Rattle.definitions.specs.Exponentials.{plain_product, plain_power, exponential}
use Rattle.definitions.specs.Moves.{weight_from}
use Rattle.definitions.specs.Signature.{limit}
use Rattle.definitions.proofs.Integers.{zero-mul_ℤ}
use Rattle.definitions.proofs.SumLaws.{sum_below-next, sum_below-same, abs-sum_below, count_below-first, count_below-part, count_below-same, term-le-count_below}
use Rattle.scaled_tensor.specs.Tensors.{TensorValue, coefficient}
use Rattle.lie_steps.proofs.Exponentials.{power-none, sum_below-short}
use Rattle.lie_steps.proofs.ExponentialBounds.{terms-bound}
use Rattle.lie_steps.proofs.ExponentialRoom.{cuts-bound}
use Rattle.lie_steps.proofs.LieSeries.{root_at}
use Rattle.tensor_product.specs.Extension.{prefixes_of}
use Rattle.tensor_product.specs.Concatenation.{plain_value, plain_sum, HasPlainRoom, IsWritten}
use Rattle.tensor_product.specs.Sums.{HasSumRoom, IsAddedAt}
use Rattle.tensor_product.specs.Exponentiation.{HasSizes, exp_factor, exp_term, partial_exponential, HasPowerRoom}
use Rattle.tensor_product.proofs.MultiplyLaws.{word-drop}
use Rattle.tensor_product.proofs.SigLaws.{pow-within}
use Rattle.tensor_product.proofs.ExponentialLaws.{tensor-IsSized}

-- ---- powers
-- the product of the tensor with its power m - 1 is its power m
pub next-written : (z p next : TensorValue) (m : ℕ) → 1 ≤ m → IsWritten z.extent (plain_power (coefficient z) (m - 1)) p
    → IsWritten z.extent (plain_product (coefficient z) (coefficient p)) next → IsWritten z.extent (plain_power (coefficient z) m) next
unfolding plain_product
next-written z p next zero some is_p made = absurd (omega arith)
next-written z p next (suc n) some is_p made =
    let e : suc n - 1 ≡ n = omega arith in
    record {
      same_extent = made.same_extent;
      values = λ word is_word.
          made.values word is_word
          ∙ sum_below-same (suc (length word)) (λ i. coefficient z (take i word) *ℤ coefficient p (drop i word)) (λ i. coefficient z (take i word) *ℤ plain_power (coefficient z) n (drop i word))
          (λ i h. ap (λ (x : ℤ). coefficient z (take i word) *ℤ x) (is_p.values (drop i word) (word-drop z.extent i word is_word) ∙ ap (λ (k : ℕ). plain_power (coefficient z) k (drop i word)) e));
    }

-- the room of a product depends on the coefficients of the suffixes alone
pub room-of_power : (z p : TensorValue) (m : ℕ) → HasPowerRoom z → IsWritten z.extent (plain_power (coefficient z) m) p
    → (word : List ℕ) → IsWord z.extent word → HasPlainRoom (prefixes_of z word) (coefficient p) word
unfolding plain_sum
room-of_power z p m room is_p word is_word =
    let same : (i : ℕ) → plain_value (prefixes_of z word) (plain_power (coefficient z) m) word i ≡ plain_value (prefixes_of z word) (coefficient p) word i =
    λ i. ap (λ (x : ℤ). coefficient z (take i word) *ℤ x) (sym (is_p.values (drop i word) (word-drop z.extent i word is_word))) in
    let has : HasPlainRoom (prefixes_of z word) (plain_power (coefficient z) m) word = room.joined m word is_word in
    record {
      joined = λ i h. subst (λ (x : ℤ). unsigned_abs x ≤ limit) (same i) (has.joined i h);
      summed = λ n h.
          subst (λ (x : ℤ). unsigned_abs x ≤ limit)
          (sum_below-same n (plain_value (prefixes_of z word) (plain_power (coefficient z) m) word) (plain_value (prefixes_of z word) (coefficient p) word) (λ i l. same i))
          (has.summed n h);
    }

first-term : (s : List ℕ → ℤ) (word : List ℕ) → exp_term s word 0 ≡ unit word
first-term s [] = refl
first-term s (a ∷ word) = *ℤ-zero (exp_factor 0 (length (a ∷ word)))

-- the sum over the power 0 alone is the series of 1
pub sum-start : (s : List ℕ → ℤ) (word : List ℕ) → unit word ≡ partial_exponential s 0 word
unfolding partial_exponential sum_below
sum-start s word = omega (arith, ints, first-term s word)

partial-next : (s : List ℕ → ℤ) (n : ℕ) (word : List ℕ) → partial_exponential s (suc n) word ≡ partial_exponential s n word +ℤ exp_term s word (suc n)
unfolding partial_exponential
partial-next s n word = sum_below-next (suc n) (exp_term s word)

-- the m-th power, added to the sum over those before, gives the sum over the powers 0 to m
pub power-added : (z p sum new : TensorValue) (m : ℕ) → 1 ≤ m → coefficient z [] ≡ pos 0 → IsWritten z.extent (plain_power (coefficient z) m) p → IsWritten z.extent (partial_exponential (coefficient z) (m - 1)) sum
    → IsAddedAt (λ w. m ≤ length w) (exp_factor m) p sum new → IsWritten z.extent (partial_exponential (coefficient z) m) new
power-added z p sum new zero some starts is_p is_sum step = absurd (omega arith)
power-added z p sum new (suc n) some starts is_p is_sum step =
    let e : suc n - 1 ≡ n = omega arith in
    let s : List ℕ → ℤ = coefficient z in
    record {
      same_extent = step.same_extent ∙ is_sum.same_extent;
      values = λ word is_word.
          let is_old : IsWord sum.extent word = subst (λ (x : Extent). IsWord x word) (sym is_sum.same_extent) is_word in
          let before : coefficient sum word ≡ partial_exponential s n word = is_sum.values word is_word ∙ ap (λ (k : ℕ). partial_exponential s k word) e in
          elim (cases_lt n (length word)) [
            | inl long ↦ step.sums word is_old long
                ∙ ap₂ (λ (x y : ℤ). x +ℤ (exp_factor (suc n) (length word) *ℤ y)) before (is_p.values word is_word)
                ∙ sym (partial-next s n word)
            | inr short ↦
                let none : exp_term s word (suc n) ≡ pos 0 = ap (λ (x : ℤ). exp_factor (suc n) (length word) *ℤ x) (power-none s starts (suc n) word (omega arith)) ∙ *ℤ-zero (exp_factor (suc n) (length word)) in
                step.others word is_old (λ at. omega (arith, at, short)) ∙ before ∙ omega (arith, ints, partial-next s n word, none)
          ];
    }

-- no step on the way to this sum leaves the limit
pub adding-room : (z p sum : TensorValue) (m : ℕ) → 1 ≤ m → HasPowerRoom z → IsWritten z.extent (plain_power (coefficient z) m) p → IsWritten z.extent (partial_exponential (coefficient z) (m - 1)) sum
    → (word : List ℕ) → IsWord sum.extent word → m ≤ length word → HasSumRoom (coefficient sum word) (exp_factor m (length word)) (coefficient p word)
adding-room z p sum m some room is_p is_sum word is_sum_word long =
    let is_word : IsWord z.extent word = subst (λ (x : Extent). IsWord x word) is_sum.same_extent is_sum_word in
    subst (λ (x : ℤ). HasSumRoom x (exp_factor m (length word)) (coefficient p word)) (sym (is_sum.values word is_word))
    (subst (λ (y : ℤ). HasSumRoom (partial_exponential (coefficient z) (m - 1) word) (exp_factor m (length word)) y) (sym (is_p.values word is_word)) (room.added m word is_word some long))

-- the powers past the length add nothing
pub all-added : (z sum : TensorValue) (n : ℕ) → z.extent.depth ≤ n → coefficient z [] ≡ pos 0 → IsWritten z.extent (partial_exponential (coefficient z) n) sum
    → (word : List ℕ) → IsWord z.extent word → coefficient sum word ≡ exponential (coefficient z) word
unfolding partial_exponential exponential
all-added z sum n deep starts is word is_word =
    let s : List ℕ → ℤ = coefficient z in
    is.values word is_word
    ∙ sum_below-short (suc (length word)) (suc n) (exp_term s word) (omega (arith, is_word.short))
    (λ i late h. ap (λ (x : ℤ). exp_factor i (length word) *ℤ x) (power-none s starts i word (omega arith)) ∙ *ℤ-zero (exp_factor i (length word)))

-- ---- room by weight
-- the products of the parts of a word
cut-count : (z : TensorValue) (sizes : List ℕ) (m : ℕ) (word : List ℕ) (n : ℕ) → HasSizes z sizes → 1 ≤ z.extent.depth → IsWord z.extent word → n ≤ suc (length word)
    → count_below n (λ i. unsigned_abs (plain_value (prefixes_of z word) (plain_power (coefficient z) m) word i)) ≤ weight_from z.extent.depth 1 sizes ^ length word
unfolding count_below
cut-count z sizes m [] zero has some is h = omega arith
cut-count z sizes m (x ∷ word) zero has some is h = omega arith
cut-count z sizes m [] (suc n) has some is h =
    let s : List ℕ → ℤ = coefficient z in
    let none : unsigned_abs (s [] *ℤ plain_power s m []) ≡ 0 = ap (λ (y : ℤ). unsigned_abs (y *ℤ plain_power s m [])) has.starts ∙ ap unsigned_abs (zero-mul_ℤ (plain_power s m [])) in
    let f : ℕ → ℕ = λ i. unsigned_abs (plain_value (prefixes_of z []) (plain_power s m) [] i) in
    let only : n ≡ 0 = omega arith in
    omega (arith, ap (λ (k : ℕ). count_below k f) only, ap f only, none)
cut-count z sizes m (x ∷ word) (suc n) has some is h =
    let s : List ℕ → ℤ = coefficient z in
    let r : ℕ = weight_from z.extent.depth 1 sizes in
    let f : ℕ → ℕ = λ i. unsigned_abs (plain_value (prefixes_of z (x ∷ word)) (plain_power s m) (x ∷ word) i) in
    let g : ℕ → ℕ = λ j. unsigned_abs (s (x ∷ take j word)) * unsigned_abs (plain_power s m (drop j word)) in
    let none : f zero ≡ 0 = ap (λ (y : ℤ). unsigned_abs (y *ℤ plain_power s m (x ∷ word))) has.starts ∙ ap unsigned_abs (zero-mul_ℤ (plain_power s m (x ∷ word))) in
    let later : count_below n (λ j. f (suc j)) ≡ count_below n g = count_below-same n (λ j. f (suc j)) g (λ j l. unsigned_abs-mul (s (x ∷ take j word)) (plain_power s m (drop j word))) in
    omega (
      arith,
      count_below-first n f,
      none,
      later,
      count_below-part (suc (length word)) n g (omega arith),
      cuts-bound (IsWord z.extent) z.extent.depth (root_at z.extent.depth 1 sizes) r s (tensor-IsSized z sizes has) some m x word is,
    )

-- if the power of the weight is within the limit, no power and no sum on the way leaves it
pub room-by-weight : (z : TensorValue) (sizes : List ℕ) → HasSizes z sizes → 1 ≤ z.extent.depth → weight_from z.extent.depth 1 sizes ^ z.extent.depth ≤ limit → HasPowerRoom z
unfolding plain_sum partial_exponential
room-by-weight z sizes has some fits =
    let s : List ℕ → ℤ = coefficient z in
    let r : ℕ = weight_from z.extent.depth 1 sizes in
    let within : (word : List ℕ) → IsWord z.extent word → r ^ length word ≤ limit = λ word is. pow-within r (length word) z.extent.depth limit (omega arith) is.short fits in
    let terms : (word : List ℕ) → IsWord z.extent word → (n : ℕ) → n ≤ suc (length word) → count_below n (λ m. unsigned_abs (exp_term s word m)) ≤ r ^ length word =
    λ word is n h. terms-bound (IsWord z.extent) z.extent.depth (root_at z.extent.depth 1 sizes) r s (tensor-IsSized z sizes has) word is is.short n h in
    record {
      starts = has.starts;
      joined = λ m word is.
          let f : ℕ → ℤ = plain_value (prefixes_of z word) (plain_power s m) word in
          record {
            joined = λ i h. omega (arith, term-le-count_below (suc (length word)) i (λ j. unsigned_abs (f j)) (omega arith), cut-count z sizes m word (suc (length word)) has some is (omega arith), within word is);
            summed = λ n h. omega (arith, abs-sum_below n f, cut-count z sizes m word n has some is h, within word is);
          };
      added = λ m word is one long.
          let f : ℕ → ℤ = exp_term s word in
          let e : suc (m - 1) ≡ m = omega arith in
          record {
            multiplied = omega (arith, term-le-count_below (suc (length word)) m (λ j. unsigned_abs (f j)) (omega arith), terms word is (suc (length word)) (omega arith), within word is);
            summed =
                let next : sum_below (suc m) f ≡ sum_below (suc (m - 1)) f +ℤ f m = sum_below-next m f ∙ ap (λ (k : ℕ). sum_below k f +ℤ f m) (sym e) in
                omega (arith, ap unsigned_abs next, abs-sum_below (suc m) f, terms word is (suc m) (omega arith), within word is);
          };
    }
