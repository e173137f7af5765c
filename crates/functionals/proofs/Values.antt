-- The value of lists of terms, and of the shuffles of two words.
use Rattle.std.proofs.Common.{◌≡◌, ℕ, ◌+◌, ◌*◌, ◌/◌, ◌≤◌, refl, sym, ap, ap₂, ◌∙◌, arith, ℤ, pos, ◌+ℤ◌, ◌*ℤ◌, List, [], ◌∷◌, ◌++◌, length, Bool, true, eqb}
use Rattle.std.specs.Prelude.{nat_le}
use Rattle.std.proofs.Math.Nat.{le-max_left, le-max_right}
use Rattle.std.proofs.Math.IntN.{*ℤ_comm, *ℤ-zero}
use Rattle.std.proofs.lemmas.Int.{ints}
use Rattle.std.proofs.lemmas.Bool.{le-leb, eqb-true}
use Rattle.definitions.specs.Words.{binom, factorial}
use Rattle.definitions.specs.Shuffles.{shuffles, sum_over}
use Rattle.definitions.proofs.Integers.{mul-add_ℤ, mul_assoc_ℤ, zero-mul_ℤ}
use Rattle.shuffle.proofs.ShuffleSums.{add-mul_ℤ, over, over-same, sum_over-mul}
use Rattle.lie_steps.proofs.Concatenations.{swapped}
use Rattle.exp_log.proofs.ShuffleRelations.{ObeysShuffles}
use Rattle.exp_log.proofs.LogarithmsOnShuffles.{guarded, all_below, all_below-at}
use Rattle.functionals.specs.declared.term.WordTerm.{WordTerm}
use Rattle.functionals.specs.Functionals.{term_value, value, reach, each_with, shuffled_by, shuffled}

-- ---- the numbers
-- n! binom (p + q, p) (n! / (p + q)!) is (n! / p!) (n! / q!)
abbrev pub part_of : ℕ → ℕ → ℕ
part_of n k = factorial n / factorial k

abbrev equation : ℕ → ℕ → ℕ → Bool
equation n p q = guarded (nat_le (p + q) n) (λ x. eqb (factorial n * (part_of n (p + q) * binom (p + q) p)) (part_of n p * part_of n q))

-- the 165 equations of whole numbers
numbers : all_below 9 (λ n. all_below 9 (λ p. all_below 9 (λ q. equation n p q))) ≡ true
numbers = refl

numbers-at : (n p q : ℕ) → n ≤ 8 → p + q ≤ n → factorial n * (part_of n (p + q) * binom (p + q) p) ≡ part_of n p * part_of n q
numbers-at n p q small within =
    let plane : all_below 9 (λ i. all_below 9 (λ j. equation n i j)) ≡ true = all_below-at 9 (λ m. all_below 9 (λ i. all_below 9 (λ j. equation m i j))) n numbers (omega arith) in
    let row : all_below 9 (λ j. equation n p j) ≡ true = all_below-at 9 (λ i. all_below 9 (λ j. equation n i j)) p plane (omega arith) in
    let entry : equation n p q ≡ true = all_below-at 9 (λ j. equation n p j) q row (omega arith) in
    eqb-true (factorial n * (part_of n (p + q) * binom (p + q) p)) (part_of n p * part_of n q)
    (sym (ap (λ (w : Bool). guarded w (λ x. eqb (factorial n * (part_of n (p + q) * binom (p + q) p)) (part_of n p * part_of n q))) (le-leb (p + q) n within)) ∙ entry)

-- ---- values
-- the value of two lists of terms together is the sum of their values
pub value-append : (n : ℕ) (s : List ℕ → ℤ) (f g : List WordTerm) → value n s (f ++ g) ≡ value n s f +ℤ value n s g
value-append n s [] g = omega (arith, ints)
value-append n s (t ∷ f) g = omega (arith, ints, value-append n s f g)

-- a series times n! / k!
abbrev pub raised : ℕ → (List ℕ → ℤ) → List ℕ → ℤ
raised n s w = s w *ℤ pos (part_of n (length w))

value-each_with : (n : ℕ) (s : List ℕ → ℤ) (c : ℤ) (ws : List (List ℕ)) → value n s (each_with c ws) ≡ c *ℤ sum_over (raised n s) ws
value-each_with n s c [] = sym (*ℤ-zero c)
value-each_with n s c (w ∷ ws) = ap (λ (z : ℤ). (c *ℤ raised n s w) +ℤ z) (value-each_with n s c ws) ∙ sym (mul-add_ℤ c (raised n s w) (sum_over (raised n s) ws))

moved_left : (x y z : ℤ) → x *ℤ (y *ℤ z) ≡ y *ℤ (x *ℤ z)
moved_left x y z = sym (mul_assoc_ℤ x y z) ∙ ap (λ (a : ℤ). a *ℤ z) (*ℤ_comm x y) ∙ mul_assoc_ℤ y x z

-- the shuffles of two words, where the series obeys the shuffle relations
over-raised : (n : ℕ) (s : List ℕ → ℤ) (u v : List ℕ) → ObeysShuffles s
    → over (raised n s) u v ≡ pos (part_of n (length u + length v)) *ℤ (pos (binom (length u + length v) (length u)) *ℤ (s u *ℤ s v))
over-raised n s u v obeys =
    let d : ℤ = pos (part_of n (length u + length v)) in
    over-same u v (raised n s) (λ w. d *ℤ s w) (λ w h. *ℤ_comm (s w) (pos (part_of n (length w))) ∙ ap (λ (k : ℕ). pos (part_of n k) *ℤ s w) h)
    ∙ sum_over-mul d s (shuffles u v)
    ∙ ap (λ (z : ℤ). d *ℤ z) (obeys u v)

three : (m d b : ℕ) (z : ℤ) → pos m *ℤ (pos d *ℤ (pos b *ℤ z)) ≡ pos (m * (d * b)) *ℤ z
three m d b z = ap (λ (x : ℤ). pos m *ℤ x) (sym (mul_assoc_ℤ (pos d) (pos b) z)) ∙ sym (mul_assoc_ℤ (pos m) (pos (d * b)) z)

two : (p q : ℕ) (x y : ℤ) → (x *ℤ pos p) *ℤ (y *ℤ pos q) ≡ pos (p * q) *ℤ (x *ℤ y)
two p q x y = swapped x (pos p) y (pos q) ∙ *ℤ_comm (x *ℤ y) (pos (p * q))

pair-value : (n : ℕ) (s : List ℕ → ℤ) (a b : ℤ) (u v : List ℕ) → ObeysShuffles s → n ≤ 8 → length u + length v ≤ n
    → pos (factorial n) *ℤ value n s (each_with (a *ℤ b) (shuffles u v)) ≡ (a *ℤ raised n s u) *ℤ (b *ℤ raised n s v)
pair-value n s a b u v obeys small within =
    let p : ℕ = length u in
    let q : ℕ = length v in
    ap (λ (z : ℤ). pos (factorial n) *ℤ z) (value-each_with n s (a *ℤ b) (shuffles u v) ∙ ap (λ (z : ℤ). (a *ℤ b) *ℤ z) (over-raised n s u v obeys))
    ∙ moved_left (pos (factorial n)) (a *ℤ b) (pos (part_of n (p + q)) *ℤ (pos (binom (p + q) p) *ℤ (s u *ℤ s v)))
    ∙ ap (λ (z : ℤ). (a *ℤ b) *ℤ z)
    (three (factorial n) (part_of n (p + q)) (binom (p + q) p) (s u *ℤ s v)
    ∙ ap (λ (k : ℕ). pos k *ℤ (s u *ℤ s v)) (numbers-at n p q small within)
    ∙ sym (two (part_of n p) (part_of n q) (s u) (s v)))
    ∙ sym (swapped a (raised n s u) b (raised n s v))

-- one term with each of a list
value-shuffled_by : (n : ℕ) (s : List ℕ → ℤ) (t : WordTerm) (g : List WordTerm) → ObeysShuffles s → n ≤ 8 → length t.word + reach g ≤ n
    → pos (factorial n) *ℤ value n s (shuffled_by t g) ≡ term_value n s t *ℤ value n s g
value-shuffled_by n s t [] obeys small within = *ℤ-zero (pos (factorial n)) ∙ sym (*ℤ-zero (term_value n s t))
value-shuffled_by n s t (r ∷ g) obeys small within =
    let here : List WordTerm = each_with (t.coefficient *ℤ r.coefficient) (shuffles t.word r.word) in
    ap (λ (z : ℤ). pos (factorial n) *ℤ z) (value-append n s here (shuffled_by t g))
    ∙ mul-add_ℤ (pos (factorial n)) (value n s here) (value n s (shuffled_by t g))
    ∙ ap₂ ◌+ℤ◌
    (pair-value n s t.coefficient r.coefficient t.word r.word obeys small (omega (arith, within, le-max_left (length r.word) (reach g))))
    (value-shuffled_by n s t g obeys small (omega (arith, within, le-max_right (length r.word) (reach g))))
    ∙ sym (mul-add_ℤ (term_value n s t) (term_value n s r) (value n s g))

-- the list of all shuffles
pub value-shuffled : (n : ℕ) (s : List ℕ → ℤ) (f g : List WordTerm) → ObeysShuffles s → n ≤ 8 → reach f + reach g ≤ n
    → pos (factorial n) *ℤ value n s (shuffled f g) ≡ value n s f *ℤ value n s g
value-shuffled n s [] g obeys small within = *ℤ-zero (pos (factorial n)) ∙ sym (zero-mul_ℤ (value n s g))
value-shuffled n s (t ∷ f) g obeys small within =
    ap (λ (z : ℤ). pos (factorial n) *ℤ z) (value-append n s (shuffled_by t g) (shuffled f g))
    ∙ mul-add_ℤ (pos (factorial n)) (value n s (shuffled_by t g)) (value n s (shuffled f g))
    ∙ ap₂ ◌+ℤ◌
    (value-shuffled_by n s t g obeys small (omega (arith, within, le-max_left (length t.word) (reach f))))
    (value-shuffled n s f g obeys small (omega (arith, within, le-max_right (length t.word) (reach f))))
    ∙ sym (add-mul_ℤ (term_value n s t) (value n s f) (value n s g))
