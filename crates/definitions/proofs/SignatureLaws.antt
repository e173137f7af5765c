-- The signature of one move more, of two joined lists, and the weight as a bound.
use Rattle.std.proofs.Common.{◌≡◌, ℕ, suc, ◌+◌, ◌≤◌, ◌^◌, refl, sym, ap, ◌∙◌, subst, arith, ℤ, unsigned_abs, List, [], ◌∷◌, ◌++◌, length, take, drop, length-take, length-drop}
use Rattle.std.proofs.Math.Nat.{pow-zero}
use Rattle.std.proofs.lemmas.List.Sums.{fold_push, fold-append, sum_by-cons}
use Rattle.std.specs.Prelude.{All, fold}
use Rattle.std.proofs.lemmas.List.Elements.{All-head, All-tail}
use Rattle.definitions.specs.Sums.{sum_below}
use Rattle.definitions.specs.Products.{unit, product_term, scaled_product}
use Rattle.definitions.specs.Moves.{Parts, step, move_weight}
use Rattle.definitions.specs.Signature.{signature, weight}
use Rattle.definitions.proofs.ProductLaws.{scaled_product-assoc, scaled_product-unit_left, scaled_product-unit_right, scaled_product-same}
use Rattle.definitions.proofs.ProductBounds.{AreFactors, partial-bound, product-bound}

-- the series times the step of one move
abbrev extended : (List ℕ → ℤ) → Parts → List ℕ → ℤ
extended series parts = scaled_product series (step parts)

-- the signature of no moves is the unit
pub signature-none : (word : List ℕ) → signature [] word ≡ unit word
unfolding signature
signature-none word = refl

-- one move more multiplies the signature by its step, on the right
pub signature-push : (moves : List Parts) (x : Parts) (word : List ℕ) → signature (moves ++ x ∷ []) word ≡ scaled_product (signature moves) (step x) word
unfolding signature
signature-push moves x word = ap (λ (s : List ℕ → ℤ). s word) (fold_push extended unit moves x)

-- moves after a series: the series times their signature
fold-product : (moves : List Parts) (series : List ℕ → ℤ) (word : List ℕ) → fold extended series moves word ≡ scaled_product series (fold extended unit moves) word
fold-product [] series word = sym (scaled_product-unit_right series word)
fold-product (x ∷ moves) series word =
    let rest : List ℕ → ℤ = fold extended unit moves in
    fold-product moves (extended series x) word
    ∙ scaled_product-assoc series (step x) rest word
    ∙ scaled_product-same series series (scaled_product (step x) rest) (fold extended (extended unit x) moves) word (λ i h. refl)
    (λ i h. scaled_product-same (step x) (extended unit x) rest rest (drop i word)
    (λ j l. sym (scaled_product-unit_left (step x) (take j (drop i word)))) (λ j l. refl)
    ∙ sym (fold-product moves (extended unit x) (drop i word)))

-- Chen's identity
pub signature-append : (A B : List Parts) (word : List ℕ) → signature (A ++ B) word ≡ scaled_product (signature A) (signature B) word
unfolding signature
signature-append A B word =
    ap (λ (s : List ℕ → ℤ). s word) (fold-append extended unit A B) ∙ fold-product B (fold extended unit A) word

-- ---- bounds, at words of at most this depth
-- a coefficient of k letters is at most v ^ k
abbrev pub Bounded : ℕ → (List ℕ → ℤ) → ℕ → Type 0
Bounded depth series v = (u : List ℕ) → length u ≤ depth → unsigned_abs (series u) ≤ v ^ length u

-- the weight of each move bounds its step
abbrev pub StepsBounded : ℕ → List Parts → Type 0
StepsBounded depth moves = All (λ x. Bounded depth (step x) (move_weight x)) moves

-- bounds for all words, as bounds for the prefixes and suffixes of one
pub bounded-factors : (depth : ℕ) (a b : List ℕ → ℤ) (v m : ℕ) (word : List ℕ) → length word ≤ depth → Bounded depth a v → Bounded depth b m
    → AreFactors v m (length word) (λ i. a (take i word)) (λ i. b (drop i word))
bounded-factors depth a b v m word short left right = record {
  left = λ i h. let at : length (take i word) ≡ i = omega (arith, length-take i word) in subst (λ (n : ℕ). unsigned_abs (a (take i word)) ≤ v ^ n) at (left (take i word) (omega arith));
  right = λ i h. subst (λ (n : ℕ). unsigned_abs (b (drop i word)) ≤ m ^ n) (length-drop i word) (right (drop i word) (omega (arith, length-drop i word)));
}

unit-bound : (word : List ℕ) → unsigned_abs (unit word) ≤ 0 ^ length word
unit-bound [] = rw pow-zero (omega arith)
unit-bound (a ∷ word) = omega arith

fold-bound : (depth : ℕ) (moves : List Parts) (series : List ℕ → ℤ) (v : ℕ) → StepsBounded depth moves → Bounded depth series v → Bounded depth (fold extended series moves) (v + weight moves)
fold-bound depth [] series v each bound word short = let e : v + weight [] ≡ v = omega arith in rw e (bound word short)
fold-bound depth (x ∷ moves) series v each bound word short =
    let e : v + weight (x ∷ moves) ≡ v + move_weight x + weight moves = omega (arith, sum_by-cons move_weight x moves) in
    rw e (fold-bound depth moves (extended series x) (v + move_weight x) (All-tail (λ y. Bounded depth (step y) (move_weight y)) x moves each)
    (λ u l. product-bound series (step x) v (move_weight x) u
    (bounded-factors depth series (step x) v (move_weight x) u l bound (All-head (λ y. Bounded depth (step y) (move_weight y)) x moves each))) word short)

-- the weight bounds each coefficient
pub signature-bound : (depth : ℕ) (moves : List Parts) → StepsBounded depth moves → Bounded depth (signature moves) (weight moves)
unfolding signature
signature-bound depth moves each word short =
    let none : 0 + weight moves ≡ weight moves = omega arith in
    subst (λ (v : ℕ). unsigned_abs (fold extended unit moves word) ≤ v ^ length word) none (fold-bound depth moves unit 0 each (λ u l. unit-bound u) word short)

-- and each sum on the way to the coefficient of a product
pub joined-bound : (depth : ℕ) (A B : List Parts) → StepsBounded depth A → StepsBounded depth B → (word : List ℕ) (n : ℕ) → length word ≤ depth → n ≤ suc (length word)
    → unsigned_abs (sum_below n (product_term (signature A) (signature B) word)) ≤ (weight A + weight B) ^ length word
joined-bound depth A B left right word n short h =
    partial-bound (signature A) (signature B) (weight A) (weight B) word n
    (bounded-factors depth (signature A) (signature B) (weight A) (weight B) word short (signature-bound depth A left) (signature-bound depth B right)) h
