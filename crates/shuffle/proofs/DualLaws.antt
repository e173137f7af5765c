-- The dual of right-normed bracketing is a sum over shuffles.
use Rattle.std.proofs.Common.{◌≡◌, inl, inr, ℕ, zero, suc, ◌-◌, ◌≤◌, ◌<◌, refl, sym, ap, ap₂, ◌∙◌, subst, arith, ℤ, pos, neg_ℤ, ◌+ℤ◌, ◌-ℤ◌, ◌*ℤ◌, List, [], ◌∷◌, ◌++◌, length, take, drop, reverse, length-take, length-drop, length-append, cond}
use Rattle.std.specs.Prelude.{All, Bool, negsuc}
use Rattle.std.proofs.lemmas.Bool.{eq-eqb, ne_eqb, cases_eq}
use Rattle.std.proofs.lemmas.List.Elements.{All-nil, All-cons, All-head, All-tail, All-append, All-same, All-take, All-drop}
use Rattle.std.proofs.lemmas.List.{reverse-append, length-reverse, take_all, drop_all}
use Rattle.std.proofs.lemmas.Int.{ints}
use Rattle.std.proofs.Math.IntN.{*ℤ_comm, *ℤ-zero}
use Rattle.definitions.specs.Words.{IsLetter}
use Rattle.definitions.specs.Sums.{sum_below}
use Rattle.definitions.specs.Shuffles.{shuffles, sum_over}
use Rattle.definitions.specs.Logarithm.{sign}
use Rattle.definitions.specs.Commutators.{VanishesAt, letter, commutator, commutator_term, right_normed, sum_words, dual, folded_term}
use Rattle.definitions.proofs.Integers.{mul-add_ℤ, mul_assoc_ℤ, zero-mul_ℤ, one-mul_ℤ}
use Rattle.definitions.proofs.SumLaws.{sum_below-add, sum_below-mul, sum_below-same, sum_below-next, sum_below-zero}
use Rattle.shuffle.proofs.ShuffleSums.{add-mul_ℤ, over, over-cons, cut, cut-same, cut-add, cut-sum, over-none_left, over-none_right}

-- ---- the last letter of a word
-- a word with its last letter apart
abbrev pub Ends : ℕ → List ℕ → Type 0
Ends a u = (m : List ℕ) × (b : ℕ) × (a ∷ u ≡ m ++ b ∷ [])

-- each nonempty word has a last letter
pub ends : (a : ℕ) (u : List ℕ) → Ends a u
ends a [] = ([], a, refl)
ends a (b ∷ u) = let rest : Ends b u = ends b u in (a ∷ rest.0, rest.1, ap (λ (w : List ℕ). a ∷ w) rest.2)

-- ---- cuts by the last letter
-- the sum over the cuts of a word, by its last letter: on the right of the cut, or cut off by nothing
pub cut-last : (g : List ℕ → List ℕ → ℤ) (m : List ℕ) (b : ℕ) → cut g (m ++ b ∷ []) ≡ cut (λ p q. g p (q ++ b ∷ [])) m +ℤ g (m ++ b ∷ []) []
cut-last g [] b = refl
cut-last g (x ∷ m) b = omega (arith, ints, cut-last (λ p q. g (x ∷ p) q) m b)

-- ---- alternating sums of shuffles with a reversed word
-- what the cut p q of a word adds: f over the shuffles of p and q reversed, times c of the letters in p, with the sign of the letters in q
abbrev pub folded_cell : (ℕ → ℤ) → (List ℕ → ℤ) → List ℕ → List ℕ → ℤ
folded_cell c f p q = (sign (length q) *ℤ c (length p)) *ℤ over f p (reverse q)

-- the sum of this over all cuts of a word
abbrev pub folded : (ℕ → ℤ) → (List ℕ → ℤ) → List ℕ → ℤ
folded c f w = cut (folded_cell c f) w

reverse-last : (q : List ℕ) (b : ℕ) → reverse (q ++ b ∷ []) ≡ b ∷ reverse q
reverse-last q b = reverse-append q (b ∷ [])

length-last : (q : List ℕ) (b : ℕ) → length (q ++ b ∷ []) ≡ suc (length q)
length-last q b = omega (arith, length-append q (b ∷ []))

-- a sign comes out of a product
pub neg-mul : (x y : ℤ) → neg_ℤ x *ℤ y ≡ neg_ℤ (x *ℤ y)
neg-mul x y =
    let none : neg_ℤ x +ℤ x ≡ pos 0 = omega (arith, ints) in
    omega (arith, ints, add-mul_ℤ (neg_ℤ x) x y, ap (λ (z : ℤ). z *ℤ y) none, zero-mul_ℤ y)

-- the cut's term in two, one with the sign of one letter more
split-cell : (s c x y : ℤ) → (neg_ℤ s *ℤ c) *ℤ (x +ℤ y) ≡ ((neg_ℤ s *ℤ c) *ℤ x) -ℤ ((s *ℤ c) *ℤ y)
split-cell s c x y =
    mul-add_ℤ (neg_ℤ s *ℤ c) x y ∙ ap (λ (z : ℤ). ((neg_ℤ s *ℤ c) *ℤ x) +ℤ z) (ap (λ (z : ℤ). z *ℤ y) (neg-mul s c) ∙ neg-mul (s *ℤ c) y)
    ∙ omega (arith, ints)

-- the cut after (a ∷ p), before a nonempty rest
folded-inner : (c : ℕ → ℤ) (f : List ℕ → ℤ) (a b : ℕ) (p q : List ℕ)
    → folded_cell c f (a ∷ p) (q ++ b ∷ []) ≡ folded_cell (λ i. c (suc i)) (λ w. f (a ∷ w)) p (q ++ b ∷ []) -ℤ folded_cell c (λ w. f (b ∷ w)) (a ∷ p) q
folded-inner c f a b p q =
    let r : List ℕ = q ++ b ∷ [] in
    let s : ℤ = sign (length q) in
    let k : ℤ = c (suc (length p)) in
    let fa : List ℕ → ℤ = λ w. f (a ∷ w) in
    let fb : List ℕ → ℤ = λ w. f (b ∷ w) in
    ap₂ (λ (n : ℕ) (t : List ℕ). (sign n *ℤ k) *ℤ over f (a ∷ p) t) (length-last q b) (reverse-last q b)
    ∙ ap (λ (z : ℤ). (neg_ℤ s *ℤ k) *ℤ z) (over-cons f a b p (reverse q))
    ∙ split-cell s k (over fa p (b ∷ reverse q)) (over fb (a ∷ p) (reverse q))
    ∙ ap (λ (z : ℤ). z -ℤ ((s *ℤ k) *ℤ over fb (a ∷ p) (reverse q)))
    (sym (ap₂ (λ (n : ℕ) (t : List ℕ). (sign n *ℤ k) *ℤ over fa p t) (length-last q b) (reverse-last q b)))

-- the sum over cuts of a difference
pub cut-sub : (f g : List ℕ → List ℕ → ℤ) (w : List ℕ) → cut (λ p q. f p q -ℤ g p q) w ≡ cut f w -ℤ cut g w
cut-sub f g [] = refl
cut-sub f g (x ∷ w) = omega (arith, ints, cut-sub (λ p q. f (x ∷ p) q) (λ p q. g (x ∷ p) q) w)

-- four terms in another order, two of them under one sign
regroup : (o i j l : ℤ) → neg_ℤ o +ℤ ((i -ℤ j) +ℤ l) ≡ (i +ℤ l) -ℤ (o +ℤ j)
regroup o i j l = omega (arith, ints)

-- by the first letter and the last one of the word
pub folded-step : (c : ℕ → ℤ) (f : List ℕ → ℤ) (a : ℕ) (m : List ℕ) (b : ℕ)
    → folded c f (a ∷ (m ++ b ∷ [])) ≡ folded (λ i. c (suc i)) (λ w. f (a ∷ w)) (m ++ b ∷ []) -ℤ folded c (λ w. f (b ∷ w)) (a ∷ m)
folded-step c f a m b =
    let u : List ℕ = m ++ b ∷ [] in
    let fa : List ℕ → ℤ = λ w. f (a ∷ w) in
    let fb : List ℕ → ℤ = λ w. f (b ∷ w) in
    let c' : ℕ → ℤ = λ i. c (suc i) in
    let first : folded_cell c f [] (a ∷ u) ≡ neg_ℤ (folded_cell c fb [] (a ∷ m)) =
    ap₂ (λ (n : ℕ) (t : List ℕ). (sign n *ℤ c 0) *ℤ over f [] t) (ap suc (length-last m b)) (reverse-last (a ∷ m) b)
    ∙ ap (λ (z : ℤ). (neg_ℤ (sign (suc (length m))) *ℤ c 0) *ℤ z) (over-none_left f (b ∷ reverse (a ∷ m)) ∙ sym (over-none_left fb (reverse (a ∷ m))))
    ∙ ap (λ (z : ℤ). z *ℤ over fb [] (reverse (a ∷ m))) (neg-mul (sign (suc (length m))) (c 0))
    ∙ neg-mul (sign (suc (length m)) *ℤ c 0) (over fb [] (reverse (a ∷ m))) in
    let middle : cut (λ p q. folded_cell c f (a ∷ p) (q ++ b ∷ [])) m ≡ cut (λ p q. folded_cell c' fa p (q ++ b ∷ [])) m -ℤ cut (λ p q. folded_cell c fb (a ∷ p) q) m =
    cut-same (λ p q. folded_cell c f (a ∷ p) (q ++ b ∷ [])) (λ p q. folded_cell c' fa p (q ++ b ∷ []) -ℤ folded_cell c fb (a ∷ p) q) m (λ p q. folded-inner c f a b p q)
    ∙ cut-sub (λ p q. folded_cell c' fa p (q ++ b ∷ [])) (λ p q. folded_cell c fb (a ∷ p) q) m in
    let last : folded_cell c f (a ∷ u) [] ≡ folded_cell c' fa u [] =
    ap (λ (z : ℤ). (pos 1 *ℤ c (suc (length u))) *ℤ z) (over-none_right f (a ∷ u) ∙ sym (over-none_right fa u)) in
    ap₂ ◌+ℤ◌ first (cut-last (λ p q. folded_cell c f (a ∷ p) q) m b ∙ ap₂ ◌+ℤ◌ middle last)
    ∙ regroup (folded_cell c fb [] (a ∷ m)) (cut (λ p q. folded_cell c' fa p (q ++ b ∷ [])) m) (cut (λ p q. folded_cell c fb (a ∷ p) q) m) (folded_cell c' fa u [])
    ∙ ap (λ (z : ℤ). z -ℤ folded c fb (a ∷ m)) (sym (cut-last (folded_cell c' fa) m b))

-- the folded sum at a word of one letter
pub folded-one : (c : ℕ → ℤ) (f : List ℕ → ℤ) (a : ℕ) → folded c f (a ∷ []) ≡ (c 1 -ℤ c 0) *ℤ f (a ∷ [])
folded-one c f a =
    let x : ℤ = f (a ∷ []) in
    ap₂ (λ (y z : ℤ). ((neg_ℤ (pos 1) *ℤ c 0) *ℤ y) +ℤ ((pos 1 *ℤ c 1) *ℤ z)) (over-none_left f (a ∷ [])) (over-none_right f (a ∷ []))
    ∙ ap₂ (λ (y z : ℤ). (y *ℤ x) +ℤ (z *ℤ x)) (neg-mul (pos 1) (c 0) ∙ ap neg_ℤ (one-mul_ℤ (c 0))) (one-mul_ℤ (c 1))
    ∙ sym (add-mul_ℤ (neg_ℤ (c 0)) (c 1) x)
    ∙ ap (λ (z : ℤ). z *ℤ x) (let e : neg_ℤ (c 0) +ℤ c 1 ≡ c 1 -ℤ c 0 = omega (arith, ints) in e)

-- a statement on all nonempty words, from a letter and from the words without the first and without the last letter
pub by_ends : (P : (List ℕ → ℤ) → List ℕ → Type 0) → ((f : List ℕ → ℤ) (a : ℕ) → P f (a ∷ []))
    → ((f : List ℕ → ℤ) (a : ℕ) (m : List ℕ) (b : ℕ) → P (λ w. f (a ∷ w)) (m ++ b ∷ []) → P (λ w. f (b ∷ w)) (a ∷ m) → P f (a ∷ (m ++ b ∷ [])))
    → (n : ℕ) (f : List ℕ → ℤ) (w : List ℕ) → length w ≡ suc n → P f w
by_ends P one step n f [] h = absurd (omega arith)
by_ends P one step zero f (a ∷ []) h = one f a
by_ends P one step zero f (a ∷ x ∷ u) h = absurd (omega arith)
by_ends P one step (suc n) f (a ∷ []) h = absurd (omega arith)
by_ends P one step (suc n) f (a ∷ x ∷ u) h =
    let e : Ends x u = ends x u in
    let m : List ℕ = e.0 in
    let b : ℕ = e.1 in
    let lens : length (m ++ b ∷ []) ≡ suc n = ap length (sym e.2) ∙ omega arith in
    subst (λ (v : List ℕ). P f (a ∷ v)) (sym e.2)
    (step f a m b (by_ends P one step n (λ w. f (a ∷ w)) (m ++ b ∷ []) lens) (by_ends P one step n (λ w. f (b ∷ w)) (a ∷ m) (omega (arith, lens, length-last m b))))

-- each count is 1
abbrev pub ones : ℕ → ℤ
ones i = pos 1

-- the alternating sum of the shuffles of a front and the rest reversed vanishes
pub alternating-none : (n : ℕ) (f : List ℕ → ℤ) (w : List ℕ) → length w ≡ suc n → folded ones f w ≡ pos 0
alternating-none n f w h =
    by_ends (λ g v. folded ones g v ≡ pos 0) (λ g a. folded-one ones g a ∙ zero-mul_ℤ (g (a ∷ [])))
    (λ g a m b ha hb. folded-step ones g a m b ∙ ap₂ ◌-ℤ◌ ha hb) n f w h

folded-add : (c d : ℕ → ℤ) (f : List ℕ → ℤ) (w : List ℕ) → folded (λ i. c i +ℤ d i) f w ≡ folded c f w +ℤ folded d f w
folded-add c d f w =
    cut-same (folded_cell (λ i. c i +ℤ d i) f) (λ p q. folded_cell c f p q +ℤ folded_cell d f p q) w
    (λ p q. ap (λ (z : ℤ). z *ℤ over f p (reverse q)) (mul-add_ℤ (sign (length q)) (c (length p)) (d (length p)))
    ∙ add-mul_ℤ (sign (length q) *ℤ c (length p)) (sign (length q) *ℤ d (length p)) (over f p (reverse q)))
    ∙ cut-add (folded_cell c f) (folded_cell d f) w

-- counted by the letters in front
pub folded-counted : (n : ℕ) (f : List ℕ → ℤ) (w : List ℕ) → length w ≡ suc n → folded (λ i. pos (suc i)) f w ≡ folded pos f w
folded-counted n f w h =
    cut-same (folded_cell (λ i. pos (suc i)) f) (folded_cell (λ i. pos i +ℤ ones i) f) w
    (λ p q. ap (λ (z : ℤ). (sign (length q) *ℤ z) *ℤ over f p (reverse q)) (let e : pos (suc (length p)) ≡ pos (length p) +ℤ pos 1 = omega (arith, ints) in e))
    ∙ folded-add pos ones f w ∙ ap (λ (z : ℤ). folded pos f w +ℤ z) (alternating-none n f w h)
    ∙ omega (arith, ints)

-- with the letters in front as the count, a word is folded by its first letter and its last one
pub folded_pos-step : (f : List ℕ → ℤ) (a : ℕ) (m : List ℕ) (b : ℕ)
    → folded pos f (a ∷ (m ++ b ∷ [])) ≡ folded pos (λ w. f (a ∷ w)) (m ++ b ∷ []) -ℤ folded pos (λ w. f (b ∷ w)) (a ∷ m)
folded_pos-step f a m b =
    folded-step pos f a m b
    ∙ ap (λ (z : ℤ). z -ℤ folded pos (λ w. f (b ∷ w)) (a ∷ m)) (folded-counted (length m) (λ w. f (a ∷ w)) (m ++ b ∷ []) (length-last m b))

-- ---- commutators by the first letter and the last one of the word
-- a commutator is a sum over the cuts of the word
pub commutator-cut : (s t : List ℕ → ℤ) (w : List ℕ) → commutator s t w ≡ cut (λ p q. (s p *ℤ t q) -ℤ (t p *ℤ s q)) w
unfolding commutator commutator_term
commutator-cut s t w = cut-sum (λ p q. (s p *ℤ t q) -ℤ (t p *ℤ s q)) w

-- a letter is 0 at words of two letters or more
pub letter-longer : (a : ℕ) (w : List ℕ) → 2 ≤ length w → letter a w ≡ pos 0
letter-longer a [] h = absurd (omega arith)
letter-longer a (b ∷ []) h = absurd (omega arith)
letter-longer a (b ∷ c ∷ w) h = refl

-- a sum of zeros over cuts is 0
pub cut-none : (g : List ℕ → List ℕ → ℤ) (w : List ℕ) → ((p q : List ℕ) → g p q ≡ pos 0) → cut g w ≡ pos 0
cut-none g [] none = none [] []
cut-none g (x ∷ w) none = ap₂ ◌+ℤ◌ (none [] (x ∷ w)) (cut-none (λ p q. g (x ∷ p) q) w (λ p q. none (x ∷ p) q))

-- a letter in front
letter-front : (a x : ℕ) (f : List ℕ → ℤ) (m : List ℕ) → cut (λ p q. letter a (x ∷ p) *ℤ f q) m ≡ letter a (x ∷ []) *ℤ f m
letter-front a x f [] = refl
letter-front a x f (z ∷ m) =
    ap (λ (n : ℤ). (letter a (x ∷ []) *ℤ f (z ∷ m)) +ℤ n) (cut-none (λ p q. pos 0 *ℤ f q) m (λ p q. zero-mul_ℤ (f q)))
    ∙ omega (arith, ints)

-- a letter at the end
letter-last : (a y : ℕ) (f : List ℕ → ℤ) (m : List ℕ) → cut (λ p q. f p *ℤ letter a (q ++ y ∷ [])) m ≡ f m *ℤ letter a (y ∷ [])
letter-last a y f [] = refl
letter-last a y f (z ∷ m) =
    ap₂ (λ (i j : ℤ). (f [] *ℤ i) +ℤ j) (letter-longer a (z ∷ (m ++ y ∷ [])) (omega (arith, length-last m y))) (letter-last a y (λ p. f (z ∷ p)) m)
    ∙ ap (λ (i : ℤ). i +ℤ (f (z ∷ m) *ℤ letter a (y ∷ []))) (*ℤ-zero (f []))
    ∙ omega (arith, ints)

-- a word of two letters or more in the commutator of a letter
pub commutator-letter : (a : ℕ) (t : List ℕ → ℤ) (x : ℕ) (m : List ℕ) (y : ℕ)
    → commutator (letter a) t (x ∷ (m ++ y ∷ [])) ≡ (letter a (x ∷ []) *ℤ t (m ++ y ∷ [])) -ℤ (letter a (y ∷ []) *ℤ t (x ∷ m))
commutator-letter a t x m y =
    let u : List ℕ = m ++ y ∷ [] in
    let g : List ℕ → List ℕ → ℤ = λ p q. (letter a p *ℤ t q) -ℤ (t p *ℤ letter a q) in
    let long : letter a (x ∷ u) ≡ pos 0 = letter-longer a (x ∷ u) (omega (arith, length-last m y)) in
    let first : g [] (x ∷ u) ≡ pos 0 =
    ap₂ (λ (i j : ℤ). i -ℤ (t [] *ℤ j)) (zero-mul_ℤ (t (x ∷ u))) long ∙ ap (λ (i : ℤ). pos 0 -ℤ i) (*ℤ-zero (t [])) in
    let last : g (x ∷ u) [] ≡ pos 0 =
    ap₂ (λ (i j : ℤ). (i *ℤ t []) -ℤ j) long (*ℤ-zero (t (x ∷ u))) ∙ ap (λ (i : ℤ). i -ℤ pos 0) (zero-mul_ℤ (t [])) in
    let middle : cut (λ p q. g (x ∷ p) (q ++ y ∷ [])) m ≡ (letter a (x ∷ []) *ℤ t u) -ℤ (t (x ∷ m) *ℤ letter a (y ∷ [])) =
    cut-sub (λ p q. letter a (x ∷ p) *ℤ t (q ++ y ∷ [])) (λ p q. t (x ∷ p) *ℤ letter a (q ++ y ∷ [])) m
    ∙ ap₂ ◌-ℤ◌ (letter-front a x (λ q. t (q ++ y ∷ [])) m) (letter-last a y (λ p. t (x ∷ p)) m) in
    commutator-cut (letter a) t (x ∷ u)
    ∙ ap₂ ◌+ℤ◌ first (cut-last (λ p q. g (x ∷ p) q) m y ∙ ap₂ ◌+ℤ◌ middle last)
    ∙ omega (arith, ints, *ℤ_comm (t (x ∷ m)) (letter a (y ∷ [])))

-- ---- sums over words
-- sums over words of k letters agree where their terms do
pub sum_words-same : (width k : ℕ) (f g : List ℕ → ℤ) → ((u : List ℕ) → length u ≡ k → f u ≡ g u) → sum_words width k f ≡ sum_words width k g
sum_words-same width zero f g same = same [] refl
sum_words-same width (suc k) f g same =
    sum_below-same width (λ i. sum_words width k (λ u. f (suc i ∷ u))) (λ i. sum_words width k (λ u. g (suc i ∷ u)))
    (λ i h. sum_words-same width k (λ u. f (suc i ∷ u)) (λ u. g (suc i ∷ u)) (λ u e. same (suc i ∷ u) (ap suc e)))

-- the sum of sums over words
pub sum_words-add : (width k : ℕ) (f g : List ℕ → ℤ) → sum_words width k (λ u. f u +ℤ g u) ≡ sum_words width k f +ℤ sum_words width k g
sum_words-add width zero f g = refl
sum_words-add width (suc k) f g =
    sum_below-same width (λ i. sum_words width k (λ u. f (suc i ∷ u) +ℤ g (suc i ∷ u))) (λ i. sum_words width k (λ u. f (suc i ∷ u)) +ℤ sum_words width k (λ u. g (suc i ∷ u)))
    (λ i h. sum_words-add width k (λ u. f (suc i ∷ u)) (λ u. g (suc i ∷ u)))
    ∙ sum_below-add width (λ i. sum_words width k (λ u. f (suc i ∷ u))) (λ i. sum_words width k (λ u. g (suc i ∷ u)))

-- a factor comes out of a sum over words
pub sum_words-mul : (width k : ℕ) (c : ℤ) (f : List ℕ → ℤ) → sum_words width k (λ u. c *ℤ f u) ≡ c *ℤ sum_words width k f
sum_words-mul width zero c f = refl
sum_words-mul width (suc k) c f =
    sum_below-same width (λ i. sum_words width k (λ u. c *ℤ f (suc i ∷ u))) (λ i. c *ℤ sum_words width k (λ u. f (suc i ∷ u)))
    (λ i h. sum_words-mul width k c (λ u. f (suc i ∷ u)))
    ∙ sum_below-mul width c (λ i. sum_words width k (λ u. f (suc i ∷ u)))

neg-as-mul : (x : ℤ) → neg_ℤ x ≡ negsuc 0 *ℤ x
neg-as-mul x = omega (arith, ints)

-- the difference of sums over words
pub sum_words-sub : (width k : ℕ) (f g : List ℕ → ℤ) → sum_words width k (λ u. f u -ℤ g u) ≡ sum_words width k f -ℤ sum_words width k g
sum_words-sub width k f g =
    sum_words-same width k (λ u. f u -ℤ g u) (λ u. f u +ℤ (negsuc 0 *ℤ g u)) (λ u e. ap (λ (z : ℤ). f u +ℤ z) (neg-as-mul (g u)))
    ∙ sum_words-add width k f (λ u. negsuc 0 *ℤ g u)
    ∙ ap (λ (z : ℤ). sum_words width k f +ℤ z) (sum_words-mul width k (negsuc 0) g ∙ sym (neg-as-mul (sum_words width k g)))

-- the difference of finite sums
pub sum_below-sub : (n : ℕ) (f g : ℕ → ℤ) → sum_below n (λ i. f i -ℤ g i) ≡ sum_below n f -ℤ sum_below n g
unfolding sum_below
sum_below-sub zero f g = refl
sum_below-sub (suc n) f g = omega (arith, ints, sum_below-sub n f g)

letter-same : (a : ℕ) → letter a (a ∷ []) ≡ pos 1
letter-same a = ap (λ (b : Bool). cond b (pos 1) (pos 0)) (eq-eqb a a refl)

letter-other : (a b : ℕ) → (a ≡ b → ⊥) → letter a (b ∷ []) ≡ pos 0
letter-other a b ne = ap (λ (b : Bool). cond b (pos 1) (pos 0)) (ne_eqb a b ne)

-- the sum of what stands at one letter
pub picked : (width : ℕ) (g : ℕ → ℤ) (a : ℕ) → IsLetter width a → sum_below width (λ i. letter (suc i) (a ∷ []) *ℤ g (suc i)) ≡ g a
unfolding sum_below
picked zero g a h = absurd (omega arith)
picked (suc n) g a h =
    elim (cases_eq (suc n) a) [
      | inl e ↦ ap₂ ◌+ℤ◌
          (sum_below-zero n (λ i. letter (suc i) (a ∷ []) *ℤ g (suc i)) (λ i l. ap (λ (z : ℤ). z *ℤ g (suc i)) (letter-other (suc i) a (λ s. omega arith)) ∙ zero-mul_ℤ (g (suc i))))
          (subst (λ (x : ℕ). letter (suc n) (x ∷ []) *ℤ g (suc n) ≡ g x) e (ap (λ (z : ℤ). z *ℤ g (suc n)) (letter-same (suc n)) ∙ one-mul_ℤ (g (suc n))))
          ∙ omega (arith, ints)
      | inr ne ↦ ap₂ ◌+ℤ◌ (picked n g a (omega arith, omega arith)) (ap (λ (z : ℤ). z *ℤ g (suc n)) (letter-other (suc n) a ne) ∙ zero-mul_ℤ (g (suc n)))
          ∙ omega (arith, ints)
    ]

-- ---- the dual by the first letter and the last one
dual-cell : (p l x m y : ℤ) → p *ℤ ((l *ℤ x) -ℤ (m *ℤ y)) ≡ (l *ℤ (p *ℤ x)) -ℤ (m *ℤ (p *ℤ y))
dual-cell p l x m y =
    let left : p *ℤ (l *ℤ x) ≡ l *ℤ (p *ℤ x) = sym (mul_assoc_ℤ p l x) ∙ ap (λ (z : ℤ). z *ℤ x) (*ℤ_comm p l) ∙ mul_assoc_ℤ l p x in
    let right : p *ℤ (m *ℤ y) ≡ m *ℤ (p *ℤ y) = sym (mul_assoc_ℤ p m y) ∙ ap (λ (z : ℤ). z *ℤ y) (*ℤ_comm p m) ∙ mul_assoc_ℤ m p y in
    mul-add_ℤ p (l *ℤ x) (neg_ℤ (m *ℤ y))
    ∙ omega (arith, ints, left, right, *ℤ_comm p (neg_ℤ (m *ℤ y)), neg-mul (m *ℤ y) p, *ℤ_comm p (m *ℤ y))

-- a letter before a nonempty word: the commutator of the letter and the rest
pub right_normed-cons : (c : ℕ) (u w : List ℕ) → 1 ≤ length u → right_normed (c ∷ u) w ≡ commutator (letter c) (right_normed u) w
right_normed-cons c [] w h = absurd (omega arith)
right_normed-cons c (b ∷ u) w h = refl

-- the dual at a word of one letter is f there
pub dual-one : (width : ℕ) (f : List ℕ → ℤ) (a : ℕ) → IsLetter width a → dual width f (a ∷ []) ≡ f (a ∷ [])
dual-one width f a h =
    sum_below-same width (λ i. f (suc i ∷ []) *ℤ letter (suc i) (a ∷ [])) (λ i. letter (suc i) (a ∷ []) *ℤ f (suc i ∷ [])) (λ i l. *ℤ_comm (f (suc i ∷ [])) (letter (suc i) (a ∷ [])))
    ∙ picked width (λ c. f (c ∷ [])) a h

-- the dual of a word of two letters or more: its first letter before the dual of the rest, minus its last letter before the dual of what stands before that
pub dual-step : (width : ℕ) (f : List ℕ → ℤ) (a : ℕ) (m : List ℕ) (b : ℕ) → IsLetter width a → IsLetter width b
    → dual width f (a ∷ (m ++ b ∷ [])) ≡ dual width (λ w. f (a ∷ w)) (m ++ b ∷ []) -ℤ dual width (λ w. f (b ∷ w)) (a ∷ m)
dual-step width f a m b ha hb =
    let v : List ℕ = m ++ b ∷ [] in
    let k : ℕ = length v in
    let g : ℕ → ℤ = λ c. sum_words width k (λ u. f (c ∷ u) *ℤ right_normed u v) in
    let h : ℕ → ℤ = λ c. sum_words width k (λ u. f (c ∷ u) *ℤ right_normed u (a ∷ m)) in
    sum_below-same width (λ i. sum_words width k (λ u. f (suc i ∷ u) *ℤ right_normed (suc i ∷ u) (a ∷ v)))
    (λ i. (letter (suc i) (a ∷ []) *ℤ g (suc i)) -ℤ (letter (suc i) (b ∷ []) *ℤ h (suc i)))
    (λ i l.
    let la : ℤ = letter (suc i) (a ∷ []) in
    let lb : ℤ = letter (suc i) (b ∷ []) in
    sum_words-same width k (λ u. f (suc i ∷ u) *ℤ right_normed (suc i ∷ u) (a ∷ v))
    (λ u. (la *ℤ (f (suc i ∷ u) *ℤ right_normed u v)) -ℤ (lb *ℤ (f (suc i ∷ u) *ℤ right_normed u (a ∷ m))))
    (λ u e. ap (λ (z : ℤ). f (suc i ∷ u) *ℤ z) (right_normed-cons (suc i) u (a ∷ v) (omega (arith, e, length-last m b)) ∙ commutator-letter (suc i) (right_normed u) a m b)
    ∙ dual-cell (f (suc i ∷ u)) la (right_normed u v) lb (right_normed u (a ∷ m)))
    ∙ sum_words-sub width k (λ u. la *ℤ (f (suc i ∷ u) *ℤ right_normed u v)) (λ u. lb *ℤ (f (suc i ∷ u) *ℤ right_normed u (a ∷ m)))
    ∙ ap₂ ◌-ℤ◌ (sum_words-mul width k la (λ u. f (suc i ∷ u) *ℤ right_normed u v)) (sum_words-mul width k lb (λ u. f (suc i ∷ u) *ℤ right_normed u (a ∷ m))))
    ∙ sum_below-sub width (λ i. letter (suc i) (a ∷ []) *ℤ g (suc i)) (λ i. letter (suc i) (b ∷ []) *ℤ h (suc i))
    ∙ ap₂ ◌-ℤ◌ (picked width g a ha) (picked width h b hb)
    ∙ ap (λ (n : ℕ). dual width (λ w. f (a ∷ w)) v -ℤ sum_words width n (λ u. f (b ∷ u) *ℤ right_normed u (a ∷ m))) (length-last m b)

All-front : (width : ℕ) (u v : List ℕ) → All (IsLetter width) (u ++ v) → All (IsLetter width) u
All-front width [] v h = All-nil (IsLetter width)
All-front width (a ∷ u) v h = All-cons (IsLetter width) a u (All-head (IsLetter width) a (u ++ v) h) (All-front width u v (All-tail (IsLetter width) a (u ++ v) h))

All-back : (width : ℕ) (u v : List ℕ) → All (IsLetter width) (u ++ v) → All (IsLetter width) v
All-back width [] v h = h
All-back width (a ∷ u) v h = All-back width u v (All-tail (IsLetter width) a (u ++ v) h)

-- the dual of right-normed commutators is the folded sum, each cut counted by the letters in front
pub dual-folded : (width n : ℕ) (f : List ℕ → ℤ) (w : List ℕ) → length w ≡ suc n → All (IsLetter width) w → dual width f w ≡ folded pos f w
dual-folded width n f w len letters =
    by_ends (λ g v. All (IsLetter width) v → dual width g v ≡ folded pos g v)
    (λ g a h. dual-one width g a (All-head (IsLetter width) a [] h) ∙ sym (folded-one pos g a ∙ one-mul_ℤ (g (a ∷ []))))
    (λ g a m b ha hb h.
    let rest : All (IsLetter width) (m ++ b ∷ []) = All-tail (IsLetter width) a (m ++ b ∷ []) h in
    dual-step width g a m b (All-head (IsLetter width) a (m ++ b ∷ []) h) (All-head (IsLetter width) b [] (All-back width m (b ∷ []) rest))
    ∙ ap₂ ◌-ℤ◌ (ha rest) (hb (All-front width (a ∷ m) (b ∷ []) h))
    ∙ sym (folded_pos-step g a m b))
    n f w len letters

-- the same, numbered by the letters in front
pub folded-sum : (c : ℕ → ℤ) (f : List ℕ → ℤ) (w : List ℕ) → sum_below (suc (length w)) (folded_term c f w) ≡ folded c f w
unfolding folded_term
folded-sum c f w =
    sum_below-same (suc (length w)) (folded_term c f w) (λ i. folded_cell c f (take i w) (drop i w))
    (λ i h.
    let front : length (take i w) ≡ i = omega (arith, length-take i w) in
    let rest : length (drop i w) ≡ length w - i = omega (arith, length-drop i w) in
    sym (ap₂ (λ (n k : ℕ). (sign n *ℤ c k) *ℤ over f (take i w) (reverse (drop i w))) rest front))
    ∙ cut-sum (folded_cell c f) w

-- the dual of right-normed bracketing, as a sum over shuffles
pub dual-shuffles : (width : ℕ) (f : List ℕ → ℤ) (w : List ℕ) → 1 ≤ length w → All (IsLetter width) w → dual width f w ≡ sum_below (suc (length w)) (folded_term pos f w)
dual-shuffles width f w some letters =
    dual-folded width (length w - 1) f w (omega arith) letters ∙ sym (folded-sum pos f w)

All-reversed : (P : ℕ → Type 0) (u : List ℕ) → All P u → All P (reverse u)
All-reversed P [] h = All-nil P
All-reversed P (a ∷ u) h =
    All-same P (reverse (a ∷ u)) (reverse u ++ a ∷ []) (reverse-append (a ∷ []) u)
    (All-append P (reverse u) (a ∷ []) (All-reversed P u (All-tail P a u h)) (All-cons P a [] (All-head P a u h) (All-nil P)))

-- where f vanishes on shuffles, a cut with nonempty parts on both sides adds nothing
folded-cell-none : (width : ℕ) (f : List ℕ → ℤ) (w : List ℕ) → All (IsLetter width) w → VanishesAt width f (length w)
    → (i : ℕ) → i < length w → folded_term pos f w i ≡ pos 0
unfolding folded_term
folded-cell-none width f w all none zero h =
    ap (λ (z : ℤ). z *ℤ sum_over f (shuffles (take zero w) (reverse (drop zero w)))) (*ℤ-zero (sign (length w - 0))) ∙ zero-mul_ℤ (sum_over f (shuffles (take zero w) (reverse (drop zero w))))
folded-cell-none width f w all none (suc i) h =
    ap (λ (z : ℤ). (sign (length w - suc i) *ℤ pos (suc i)) *ℤ z)
    (none (take (suc i) w) (reverse (drop (suc i) w)) (All-take (IsLetter width) (suc i) w all) (All-reversed (IsLetter width) (drop (suc i) w) (All-drop (IsLetter width) (suc i) w all)) (omega (arith, length-take (suc i) w)) (omega (arith, length-reverse (drop (suc i) w), length-drop (suc i) w))
    (omega (arith, length-take (suc i) w, length-reverse (drop (suc i) w), length-drop (suc i) w)))
    ∙ *ℤ-zero (sign (length w - suc i) *ℤ pos (suc i))

-- the cut after the last letter adds k times f
folded-cell-whole : (f : List ℕ → ℤ) (w : List ℕ) → folded_term pos f w (length w) ≡ pos (length w) *ℤ f w
unfolding folded_term
folded-cell-whole f w =
    let e : length w - length w ≡ 0 = omega arith in
    ap₂ (λ (n : ℕ) (u : List ℕ). (sign n *ℤ pos (length w)) *ℤ over f u (reverse (drop (length w) w))) e (take_all (length w) w (omega arith))
    ∙ ap (λ (u : List ℕ). (pos 1 *ℤ pos (length w)) *ℤ over f w (reverse u)) (drop_all (length w) w (omega arith))
    ∙ ap₂ ◌*ℤ◌ (one-mul_ℤ (pos (length w))) (over-none_right f w)

-- where f vanishes on the shuffles of two nonempty words, only the word itself is left
pub dual-whole : (width : ℕ) (f : List ℕ → ℤ) (w : List ℕ) → 1 ≤ length w → All (IsLetter width) w
    → VanishesAt width f (length w)
    → dual width f w ≡ pos (length w) *ℤ f w
dual-whole width f w some letters none =
    dual-shuffles width f w some letters
    ∙ sum_below-next (length w) (folded_term pos f w)
    ∙ ap₂ ◌+ℤ◌ (sum_below-zero (length w) (folded_term pos f w) (folded-cell-none width f w letters none)) (folded-cell-whole f w)
    ∙ omega (arith, ints)
