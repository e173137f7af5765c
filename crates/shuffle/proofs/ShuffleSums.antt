-- Sums over the shuffles of two words, and over the cuts of a word.
use Rattle.std.proofs.Common.{◌≡◌, ℕ, zero, suc, ◌+◌, refl, sym, ap, ap₂, ◌∙◌, arith, ℤ, ◌+ℤ◌, ◌*ℤ◌, List, [], ◌∷◌, ◌++◌, length, take, drop, map}
use Rattle.std.proofs.lemmas.Int.{ints}
use Rattle.std.proofs.Math.IntN.{*ℤ_comm, *ℤ-zero}
use Rattle.definitions.specs.Sums.{sum_below}
use Rattle.definitions.specs.Shuffles.{shuffles, sum_over}
use Rattle.definitions.proofs.Integers.{mul-add_ℤ}
use Rattle.definitions.proofs.SumLaws.{sum_below-first, sum_below-next, sum_below-zero, sum_below-add, sum_below-same}

-- the product distributes over a sum on its left
pub add-mul_ℤ : (a b c : ℤ) → (a +ℤ b) *ℤ c ≡ (a *ℤ c) +ℤ (b *ℤ c)
add-mul_ℤ a b c = *ℤ_comm (a +ℤ b) c ∙ mul-add_ℤ c a b ∙ ap₂ ◌+ℤ◌ (*ℤ_comm c a) (*ℤ_comm c b)

-- two sums, in either order
pub exchange : (k n : ℕ) (g : ℕ → ℕ → ℤ) → sum_below k (λ m. sum_below n (λ a. g m a)) ≡ sum_below n (λ a. sum_below k (λ m. g m a))
exchange zero n g =
    sum_below-zero zero (λ m. sum_below n (λ a. g m a)) (λ m h. absurd (omega arith))
    ∙ sym (sum_below-zero n (λ a. sum_below zero (λ m. g m a)) (λ a h. sum_below-zero zero (λ m. g m a) (λ m l. absurd (omega arith))))
exchange (suc k) n g =
    sum_below-next k (λ m. sum_below n (λ a. g m a))
    ∙ ap (λ (z : ℤ). z +ℤ sum_below n (λ a. g k a)) (exchange k n g)
    ∙ sym (sum_below-add n (λ a. sum_below k (λ m. g m a)) (λ a. g k a))
    ∙ sum_below-same n (λ a. sum_below k (λ m. g m a) +ℤ g k a) (λ a. sum_below (suc k) (λ m. g m a)) (λ a h. sym (sum_below-next k (λ m. g m a)))

-- ---- sums over shuffles, by the first letter
-- the sum over two lists of words, one after the other
pub sum_over-append : (f : List ℕ → ℤ) (xs ys : List (List ℕ)) → sum_over f (xs ++ ys) ≡ sum_over f xs +ℤ sum_over f ys
sum_over-append f [] ys = omega (arith, ints)
sum_over-append f (x ∷ xs) ys = omega (arith, ints, sum_over-append f xs ys)

-- the sum over words that were mapped
pub sum_over-map : (f : List ℕ → ℤ) (g : List ℕ → List ℕ) (xs : List (List ℕ)) → sum_over f (map g xs) ≡ sum_over (λ w. f (g w)) xs
sum_over-map f g [] = refl
sum_over-map f g (x ∷ xs) = ap (λ (z : ℤ). f (g x) +ℤ z) (sum_over-map f g xs)

-- the sum of f over the shuffles of two words
abbrev pub over : (List ℕ → ℤ) → List ℕ → List ℕ → ℤ
over f u v = sum_over f (shuffles u v)

-- the empty word on the left has one shuffle with a word: that word
pub over-none_left : (f : List ℕ → ℤ) (v : List ℕ) → over f [] v ≡ f v
over-none_left f v = omega (arith, ints)

-- the same on the right
pub over-none_right : (f : List ℕ → ℤ) (u : List ℕ) → over f u [] ≡ f u
over-none_right f [] = omega (arith, ints)
over-none_right f (a ∷ u) = omega (arith, ints)

-- shuffles of nonempty words begin with the first letter of the one or of the other
pub over-cons : (f : List ℕ → ℤ) (a b : ℕ) (u v : List ℕ) → over f (a ∷ u) (b ∷ v) ≡ over (λ w. f (a ∷ w)) u (b ∷ v) +ℤ over (λ w. f (b ∷ w)) (a ∷ u) v
over-cons f a b u v =
    sum_over-append f (map (λ w. a ∷ w) (shuffles u (b ∷ v))) (map (λ w. b ∷ w) (shuffles (a ∷ u) v))
    ∙ ap₂ ◌+ℤ◌ (sum_over-map f (λ w. a ∷ w) (shuffles u (b ∷ v))) (sum_over-map f (λ w. b ∷ w) (shuffles (a ∷ u) v))

-- sums over one list of words agree where their terms do
pub sum_over-same : (f g : List ℕ → ℤ) (ws : List (List ℕ)) → ((w : List ℕ) → f w ≡ g w) → sum_over f ws ≡ sum_over g ws
sum_over-same f g [] same = refl
sum_over-same f g (w ∷ ws) same = ap₂ ◌+ℤ◌ (same w) (sum_over-same f g ws same)

-- the sum of sums over a list of words
pub sum_over-add : (f g : List ℕ → ℤ) (ws : List (List ℕ)) → sum_over (λ w. f w +ℤ g w) ws ≡ sum_over f ws +ℤ sum_over g ws
sum_over-add f g [] = refl
sum_over-add f g (w ∷ ws) = omega (arith, ints, sum_over-add f g ws)

-- a factor comes out of a sum over a list of words
pub sum_over-mul : (c : ℤ) (f : List ℕ → ℤ) (ws : List (List ℕ)) → sum_over (λ w. c *ℤ f w) ws ≡ c *ℤ sum_over f ws
sum_over-mul c f [] = sym (*ℤ-zero c)
sum_over-mul c f (w ∷ ws) = omega (arith, ints, sum_over-mul c f ws, mul-add_ℤ c (f w) (sum_over f ws))

-- ---- all cuts of a word in two
-- the sum of g p q over all ways to cut a word in two parts p and q, either of which may be empty
abbrev pub cut : (List ℕ → List ℕ → ℤ) → List ℕ → ℤ
cut g [] = g [] []
cut g (x ∷ w) = g [] (x ∷ w) +ℤ cut (λ p q. g (x ∷ p) q) w

-- sums over cuts agree where their terms do
pub cut-same : (f g : List ℕ → List ℕ → ℤ) (w : List ℕ) → ((p q : List ℕ) → f p q ≡ g p q) → cut f w ≡ cut g w
cut-same f g [] same = same [] []
cut-same f g (x ∷ w) same = ap₂ ◌+ℤ◌ (same [] (x ∷ w)) (cut-same (λ p q. f (x ∷ p) q) (λ p q. g (x ∷ p) q) w (λ p q. same (x ∷ p) q))

-- the sum of sums over cuts
pub cut-add : (f g : List ℕ → List ℕ → ℤ) (w : List ℕ) → cut (λ p q. f p q +ℤ g p q) w ≡ cut f w +ℤ cut g w
cut-add f g [] = refl
cut-add f g (x ∷ w) = omega (arith, ints, cut-add (λ p q. f (x ∷ p) q) (λ p q. g (x ∷ p) q) w)

-- the two sides of: to cut a shuffle is to shuffle cuts
abbrev pub cut_shuffles : (List ℕ → List ℕ → ℤ) → List ℕ → List ℕ → ℤ
cut_shuffles g u v = over (cut g) u v

-- both words are cut in two, then the fronts are shuffled and the rests are
abbrev pub shuffled_cuts : (List ℕ → List ℕ → ℤ) → List ℕ → List ℕ → ℤ
shuffled_cuts g u v = cut (λ p q. cut (λ r s. over (λ x. over (g x) q s) p r) v) u

-- a shuffle of p and r, and then one of q and s
abbrev pub pair_over : (List ℕ → List ℕ → ℤ) → (p q r s : List ℕ) → ℤ
pair_over g p q r s = over (λ x. over (g x) q s) p r

-- the left side by the first letters of both words
left-side : (g : List ℕ → List ℕ → ℤ) (a b : ℕ) (u v : List ℕ)
    → cut_shuffles g (a ∷ u) (b ∷ v) ≡ over (g []) (a ∷ u) (b ∷ v) +ℤ (cut_shuffles (λ p q. g (a ∷ p) q) u (b ∷ v) +ℤ cut_shuffles (λ p q. g (b ∷ p) q) (a ∷ u) v)
left-side g a b u v =
    omega (
      arith,
      ints,
      over-cons (cut g) a b u v,
      over-cons (g []) a b u v,
      sum_over-add (λ w. g [] (a ∷ w)) (cut (λ p q. g (a ∷ p) q)) (shuffles u (b ∷ v)),
      sum_over-add (λ w. g [] (b ∷ w)) (cut (λ p q. g (b ∷ p) q)) (shuffles (a ∷ u) v),
    )

-- five terms in another order
regroup : (o t m d e : ℤ) → (o +ℤ t) +ℤ (m +ℤ (d +ℤ e)) ≡ o +ℤ ((m +ℤ d) +ℤ (t +ℤ e))
regroup o t m d e = omega (arith, ints)

-- the right side by the same first letters
right-side : (g : List ℕ → List ℕ → ℤ) (a b : ℕ) (u v : List ℕ)
    → shuffled_cuts g (a ∷ u) (b ∷ v) ≡ over (g []) (a ∷ u) (b ∷ v) +ℤ (shuffled_cuts (λ p q. g (a ∷ p) q) u (b ∷ v) +ℤ shuffled_cuts (λ p q. g (b ∷ p) q) (a ∷ u) v)
right-side g a b u v =
    let ga : List ℕ → List ℕ → ℤ = λ p q. g (a ∷ p) q in
    let gb : List ℕ → List ℕ → ℤ = λ p q. g (b ∷ p) q in
    let tail_b : ℤ = cut (λ r s. over (gb r) (a ∷ u) s) v in
    let mixed : ℤ = cut (λ p q. over (ga p) q (b ∷ v)) u in
    let deep_a : List ℕ → List ℕ → ℤ = λ p q. cut (λ r s. pair_over ga p q (b ∷ r) s) v in
    let deep_b : List ℕ → List ℕ → ℤ = λ p q. cut (λ r s. pair_over gb (a ∷ p) q r s) v in
    -- the cuts of (b ∷ v) beside the empty front of (a ∷ u)
    let first : cut (λ r s. pair_over g [] (a ∷ u) r s) (b ∷ v) ≡ over (g []) (a ∷ u) (b ∷ v) +ℤ tail_b =
    ap₂ ◌+ℤ◌ (over-none_left (λ x. over (g x) (a ∷ u) (b ∷ v)) [])
    (cut-same (λ r s. pair_over g [] (a ∷ u) (b ∷ r) s) (λ r s. over (gb r) (a ∷ u) s) v (λ r s. over-none_left (λ x. over (g x) (a ∷ u) s) (b ∷ r))) in
    -- the other fronts of (a ∷ u)
    let cell : (p q : List ℕ) → cut (λ r s. pair_over g (a ∷ p) q r s) (b ∷ v) ≡ over (ga p) q (b ∷ v) +ℤ (deep_a p q +ℤ deep_b p q) =
    λ p q. ap₂ ◌+ℤ◌ (over-none_right (λ x. over (g x) q (b ∷ v)) (a ∷ p))
    (cut-same (λ r s. pair_over g (a ∷ p) q (b ∷ r) s) (λ r s. pair_over ga p q (b ∷ r) s +ℤ pair_over gb (a ∷ p) q r s) v (λ r s. over-cons (λ x. over (g x) q s) a b p r)
    ∙ cut-add (λ r s. pair_over ga p q (b ∷ r) s) (λ r s. pair_over gb (a ∷ p) q r s) v) in
    let rest : cut (λ p q. cut (λ r s. pair_over g (a ∷ p) q r s) (b ∷ v)) u ≡ mixed +ℤ (cut deep_a u +ℤ cut deep_b u) =
    cut-same (λ p q. cut (λ r s. pair_over g (a ∷ p) q r s) (b ∷ v)) (λ p q. over (ga p) q (b ∷ v) +ℤ (deep_a p q +ℤ deep_b p q)) u cell
    ∙ cut-add (λ p q. over (ga p) q (b ∷ v)) (λ p q. deep_a p q +ℤ deep_b p q) u
    ∙ ap (λ (z : ℤ). mixed +ℤ z) (cut-add deep_a deep_b u) in
    let part_a : shuffled_cuts ga u (b ∷ v) ≡ mixed +ℤ cut deep_a u =
    cut-same (λ p q. cut (λ r s. pair_over ga p q r s) (b ∷ v)) (λ p q. over (ga p) q (b ∷ v) +ℤ deep_a p q) u
    (λ p q. ap (λ (z : ℤ). z +ℤ deep_a p q) (over-none_right (λ x. over (ga x) q (b ∷ v)) p))
    ∙ cut-add (λ p q. over (ga p) q (b ∷ v)) deep_a u in
    let part_b : shuffled_cuts gb (a ∷ u) v ≡ tail_b +ℤ cut deep_b u =
    ap (λ (z : ℤ). z +ℤ cut deep_b u)
    (cut-same (λ r s. pair_over gb [] (a ∷ u) r s) (λ r s. over (gb r) (a ∷ u) s) v (λ r s. over-none_left (λ x. over (gb x) (a ∷ u) s) r)) in
    ap₂ ◌+ℤ◌ first rest ∙ regroup (over (g []) (a ∷ u) (b ∷ v)) tail_b mixed (cut deep_a u) (cut deep_b u)
    ∙ ap (λ (z : ℤ). over (g []) (a ∷ u) (b ∷ v) +ℤ z) (sym (ap₂ ◌+ℤ◌ part_a part_b))

-- by induction on the first word, one letter more
cuts-cons : (a : ℕ) (u : List ℕ) → ((v : List ℕ) (g : List ℕ → List ℕ → ℤ) → cut_shuffles g u v ≡ shuffled_cuts g u v)
    → (v : List ℕ) (g : List ℕ → List ℕ → ℤ) → cut_shuffles g (a ∷ u) v ≡ shuffled_cuts g (a ∷ u) v
cuts-cons a u before [] g =
    over-none_right (cut g) (a ∷ u)
    ∙ cut-same g (λ p q. over (λ x. over (g x) q []) p []) (a ∷ u) (λ p q. sym (over-none_right (λ x. over (g x) q []) p ∙ over-none_right (g p) q))
cuts-cons a u before (b ∷ v) g =
    left-side g a b u v
    ∙ ap (λ (z : ℤ). over (g []) (a ∷ u) (b ∷ v) +ℤ z) (ap₂ ◌+ℤ◌ (before (b ∷ v) (λ p q. g (a ∷ p) q)) (cuts-cons a u before v (λ p q. g (b ∷ p) q)))
    ∙ sym (right-side g a b u v)

-- to cut each shuffle in two is to shuffle the cuts
pub cuts : (u v : List ℕ) (g : List ℕ → List ℕ → ℤ) → cut_shuffles g u v ≡ shuffled_cuts g u v
cuts [] v g =
    over-none_left (cut g) v
    ∙ cut-same g (λ r s. over (λ x. over (g x) [] s) [] r) v (λ r s. sym (over-none_left (λ x. over (g x) [] s) r ∙ over-none_left (g r) s))
cuts (a ∷ u) v g = cuts-cons a u (cuts u) v g

-- ---- only words of the right length count
over-same-cons : (a : ℕ) (u : List ℕ) → ((v : List ℕ) (f g : List ℕ → ℤ) → ((w : List ℕ) → length w ≡ length u + length v → f w ≡ g w) → over f u v ≡ over g u v)
    → (v : List ℕ) (f g : List ℕ → ℤ) → ((w : List ℕ) → length w ≡ length (a ∷ u) + length v → f w ≡ g w) → over f (a ∷ u) v ≡ over g (a ∷ u) v
over-same-cons a u before [] f g same = over-none_right f (a ∷ u) ∙ same (a ∷ u) (omega arith) ∙ sym (over-none_right g (a ∷ u))
over-same-cons a u before (b ∷ v) f g same =
    over-cons f a b u v
    ∙ ap₂ ◌+ℤ◌ (before (b ∷ v) (λ w. f (a ∷ w)) (λ w. g (a ∷ w)) (λ w h. same (a ∷ w) (omega arith)))
    (over-same-cons a u before v (λ w. f (b ∷ w)) (λ w. g (b ∷ w)) (λ w h. same (b ∷ w) (omega arith)))
    ∙ sym (over-cons g a b u v)

-- sums over shuffles agree where f and g do at words of both lengths together
pub over-same : (u v : List ℕ) (f g : List ℕ → ℤ) → ((w : List ℕ) → length w ≡ length u + length v → f w ≡ g w) → over f u v ≡ over g u v
over-same [] v f g same = over-none_left f v ∙ same v (omega arith) ∙ sym (over-none_left g v)
over-same (a ∷ u) v f g same = over-same-cons a u (over-same u) v f g same

-- sums over cuts agree where f and g do at parts of the word's length together
pub cut-same-length : (f g : List ℕ → List ℕ → ℤ) (w : List ℕ) → ((p q : List ℕ) → length p + length q ≡ length w → f p q ≡ g p q) → cut f w ≡ cut g w
cut-same-length f g [] same = same [] [] (omega arith)
cut-same-length f g (x ∷ w) same =
    ap₂ ◌+ℤ◌ (same [] (x ∷ w) (omega arith)) (cut-same-length (λ p q. f (x ∷ p) q) (λ p q. g (x ∷ p) q) w (λ p q h. same (x ∷ p) q (omega arith)))

-- a factor comes out of a sum over cuts
pub cut-mul : (c : ℤ) (g : List ℕ → List ℕ → ℤ) (w : List ℕ) → cut (λ p q. c *ℤ g p q) w ≡ c *ℤ cut g w
cut-mul c g [] = refl
cut-mul c g (x ∷ w) = omega (arith, ints, cut-mul c (λ p q. g (x ∷ p) q) w, mul-add_ℤ c (g [] (x ∷ w)) (cut (λ p q. g (x ∷ p) q) w))

-- the cuts, numbered by the letters in front
pub cut-sum : (g : List ℕ → List ℕ → ℤ) (w : List ℕ) → sum_below (suc (length w)) (λ i. g (take i w) (drop i w)) ≡ cut g w
unfolding sum_below
cut-sum g [] = sum_below-first 0 (λ i. g (take i []) (drop i [])) ∙ omega (arith, ints)
cut-sum g (x ∷ w) =
    sum_below-first (suc (length w)) (λ i. g (take i (x ∷ w)) (drop i (x ∷ w)))
    ∙ ap (λ (z : ℤ). g [] (x ∷ w) +ℤ z) (cut-sum (λ p q. g (x ∷ p) q) w)
