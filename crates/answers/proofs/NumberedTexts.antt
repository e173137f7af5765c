-- What there is for the elements of a list, which are numbered, where the list agrees element by element with the one that is due.
use Rattle.std.proofs.Common.{◌≡◌, ℕ, suc, ◌+◌, ◌<◌, refl, sym, ap, ap₂, subst, ◌∙◌, arith, List, [], ◌∷◌, ◌++◌, length, take, get_or, append_assoc}
use Rattle.std.specs.Prelude.{map}
use Rattle.std.proofs.lemmas.List.{append-nil, take_more, length-take-le}

-- R holds of each element and the one at its place
abbrev pub Each : {A B : Type 0} → (A → B → Type 0) → List A → List B → Type 0
Each R [] [] = Unit {0}
Each R (x ∷ xs) (y ∷ ys) = R x y × Each R xs ys
Each R _ _ = ⊥

-- what there is for each of some elements, which are numbered from c
abbrev pub numbered : {B C : Type 0} → (ℕ → B → List C) → ℕ → List B → List C
numbered f c [] = []
numbered f c (y ∷ ys) = f c y ++ numbered f (suc c) ys

-- a list that agrees with one of an element more has an element more
each-last : {A B : Type 0} (R : A → B → Type 0) (xs : List A) (x : A) (P : List B → Type 0)
    → ((front : List B) (y : B) → length front ≡ length xs → Each R xs front → R x y → P (front ++ y ∷ []))
    → (ys : List B) → Each R (xs ++ x ∷ []) ys → P ys
each-last R [] x P give [] h = absurd h
each-last R [] x P give (y ∷ []) h = give [] y refl tt h.0
each-last R [] x P give (y ∷ z ∷ ys) h = absurd h.1
each-last R (a ∷ xs) x P give [] h = absurd h
each-last R (a ∷ xs) x P give (y ∷ ys) h =
    each-last R xs x (λ zs. P (y ∷ zs)) (λ front z len each last. give (y ∷ front) z (omega arith) (h.0, each) last) ys h.1

-- one element more at the end
pub numbered-push : {B C : Type 0} (f : ℕ → B → List C) (c : ℕ) (ys : List B) (y : B) → numbered f c (ys ++ y ∷ []) ≡ numbered f c ys ++ f (c + length ys) y
numbered-push f c [] y = append-nil (f c y) ∙ (let e : c ≡ c + 0 = omega arith in ap (λ (n : ℕ). f n y) e)
numbered-push f c (z ∷ ys) y =
    let e : suc c + length ys ≡ c + suc (length ys) = omega arith in
    ap (λ rest. f c z ++ rest) (numbered-push f (suc c) ys y)
    ∙ sym (append_assoc (f c z) (numbered f (suc c) ys) (f (suc c + length ys) y))
    ∙ ap (λ (n : ℕ). f c z ++ numbered f (suc c) ys ++ f n y) e

-- one element more, where there is what those before give
pub numbered-more : {A B C : Type 0} (R : A → B → Type 0) (f : ℕ → B → List C) (xs : List A) (i : ℕ) (x : A) (start text next : List C)
    → i < length xs → x ≡ get_or xs i x
    → ((ys : List B) → Each R (take i xs) ys → text ≡ start ++ numbered f 1 ys)
    → ((y : B) → R x y → next ≡ text ++ f (i + 1) y)
    → (ys : List B) → Each R (take (i + 1) xs) ys → next ≡ start ++ numbered f 1 ys
numbered-more R f xs i x start text next h e before step ys each =
    each-last R (take i xs) x (λ zs. next ≡ start ++ numbered f 1 zs)
    (λ front y len fronts last.
    let same : i + 1 ≡ 1 + length front = omega (arith, len, length-take-le i xs (omega arith)) in
    step y last
    ∙ ap₂ (λ t (n : ℕ). t ++ f n y) (before front fronts) same
    ∙ append_assoc start (numbered f 1 front) (f (1 + length front) y)
    ∙ ap (λ t. start ++ t) (sym (numbered-push f 1 front y)))
    ys (subst (λ zs. Each R zs ys) (take_more xs i x h ∙ ap (λ z. take i xs ++ z ∷ []) (sym e)) each)

-- one of each element, whatever its number
numbered-each : {B C : Type 0} (f : B → C) (c : ℕ) (ys : List B) → numbered (λ _ y. f y ∷ []) c ys ≡ map f ys
numbered-each f c [] = refl
numbered-each f c (y ∷ ys) = ap (λ rest. f y ∷ rest) (numbered-each f (suc c) ys)

-- one element more, where the numbers don't count
pub each-more : {A B C : Type 0} (R : A → B → Type 0) (f : B → C) (xs : List A) (i : ℕ) (x : A) (text next : List C)
    → i < length xs → x ≡ get_or xs i x
    → ((ys : List B) → Each R (take i xs) ys → text ≡ map f ys)
    → ((y : B) → R x y → next ≡ text ++ f y ∷ [])
    → (ys : List B) → Each R (take (i + 1) xs) ys → next ≡ map f ys
each-more R f xs i x text next h e before step ys each =
    numbered-more R (λ _ y. f y ∷ []) xs i x [] text next h e (λ front fronts. before front fronts ∙ sym (numbered-each f 1 front)) step ys each
    ∙ numbered-each f 1 ys
