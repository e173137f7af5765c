-- What holds of each element, and of each two, of lists that are joined, mapped and filtered.
use Rattle.std.proofs.Common.{◌≡◌, inl, inr, ℕ, zero, suc, ◌<◌, ◌≤◌, sym, subst, arith, List, [], ◌∷◌, ◌++◌, cond}
use Rattle.std.specs.Prelude.{All, AllPairs, Bool, true, map, flat_map, filter}
use Rattle.std.proofs.lemmas.Bool.{cases_eq, cases_Bool, both_ways}
use Rattle.std.proofs.lemmas.List.Elements.{All-nil, All-cons, All-head, All-tail, All-append, All-weaker, All-map}
use Rattle.std.proofs.lemmas.List.Kept.{AllPairs-cons}
use Rattle.definitions.specs.Words.{up_to}

-- ---- each element
-- what holds of all of two joined lists holds of the left one
pub All-left : {X : Type 0} (P : X → Type 0) (xs ys : List X) → All P (xs ++ ys) → All P xs
All-left P [] ys h = All-nil P
All-left P (x ∷ xs) ys h = All-cons P x xs (All-head P x (xs ++ ys) h) (All-left P xs ys (All-tail P x (xs ++ ys) h))

-- and of the right one
pub All-right : {X : Type 0} (P : X → Type 0) (xs ys : List X) → All P (xs ++ ys) → All P ys
All-right P [] ys h = h
All-right P (x ∷ xs) ys h = All-right P xs ys (All-tail P x (xs ++ ys) h)

-- a property of each list that is joined is one of the whole
pub All-flat_map : {X Y : Type 0} (P : Y → Type 0) (f : X → List Y) (xs : List X) → All (λ x. All P (f x)) xs → All P (flat_map f xs)
All-flat_map P f [] h = All-nil P
All-flat_map P f (x ∷ xs) h = All-append P (f x) (flat_map f xs) (All-head (λ z. All P (f z)) x xs h) (All-flat_map P f xs (All-tail (λ z. All P (f z)) x xs h))

-- and the other way round
pub All-from_flat_map : {X Y : Type 0} (P : Y → Type 0) (f : X → List Y) (xs : List X) → All P (flat_map f xs) → All (λ x. All P (f x)) xs
All-from_flat_map P f [] h = All-nil (λ z. All P (f z))
All-from_flat_map P f (x ∷ xs) h = All-cons (λ z. All P (f z)) x xs (All-left P (f x) (flat_map f xs) h) (All-from_flat_map P f xs (All-right P (f x) (flat_map f xs) h))

-- a property of what was mapped, before it is mapped
pub All-from_map : {X Y : Type 0} (P : Y → Type 0) (f : X → Y) (xs : List X) → All P (map f xs) → All (λ x. P (f x)) xs
All-from_map P f [] h = All-nil (λ z. P (f z))
All-from_map P f (x ∷ xs) h = All-cons (λ z. P (f z)) x xs (All-head P (f x) (map f xs) h) (All-from_map P f xs (All-tail P (f x) (map f xs) h))

-- what is kept passes
pub All-kept : {X : Type 0} (P : X → Type 0) (p : X → Bool) (xs : List X) → All (λ x. p x ≡ true → P x) xs → All P (filter p xs)
All-kept P p [] h = All-nil P
All-kept P p (x ∷ xs) h =
    let rest : All P (filter p xs) = All-kept P p xs (All-tail (λ z. p z ≡ true → P z) x xs h) in
    elim (cases_Bool (p x)) [
      | inl keep ↦ subst (λ (b : Bool). All P (cond b (x ∷ filter p xs) (filter p xs))) (sym keep) (All-cons P x (filter p xs) (All-head (λ z. p z ≡ true → P z) x xs h keep) rest)
      | inr drop ↦ subst (λ (b : Bool). All P (cond b (x ∷ filter p xs) (filter p xs))) (sym drop) rest
    ]

-- what passes is kept
pub All-from_kept : {X : Type 0} (P : X → Type 0) (p : X → Bool) (xs : List X) → All P (filter p xs) → All (λ x. p x ≡ true → P x) xs
All-from_kept P p [] h = All-nil (λ z. p z ≡ true → P z)
All-from_kept P p (x ∷ xs) h =
    elim (cases_Bool (p x)) [
      | inl keep ↦
          let kept : All P (x ∷ filter p xs) = subst (λ (b : Bool). All P (cond b (x ∷ filter p xs) (filter p xs))) keep h in
          All-cons (λ z. p z ≡ true → P z) x xs (λ e. All-head P x (filter p xs) kept) (All-from_kept P p xs (All-tail P x (filter p xs) kept))
      | inr drop ↦
          let kept : All P (filter p xs) = subst (λ (b : Bool). All P (cond b (x ∷ filter p xs) (filter p xs))) drop h in
          All-cons (λ z. p z ≡ true → P z) x xs (λ e. absurd (both_ways (p x) drop e)) (All-from_kept P p xs kept)
    ]

-- a property of each number from 1 to n, as one of their list
pub All-up_to : (P : ℕ → Type 0) (n : ℕ) → ((h : ℕ) → 1 ≤ h → h ≤ n → P h) → All P (up_to n)
All-up_to P zero each = All-nil P
All-up_to P (suc n) each =
    All-append P (up_to n) (suc n ∷ []) (All-up_to P n (λ h l m. each h l (omega arith))) (All-cons P (suc n) [] (each (suc n) (omega arith) (omega arith)) (All-nil P))

-- and the other way round
pub up_to-each : (P : ℕ → Type 0) (n : ℕ) → All P (up_to n) → (h : ℕ) → 1 ≤ h → h ≤ n → P h
up_to-each P zero all h least most = absurd (omega arith)
up_to-each P (suc n) all h least most =
    elim (cases_eq h (suc n)) [
      | inl e ↦ subst P (sym e) (All-head P (suc n) [] (All-right P (up_to n) (suc n ∷ []) all))
      | inr ne ↦ up_to-each P n (All-left P (up_to n) (suc n ∷ []) all) h least (omega arith)
    ]

-- ---- each element with each later one
-- no two elements, no condition
pub AllPairs-nil : {X : Type 0} (R : X → X → Type 0) → AllPairs R []
AllPairs-nil R i j d lt len = absurd (omega arith)

-- what holds of each two holds of the first element and each other one
pub AllPairs-head : {X : Type 0} (R : X → X → Type 0) (x : X) (xs : List X) → AllPairs R (x ∷ xs) → All (R x) xs
AllPairs-head R x xs h = λ k d lt. h 0 (suc k) d (omega arith) (omega arith)

-- and of each two after the first
pub AllPairs-tail : {X : Type 0} (R : X → X → Type 0) (x : X) (xs : List X) → AllPairs R (x ∷ xs) → AllPairs R xs
AllPairs-tail R x xs h = λ i j d lt len. h (suc i) (suc j) d (omega arith) (omega arith)

-- a relation holds of each two of two joined lists where it holds in each list and from each of the left to each of the right
pub AllPairs-append : {X : Type 0} (R : X → X → Type 0) (xs ys : List X) → AllPairs R xs → AllPairs R ys → All (λ x. All (R x) ys) xs → AllPairs R (xs ++ ys)
AllPairs-append R [] ys hx hy between = hy
AllPairs-append R (x ∷ xs) ys hx hy between =
    AllPairs-cons R x (xs ++ ys) (All-append (R x) xs ys (AllPairs-head R x xs hx) (All-head (λ z. All (R z) ys) x xs between))
    (AllPairs-append R xs ys (AllPairs-tail R x xs hx) hy (All-tail (λ z. All (R z) ys) x xs between))

-- a relation between what was mapped
pub AllPairs-map : {X Y : Type 0} (R : Y → Y → Type 0) (f : X → Y) (xs : List X) → AllPairs (λ x z. R (f x) (f z)) xs → AllPairs R (map f xs)
AllPairs-map R f [] h = AllPairs-nil R
AllPairs-map R f (x ∷ xs) h =
    AllPairs-cons R (f x) (map f xs) (All-map (R (f x)) f xs (AllPairs-head (λ z y. R (f z) (f y)) x xs h)) (AllPairs-map R f xs (AllPairs-tail (λ z y. R (f z) (f y)) x xs h))

-- each element of one list with each of another, from what holds of each
pub All-crossed : {X Y : Type 0} (P : X → Type 0) (Q : Y → Type 0) (R : X → Y → Type 0) (xs : List X) (ys : List Y) → All P xs → All Q ys → ((x : X) (y : Y) → P x → Q y → R x y) → All (λ x. All (R x) ys) xs
All-crossed P Q R xs ys hx hy r = All-weaker P (λ x. All (R x) ys) (λ x px. All-weaker Q (R x) (λ y qy. r x y px qy) ys hy) xs hx

-- lists that belong to the elements of a list: R holds within each, and across two of them
across : {X Y : Type 0} (R : Y → Y → Type 0) (f : X → List Y) (x : X) (xs : List X) → All (λ z. All (λ a. All (R a) (f z)) (f x)) xs → All (λ a. All (R a) (flat_map f xs)) (f x)
across R f x xs h = λ k d lt. All-flat_map (R _) f xs (All-weaker (λ z. All (λ a. All (R a) (f z)) (f x)) (λ z. All (R _) (f z)) (λ z all. all k d lt) xs h)

-- a relation holds of each two of many joined lists where it holds in each, and between the lists of each two
pub AllPairs-flat_map : {X Y : Type 0} (Q : X → X → Type 0) (R : Y → Y → Type 0) (f : X → List Y) (xs : List X) → All (λ x. AllPairs R (f x)) xs
    → ((x z : X) → Q x z → All (λ a. All (R a) (f z)) (f x)) → AllPairs Q xs → AllPairs R (flat_map f xs)
AllPairs-flat_map Q R f [] each apart h = AllPairs-nil R
AllPairs-flat_map Q R f (x ∷ xs) each apart h =
    AllPairs-append R (f x) (flat_map f xs) (All-head (λ z. AllPairs R (f z)) x xs each) (AllPairs-flat_map Q R f xs (All-tail (λ z. AllPairs R (f z)) x xs each) apart (AllPairs-tail Q x xs h))
    (across R f x xs (All-weaker (Q x) (λ z. All (λ a. All (R a) (f z)) (f x)) (λ z q. apart x z q) xs (AllPairs-head Q x xs h)))

-- the numbers from 1 rise
pub up_to-rises : (n : ℕ) → AllPairs (λ a b. a < b) (up_to n)
up_to-rises zero = AllPairs-nil (λ a b. a < b)
up_to-rises (suc n) =
    AllPairs-append (λ a b. a < b) (up_to n) (suc n ∷ []) (up_to-rises n) (λ i j d lt len. absurd (omega arith))
    (All-up_to (λ x. All (λ b. x < b) (suc n ∷ [])) n (λ h least most. All-cons (λ b. h < b) (suc n) [] (omega arith) (All-nil (λ b. h < b))))
