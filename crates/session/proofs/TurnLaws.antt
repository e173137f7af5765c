-- Which session is the next that has anything to do.
use Rattle.std.proofs.Common.{◌≡◌, ◌∙◌, ℕ, zero, suc, ◌+◌, ◌<◌, ◌≤◌, Bool, true, false, cond, ◌||◌, List, [], ◌∷◌, ◌++◌, length, take, drop, refl, sym, ap, subst, arith, length-append, inl, inr}
use Rattle.std.specs.Prelude.{All, Option, Some, None, is_some}
use Rattle.std.specs.List.{find, list_any}
use Rattle.std.proofs.lemmas.List.{append-nil, drop_all, drop-append-le, take_all, take-append-drop, take-append-le}
use Rattle.std.proofs.lemmas.Bool.{cases_lt}
use Rattle.std.proofs.Math.Bool.{or_comm}
use Rattle.std.proofs.Math.Seq.{drop-append_seam}
use Rattle.std.specs.Option.{option_or}
use Rattle.std.proofs.lemmas.List.Elements.{All-nil, All-cons, All-head, All-tail, All-append, All-take, All-drop}
use Rattle.std.proofs.lemmas.List.Folds.{find-append, list_any-append}
use Rattle.definitions.specs.Words.{Extent, up_to}
use Rattle.session.specs.Play.{Run, has_next, has_any, next_turn, turns_after}

length-numbers : (n : ℕ) → length (up_to n) ≡ n
length-numbers zero = refl
length-numbers (suc n) = omega (arith, length-numbers n, length-append (up_to n) (suc n ∷ []))

none-after : (i n : ℕ) → n ≤ i → drop i (up_to n) ≡ []
none-after i n h = drop_all i (up_to n) (omega (arith, length-numbers n))

last-number : (n : ℕ) → drop n (up_to (suc n)) ≡ suc n ∷ []
last-number n = ap (λ (i : ℕ). drop i (up_to (suc n))) (sym (length-numbers n)) ∙ drop-append_seam (up_to n) (suc n ∷ [])

-- the first number after i is i + 1
first-number : (i n : ℕ) → i < n → drop i (up_to n) ≡ (i + 1) ∷ drop (i + 1) (up_to n)
first-number i zero h = absurd (omega arith)
first-number i (suc n) h =
    elim (cases_lt i n) [
      | inl l ↦
          drop-append-le i (up_to n) (suc n ∷ []) (omega (arith, length-numbers n))
          ∙ ap (λ (l : List ℕ). l ++ suc n ∷ []) (first-number i n l)
          ∙ ap (λ (l : List ℕ). (i + 1) ∷ l) (sym (drop-append-le (i + 1) (up_to n) (suc n ∷ []) (omega (arith, length-numbers n))))
      | inr g ↦
          let e : i ≡ n = omega arith in
          let next : suc n ≡ i + 1 = omega arith in
          ap (λ (i : ℕ). drop i (up_to (suc n))) e ∙ last-number n ∙ ap (λ (m : ℕ). m ∷ []) next
          ∙ ap (λ (l : List ℕ). (i + 1) ∷ l) (sym (none-after (i + 1) (suc n) (omega arith)))
    ]

first-numbers : (i n : ℕ) → i ≤ n → take i (up_to n) ≡ up_to i
first-numbers i zero h = let e : i ≡ 0 = omega arith in ap (λ (j : ℕ). take j []) e ∙ ap up_to (sym e)
first-numbers i (suc n) h =
    elim (cases_lt i (suc n)) [
      | inl l ↦ take-append-le i (up_to n) (suc n ∷ []) (omega (arith, length-numbers n)) ∙ first-numbers i n (omega arith)
      | inr g ↦ let e : suc n ≡ i = omega arith in take_all i (up_to (suc n)) (omega (arith, length-numbers (suc n))) ∙ ap up_to e
    ]

module _ (p : ℕ → Bool) (i n : ℕ) where
  -- the number i + 1 is the first after i, where it passes the test
  pub found-next : i < n → p (i + 1) ≡ true → find p (drop i (up_to n)) ≡ Some (i + 1)
  found-next h t = ap (find p) (first-number i n h) ∙ ap (λ (b : Bool). cond b (Some (i + 1)) (find p (drop (i + 1) (up_to n)))) t

  -- where it doesn't, the search goes on after it
  pub passed-next : i < n → p (i + 1) ≡ false → find p (drop i (up_to n)) ≡ find p (drop (i + 1) (up_to n))
  passed-next h t = ap (find p) (first-number i n h) ∙ ap (λ (b : Bool). cond b (Some (i + 1)) (find p (drop (i + 1) (up_to n)))) t

  -- past n there is none
  pub none-next : n ≤ i → find p (drop i (up_to n)) ≡ None
  none-next h = ap (find p) (none-after i n h)

-- the first of the later sessions, or else of the others
module _ (p : ℕ → Bool) (last n : ℕ) where
  later-turn : (later : Option ℕ) → find p (drop last (up_to n)) ≡ later → option_or later (find p (take last (up_to n))) ≡ find p (turns_after last n)
  later-turn later e = ap (λ (o : Option ℕ). option_or o (find p (take last (up_to n)))) (sym e) ∙ sym (find-append p (drop last (up_to n)) (take last (up_to n)))

  -- what is found after the last session is found in turn
  pub turn-later : (later : Option ℕ) → later ≡ find p (drop last (up_to n)) → is_some later ≡ true → later ≡ find p (turns_after last n)
  turn-later (Some session) e t = later-turn (Some session) (sym e)
  turn-later None e t = cc

  -- else it is what is found from the first session on
  pub turn-earlier : (later earlier : Option ℕ) → last ≤ n → later ≡ find p (drop last (up_to n)) → is_some later ≡ false → earlier ≡ find p (drop 0 (up_to last)) → earlier ≡ find p (turns_after last n)
  turn-earlier (Some session) earlier h e t f = cc
  turn-earlier None earlier h e t f = f ∙ ap (find p) (sym (first-numbers last n h)) ∙ later-turn None (sym e)

-- ---- what is found
found-is : (p : ℕ → Bool) (P : ℕ → Type 0) (xs : List ℕ) (x : ℕ) → All P xs → find p xs ≡ Some x → (p x ≡ true) × P x
found-is p P [] x all e = absurd (cc)
found-is p P (y ∷ xs) x all e = at (p y) refl e (found-is p P xs x (All-tail P y xs all))
  where
    at : (b : Bool) → p y ≡ b → cond b (Some y) (find p xs) ≡ Some x → (find p xs ≡ Some x → (p x ≡ true) × P x) → (p x ≡ true) × P x
    at true t f later = let same : y ≡ x = cc in subst (λ (z : ℕ). (p z ≡ true) × P z) same (t, All-head P y xs all)
    at false t f later = later f

-- the numbers up to n are at most m, where n is
pub numbers-within : (m n : ℕ) → n ≤ m → All (λ s. s ≤ m) (up_to n)
numbers-within m zero h = All-nil (λ s. s ≤ m)
numbers-within m (suc n) h = All-append (λ s. s ≤ m) (up_to n) (suc n ∷ []) (numbers-within m n (omega arith)) (All-cons (λ s. s ≤ m) (suc n) [] h (All-nil (λ s. s ≤ m)))

-- the next session has something to do, and is one of the sessions
pub turn-is : (extent : Extent) (last session : ℕ) (run : Run) → next_turn extent last run ≡ Some session → (has_next extent run session ≡ true) × (session ≤ length run.left)
turn-is extent last session run e =
    let n = length run.left in
    let within = numbers-within n n (omega arith) in
    found-is (has_next extent run) (λ s. s ≤ n) (turns_after last n) session
    (All-append (λ s. s ≤ n) (drop last (up_to n)) (take last (up_to n)) (All-drop (λ s. s ≤ n) last (up_to n) within) (All-take (λ s. s ≤ n) last (up_to n) within)) e

-- ---- whether any session has anything to do
any-found : (p : ℕ → Bool) (xs : List ℕ) → is_some (find p xs) ≡ list_any p xs
any-found p [] = refl
any-found p (x ∷ xs) = at (p x) (any-found p xs)
  where
    at : (b : Bool) → is_some (find p xs) ≡ list_any p xs → is_some (cond b (Some x) (find p xs)) ≡ (b || list_any p xs)
    at true e = refl
    at false e = e

-- from the first session on a turn is found exactly where any session has something to do
pub any-turn : (extent : Extent) (run : Run) → is_some (next_turn extent 0 run) ≡ has_any extent run
any-turn extent run =
    let p = has_next extent run in
    let numbers = up_to (length run.left) in
    any-found p (turns_after 0 (length run.left)) ∙ ap (list_any p) (append-nil numbers)

-- where there is no next session, none has anything to do
pub no-turn-any : (extent : Extent) (last : ℕ) (run : Run) → next_turn extent last run ≡ None → has_any extent run ≡ false
no-turn-any extent last run e =
    let p = has_next extent run in
    let numbers = up_to (length run.left) in
    ap (list_any p) (sym (take-append-drop last numbers))
    ∙ list_any-append p (take last numbers) (drop last numbers)
    ∙ or_comm (list_any p (take last numbers)) (list_any p (drop last numbers))
    ∙ sym (list_any-append p (drop last numbers) (take last numbers))
    ∙ sym (any-found p (turns_after last (length run.left)))
    ∙ ap is_some e
