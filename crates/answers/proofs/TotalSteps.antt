-- Totals of an answer more and of a session more, and the room for their counts.
use Rattle.std.proofs.Common.{◌≡◌, ◌∙◌, ℕ, ◌+◌, ◌^◌, ◌<◌, ◌≤◌, sym, ap, arith, List, [], ◌∷◌, ◌++◌, length, take, get_or}
use Rattle.std.specs.Prelude.{flat_map, fold, sum_by}
use Rattle.std.proofs.lemmas.List.{take_more, flat_map_more}
use Rattle.std.proofs.lemmas.List.Sums.{fold_more, fold-append, sum_by_more, sum_by-take-le}
use Rattle.session.specs.declared.answer.Answer.{Answer}
use Rattle.answers.specs.declared.summary.Totals.{Totals}
use Rattle.answers.specs.Totals.{HasRoom, with_kept}
use Rattle.answers.proofs.TotalLaws.{no_totals}

-- one answer more is counted
pub answer-more : (start totals next : Totals) (xs : List Answer) (i : ℕ) (x : Answer) → i < length xs → x ≡ get_or xs i x
    → totals ≡ fold with_kept start (take i xs) → next ≡ with_kept totals x → next ≡ fold with_kept start (take (i + 1) xs)
answer-more start totals next xs i x h e before step =
    step ∙ ap (λ (t : Totals). with_kept t x) before ∙ ap (with_kept (fold with_kept start (take i xs))) e ∙ sym (fold_more with_kept start xs i x h)

-- one session more is counted
pub session-more : (start totals next : Totals) (xss : List (List Answer)) (i : ℕ) (xs : List Answer) → i < length xss → xs ≡ get_or xss i xs
    → totals ≡ fold with_kept start (flat_map (λ answers. answers) (take i xss)) → next ≡ fold with_kept totals xs → next ≡ fold with_kept start (flat_map (λ answers. answers) (take (i + 1) xss))
session-more start totals next xss i xs h e before step =
    let front : List Answer = flat_map (λ answers. answers) (take i xss) in
    let more : front ++ xs ≡ flat_map (λ answers. answers) (take (i + 1) xss) =
    flat_map_more (λ answers. answers) [] (take i xss) xs
    ∙ ap (λ (ys : List Answer). flat_map (λ answers. answers) (take i xss ++ ys ∷ [])) e
    ∙ ap (λ (yss : List (List Answer)). flat_map (λ answers. answers) yss) (sym (take_more xss i xs h)) in
    step ∙ ap (λ (t : Totals). fold with_kept t xs) before
    ∙ sym (fold-append with_kept start front xs)
    ∙ ap (λ (ys : List Answer). fold with_kept start ys) more

-- ---- room
-- what has room for n answers more has room for fewer
pub room-less : (m n : ℕ) (totals : Totals) → m ≤ n → HasRoom n totals → HasRoom m totals
room-less m n totals h room = record { hits = omega (arith, room.hits); misses = omega (arith, room.misses); exps = omega (arith, room.exps) }

-- at first there is room for fewer than 2^64 answers
pub room-at-first : (n : ℕ) → n < 2 ^ 64 → HasRoom n no_totals
room-at-first n h = record { hits = omega arith; misses = omega arith; exps = omega arith }

-- the answers up to a session are some of all
pub some-of-all : (xss : List (List Answer)) (i : ℕ) (xs : List Answer) → i < length xss → xs ≡ get_or xss i xs
    → (sum_by length (take (i + 1) xss) ≡ sum_by length (take i xss) + length xs) × (sum_by length (take i xss) + length xs ≤ sum_by length xss)
some-of-all xss i xs h e =
    let same : length xs ≡ length (get_or xss i xs) = ap length e in
    let more = sum_by_more length xss i xs h in
    (omega arith, omega (arith, sum_by-take-le length xss (i + 1)))
