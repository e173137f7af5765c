-- Why a look is refused, and how many nodes it visits.
use Rattle.std.proofs.Common.{◌≡◌, ◌∙◌, ℕ, ◌<◌, ◌≤◌, refl, sym, ap, subst, arith, Bool, true, false, cond, List, length, Option, Some, None, inl, inr}
use Rattle.std.specs.Prelude.{nat_lt, sum_by}
use Rattle.std.proofs.lemmas.Bool.{cases_Bool}
use Rattle.std.proofs.lemmas.Bool.Decides.{nat_tests}
use Rattle.definitions.specs.Words.{Extent}
use Rattle.definitions.specs.Rows.{RowValue, rounded, rows_in, moves_of}
use Rattle.definitions.specs.Signature.{weight}
use Rattle.solve.specs.declared.plan.Plan.{Plan}
use Rattle.versions.specs.declared.log.Accepted.{Accepted}
use Rattle.versions.specs.Versions.{rows_at}
use Rattle.book.specs.declared.query.Query.{Query}
use Rattle.book.specs.declared.query.Allowed.{Allowed}
use Rattle.book.specs.declared.query.Allowed.TheVariants as allowed
use Rattle.book.specs.declared.step.LookReply.{LookReply}
use Rattle.book.specs.declared.step.LookReply.TheVariants.{Found, NoVersion, Overflow}
use Rattle.book.specs.Walks.{Pair, Visit, walk, visits_of}
use Rattle.book.specs.Plans.{ArePlansOf}
use Rattle.book.specs.Play.{PendingLook, looked_version, looked_rows, look_refusal, look_walk, refused_by, fits_from}
use Rattle.book.specs.Looks.{look_visits, visits_unless}

-- where no reply refuses it, a look isn't refused
pub none-unless_some : (refusal : Option LookReply) → ((reply : LookReply) → refusal ≡ Some reply → ⊥) → refusal ≡ None
none-unless_some None unless = refl
none-unless_some (Some reply) unless = absurd (unless reply refl)

-- the test of the version
by-test : (edits : List Accepted) (q : Query) {late : Bool} → nat_lt (length edits) (looked_version edits q) ≡ late
    → look_refusal edits q ≡ cond late (Some (NoVersion (length edits))) (refused_by q.allowed (weight (moves_of (looked_rows edits q))))
by-test edits q test = ap (λ t. cond t (Some (NoVersion (length edits))) (refused_by q.allowed (weight (moves_of (looked_rows edits q))))) test

-- a look at a version past the current one is refused with the current one
pub refused-late : (edits : List Accepted) (q : Query) → length edits < looked_version edits q → look_refusal edits q ≡ Some (NoVersion (length edits))
refused-late edits q late =
    let test : nat_lt (length edits) (looked_version edits q) ≡ true = grind (arith, nat_tests) in
    by-test edits q test

-- a look that isn't refused is of a version that there is, and allowed rows of that weight
pub unrefused : (edits : List Accepted) (q : Query) → look_refusal edits q ≡ None
    → (looked_version edits q ≤ length edits) × (refused_by q.allowed (weight (moves_of (looked_rows edits q))) ≡ None)
unrefused edits q none =
    elim (cases_Bool (nat_lt (length edits) (looked_version edits q))) [
      | inl late ↦ (let some : Some (NoVersion (length edits)) ≡ None = sym (by-test edits q late) ∙ none in absurd (cc))
      | inr there ↦ (grind (arith, nat_tests, there), sym (by-test edits q there) ∙ none)
    ]

-- a refusal by weight isn't the reply `found`
weighed-never_found : (a : Allowed) (w : ℕ) (reply : LookReply) → refused_by a w ≡ Some reply → (version hits misses exps : ℕ) → reply ≡ Found version hits misses exps → ⊥
weighed-never_found (allowed.Pair a b) w reply is version hits misses exps found = cc
weighed-never_found (allowed.Level k) w reply is version hits misses exps found = cc
weighed-never_found (allowed.Fits factors) w reply is version hits misses exps found =
    elim (cases_Bool (fits_from 1 factors w)) [
      | inl fits ↦ (let none : None ≡ Some reply = sym (ap (λ t. cond t None (Some (Overflow w))) fits) ∙ is in absurd (cc))
      | inr fails ↦ (let some : Some (Overflow w) ≡ Some reply = sym (ap (λ t. cond t None (Some (Overflow w))) fails) ∙ is in cc)
    ]

-- a refusal isn't the reply to a look that is answered
pub refused-never_found : (edits : List Accepted) (q : Query) (reply : LookReply) → look_refusal edits q ≡ Some reply
    → (version hits misses exps : ℕ) → reply ≡ Found version hits misses exps → ⊥
refused-never_found edits q reply is version hits misses exps found =
    elim (cases_Bool (nat_lt (length edits) (looked_version edits q))) [
      | inl late ↦ (let same : Some (NoVersion (length edits)) ≡ Some reply = sym (by-test edits q late) ∙ is in cc)
      | inr there ↦ weighed-never_found q.allowed (weight (moves_of (looked_rows edits q))) reply (sym (by-test edits q there) ∙ is) version hits misses exps found
    ]

-- what is known of a look at this version, which there is
module _ (edits : List Accepted) (q : Query) (v from to : ℕ) (looked : looked_version edits q ≡ v) (within : v ≤ length edits)
    (begins : from ≡ rounded q.r q.from) (ends : to ≡ rounded q.r q.to) where
  refused-by_weight : look_refusal edits q ≡ refused_by q.allowed (weight (moves_of (rows_in from to (rows_at edits v))))
  refused-by_weight =
      let test : nat_lt (length edits) (looked_version edits q) ≡ false = grind (arith, nat_tests) in
      let rows : looked_rows edits q ≡ rows_in from to (rows_at edits v) =
      ap (λ (n : ℕ). rows_in (rounded q.r q.from) (rounded q.r q.to) (rows_at edits n)) looked
      ∙ ap (λ (a : ℕ). rows_in a (rounded q.r q.to) (rows_at edits v)) (sym begins) ∙ ap (λ (b : ℕ). rows_in from b (rows_at edits v)) (sym ends) in
      by-test edits q test ∙ ap (λ (rs : List RowValue). refused_by q.allowed (weight (moves_of rs))) rows

  -- a look at a version that there is is refused by the weight of its rows alone
  pub refusal-is : (w : ℕ) (refusal : Option LookReply) → w ≡ weight (moves_of (rows_in from to (rows_at edits v))) → refusal ≡ refused_by q.allowed w → look_refusal edits q ≡ refusal
  refusal-is w refusal weighs is = refused-by_weight ∙ ap (refused_by q.allowed) (sym weighs) ∙ sym is

  walk-is : (pairs : List Pair) (pending : List (Option PendingLook)) → look_walk (record { edits = edits; pairs = pairs; pending = pending }) q ≡ walk edits v pairs from to
  walk-is pairs pending =
      ap (λ (n : ℕ). walk edits n pairs (rounded q.r q.from) (rounded q.r q.to)) looked
      ∙ ap (λ (a : ℕ). walk edits v pairs a (rounded q.r q.to)) (sym begins) ∙ ap (λ (b : ℕ). walk edits v pairs from b) (sym ends)

  -- the nodes of the walk are those that the look visits, where it isn't refused
  pub visits-are : look_refusal edits q ≡ None → (pairs : List Pair) (pending : List (Option PendingLook))
      → sum_by visits_of (walk edits v pairs from to) ≡ look_visits (record { edits = edits; pairs = pairs; pending = pending }) q
  visits-are answered pairs pending =
      ap (sum_by visits_of) (sym (walk-is pairs pending))
      ∙ sym (ap (λ refusal. visits_unless refusal (look_walk (record { edits = edits; pairs = pairs; pending = pending }) q)) answered)

  -- plans that follow the walk are those of the look
  pub plans-are : (extent : Extent) (pairs : List Pair) (pending : List (Option PendingLook)) (plans : List Plan) → ArePlansOf extent edits v (walk edits v pairs from to) plans
      → ArePlansOf extent edits (looked_version edits q) (look_walk (record { edits = edits; pairs = pairs; pending = pending }) q) plans
  plans-are extent pairs pending plans are =
      subst (λ (n : ℕ). ArePlansOf extent edits n (look_walk (record { edits = edits; pairs = pairs; pending = pending }) q) plans) (sym looked)
      (subst (λ (visits : List Visit). ArePlansOf extent edits v visits plans) (sym (walk-is pairs pending)) are)
