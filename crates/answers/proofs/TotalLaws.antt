-- The totals of answers that are kept are those of the answers that are due.
use Rattle.std.proofs.Common.{◌≡◌, ◌∙◌, ℕ, ◌+◌, ◌^◌, refl, sym, ap, ap₂, arith, ℤ, pos, ◌+ℤ◌, List, [], ◌∷◌, ◌++◌, length}
use Rattle.std.specs.Prelude.{codes, map, flat_map, fold, sum_by}
use Rattle.std.specs.Fmt.{decimal}
use Rattle.std.proofs.Math.IntN.{+ℤ_assoc, +ℤ_idl, +ℤ_idr}
use Rattle.definitions.specs.Words.{Extent}
use Rattle.lie_bracket.specs.declared.term.Term.{Term}
use Rattle.session.specs.declared.answer.Answer.{Answer}
use Rattle.session.specs.declared.answer.Answer.TheVariants as answers
use Rattle.session.specs.declared.answer.Outcome.{Outcome}
use Rattle.versions.specs.declared.log.Accepted.{Accepted}
use Rattle.session.specs.Play.{Due, Edited, Valued, Logged, Refused, DueOutcome}
use Rattle.session.specs.Answers.{Shows, ShowsEach, ShowsAll, IsOutcome}
use Rattle.answers.specs.declared.summary.Totals.{Totals}
use Rattle.answers.specs.Generator.{int_sum, int_mod, value_sum, hits_in, misses_in, exps_in, counted, all_dues, summary_text}
use Rattle.answers.specs.Totals.{with_kept, tensor_sum}
use Rattle.answers.proofs.ModularSums.{mod-add}
use Rattle.answers.proofs.TensorSums.{series-sum}

-- the totals of answers that are due, after those that are totalled already
record AreTotals (extent : Extent) (start : Totals) (sum : ℤ) (dues : List Due) (totals : Totals) : Type 0 where
  hits : totals.hits ≡ fold (λ n due. n + counted hits_in due) start.hits dues
  misses : totals.misses ≡ fold (λ n due. n + counted misses_in due) start.misses dues
  exps : totals.exps ≡ fold (λ n due. n + counted exps_in due) start.exps dues
  sum_is : totals.sum ≡ int_mod (sum +ℤ int_sum (map (value_sum extent) dues)) (2 ^ 64)

-- the totals with an answer that is due more
record IsCounted (extent : Extent) (start : Totals) (sum : ℤ) (due : Due) (totals : Totals) : Type 0 where
  hits : totals.hits ≡ start.hits + counted hits_in due
  misses : totals.misses ≡ start.misses + counted misses_in due
  exps : totals.exps ≡ start.exps + counted exps_in due
  sum_is : totals.sum ≡ int_mod (sum +ℤ value_sum extent due) (2 ^ 64)

module _ (extent : Extent) where
  sum-counted : (start : Totals) (sum value more : ℤ) → start.sum ≡ int_mod sum (2 ^ 64) → more ≡ value → int_mod (pos start.sum +ℤ more) (2 ^ 64) ≡ int_mod (sum +ℤ value) (2 ^ 64)
  sum-counted start sum value more e same = ap₂ (λ (n : ℕ) (z : ℤ). int_mod (pos n +ℤ z) (2 ^ 64)) e same ∙ mod-add sum value

  nothing-counted : (start : Totals) (sum : ℤ) → start.sum ≡ int_mod sum (2 ^ 64) → start.sum ≡ int_mod (sum +ℤ pos 0) (2 ^ 64)
  nothing-counted start sum e = e ∙ ap (λ z. int_mod z (2 ^ 64)) (sym (+ℤ_idr sum))

  answer-counted : (start : Totals) (sum : ℤ) (answer : Answer) (due : Due) → start.sum ≡ int_mod sum (2 ^ 64) → Shows extent answer due → IsCounted extent start sum due (with_kept start answer)
  answer-counted start sum (answers.Edit reply) (Edited r) e h = record { hits = omega arith; misses = omega arith; exps = omega arith; sum_is = nothing-counted start sum e }
  answer-counted start sum (answers.Sig reply tensor) (Valued r series) e h = record {
    hits = ap (λ r. start.hits + hits_in r) h.0;
    misses = ap (λ r. start.misses + misses_in r) h.0;
    exps = ap (λ r. start.exps + exps_in r) h.0;
    sum_is = sum-counted start sum (value_sum extent (Valued r series)) (tensor_sum tensor) e (series-sum extent tensor series h.1);
  }
  answer-counted start sum (answers.Log reply lie) (Logged r terms) e h = record {
    hits = ap (λ r. start.hits + hits_in r) h.0;
    misses = ap (λ r. start.misses + misses_in r) h.0;
    exps = ap (λ r. start.exps + exps_in r) h.0;
    sum_is = sum-counted start sum (value_sum extent (Logged r terms)) (int_sum (map (λ t. t.factor) lie)) e (ap (λ (ts : List Term). int_sum (map (λ t. t.factor) ts)) h.1);
  }
  answer-counted start sum (answers.Refused reply) (Refused r) e h = record { hits = omega arith; misses = omega arith; exps = omega arith; sum_is = nothing-counted start sum e }
  answer-counted start sum answer due e h = absurd h

  answers-counted : (kept : List Answer) (dues : List Due) (start : Totals) (sum : ℤ) → start.sum ≡ int_mod sum (2 ^ 64) → ShowsEach extent kept dues → AreTotals extent start sum dues (fold with_kept start kept)
  answers-counted [] [] start sum e h = record { hits = refl; misses = refl; exps = refl; sum_is = nothing-counted start sum e }
  answers-counted [] (due ∷ dues) start sum e h = absurd h
  answers-counted (answer ∷ kept) [] start sum e h = absurd h
  answers-counted (answer ∷ kept) (due ∷ dues) start sum e h =
      let one = answer-counted start sum answer due e h.0 in
      let rest = answers-counted kept dues (with_kept start answer) (sum +ℤ value_sum extent due) one.sum_is h.1 in
      record {
        hits = rest.hits ∙ ap (λ n. fold (λ n due. n + counted hits_in due) n dues) one.hits;
        misses = rest.misses ∙ ap (λ n. fold (λ n due. n + counted misses_in due) n dues) one.misses;
        exps = rest.exps ∙ ap (λ n. fold (λ n due. n + counted exps_in due) n dues) one.exps;
        sum_is = rest.sum_is ∙ ap (λ z. int_mod z (2 ^ 64)) (+ℤ_assoc sum (value_sum extent due) (int_sum (map (value_sum extent) dues)));
      }

  -- ---- all sessions
  shows-append : (xs ys : List Answer) (ds es : List Due) → ShowsEach extent xs ds → ShowsEach extent ys es → ShowsEach extent (xs ++ ys) (ds ++ es)
  shows-append [] ys [] es h k = k
  shows-append [] ys (d ∷ ds) es h k = absurd h
  shows-append (x ∷ xs) ys [] es h k = absurd h
  shows-append (x ∷ xs) ys (d ∷ ds) es h k = (h.0, shows-append xs ys ds es h.1 k)

  shows-flat : (transcripts : List (List Answer)) (sessions : List (List Due)) → ShowsAll extent transcripts sessions → ShowsEach extent (flat_map (λ kept. kept) transcripts) (flat_map (λ dues. dues) sessions)
  shows-flat [] [] h = tt
  shows-flat [] (dues ∷ sessions) h = absurd h
  shows-flat (kept ∷ transcripts) [] h = absurd h
  shows-flat (kept ∷ transcripts) (dues ∷ sessions) h = shows-append kept (flat_map (λ kept. kept) transcripts) dues (flat_map (λ dues. dues) sessions) h.0 (shows-flat transcripts sessions h.1)

-- ---- the summary
-- nothing is counted yet
abbrev pub no_totals : Totals
no_totals = record { hits = 0; misses = 0; exps = 0; sum = 0 }

-- a summary of these counts
abbrev pub counts_text : ℕ → ℕ → ℕ → ℕ → ℕ → ℕ → ℕ → List ℕ
counts_text n steps versions hits misses exps sum =
    codes "gen " ++ decimal n
    ++ codes "\nsteps " ++ decimal steps
    ++ codes "\nversions " ++ decimal versions
    ++ codes "\nhits " ++ decimal hits
    ++ codes "\nmisses " ++ decimal misses
    ++ codes "\nexps " ++ decimal exps
    ++ codes "\nsum " ++ decimal sum
    ++ codes "\n"

-- the summary of the totals of an outcome is the one that is due
pub summary-due : (n : ℕ) (extent : Extent) (outcome : Outcome) (totals : Totals) (due : DueOutcome) → totals ≡ fold with_kept no_totals (flat_map (λ kept. kept) outcome.transcripts.items) → IsOutcome extent outcome due
    → counts_text n (length outcome.order.items) (length outcome.edits.items) totals.hits totals.misses totals.exps totals.sum ≡ summary_text n extent due
summary-due n extent outcome totals due e is =
    let dues : List Due = all_dues due in
    let all : AreTotals extent no_totals (pos 0) (all_dues due) (fold with_kept no_totals (flat_map (λ kept. kept) outcome.transcripts.items)) =
    answers-counted extent (flat_map (λ kept. kept) outcome.transcripts.items) (all_dues due) no_totals (pos 0) refl (shows-flat extent outcome.transcripts.items due.transcripts is.transcripts) in
    let hits : totals.hits ≡ sum_by (counted hits_in) dues = ap (λ (t : Totals). t.hits) e ∙ all.hits in
    let misses : totals.misses ≡ sum_by (counted misses_in) dues = ap (λ (t : Totals). t.misses) e ∙ all.misses in
    let exps : totals.exps ≡ sum_by (counted exps_in) dues = ap (λ (t : Totals). t.exps) e ∙ all.exps in
    let sum : totals.sum ≡ int_mod (int_sum (map (value_sum extent) dues)) (2 ^ 64) =
    ap (λ (t : Totals). t.sum) e ∙ all.sum_is ∙ ap (λ z. int_mod z (2 ^ 64)) (+ℤ_idl (int_sum (map (value_sum extent) dues))) in
    ap₂ (λ (order : List ℕ) (edits : List Accepted). counts_text n (length order) (length edits) totals.hits totals.misses totals.exps totals.sum) is.order is.edits
    ∙ ap₂ (λ (h : ℕ) (m : ℕ). counts_text n (length due.order) (length due.edits) h m totals.exps totals.sum) hits misses
    ∙ ap₂ (λ (x : ℕ) (s : ℕ). counts_text n (length due.order) (length due.edits) (sum_by (counted hits_in) dues) (sum_by (counted misses_in) dues) x s) exps sum
