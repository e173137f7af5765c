use Rattle.std.proofs.Common.{◌≡◌, ◌+◌, ◌∷◌, ◌++◌, [], List, ℕ, map, drop, get_or, sym, ap, ◌∙◌, arith, rules, append_assoc, Bor, to_z, of_z, w64}
use Rattle.std.proofs.lemmas.Grind.{common_steps}
use Rattle.std.proofs.lemmas.Int.{ints, to_z-of_z}
use Rattle.std.proofs.lemmas.List.{at_drop_more, at_drop_all}
use Rattle.script_reader.specs.Fields.{are_entries, entries_of}
use Rattle.script_reader.proofs.Fields.{entry_missing, entry_found, no_entries}
use Rattle.script_reader.proofs.form.fields.entries_in.Goals as goal

abbrev spelled : List (Bor (List ℕ)) → List (List ℕ)
spelled words = map (λ w. w.now) words

abbrev nowhere : Bor (List ℕ)
nowhere = record { ref_ptr = (0, 0); now = [] }

pub returns-in_default : goal.returns-in_default
returns-in_default c =
    sym c.loop-word.invariant.test ∙ at_drop_more (λ words. are_entries (spelled words)) c.args.words.now c.loop-word.word-index nowhere c.loop-word-test.true ∙ entry_missing _ _ c.in_default.ensures

pub loop-word-preserved : goal.loop-word-preserved
loop-word-preserved c =
    let words = c.args.words.now in
    let i = c.loop-word.word-index in
    let found = entry_found (get_or words i nowhere).now (spelled (drop (i + 1) words)) c.in-Some.entry c.in-Some.ensures in
    let same : to_z w64 (of_z w64 c.in-Some.entry) ≡ c.in-Some.entry = search (rules, ints, to_z-of_z) in
    record {
      test = sym found.0 ∙ sym (at_drop_more (λ w. are_entries (spelled w)) words i nowhere c.loop-word-test.true) ∙ c.loop-word.invariant.test;
      value =
          ap (λ v. v ++ entries_of (spelled (drop (i + 1) words))) (c.in_ok-push.ensures.items ∙ ap (λ z. c.loop-word.entries.items ++ z ∷ []) same)
          ∙ append_assoc c.loop-word.entries.items (c.in-Some.entry ∷ []) (entries_of (spelled (drop (i + 1) words)))
          ∙ ap (λ v. c.loop-word.entries.items ++ v) (sym found.1 ∙ sym (at_drop_more (λ w. entries_of (spelled w)) words i nowhere c.loop-word-test.true))
          ∙ c.loop-word.invariant.value;
    }

pub returns : goal.returns
returns c =
    let end = at_drop_all spelled c.args.words.now c.loop-word.word-index c.loop-word-test.false in
    (sym c.loop-word.invariant.test ∙ ap are_entries end ∙ no_entries, grind (arith, common_steps, ap entries_of end, c.loop-word.invariant.value))
