use Rattle.std.proofs.Common.{◌≡◌, ◌++◌, map, drop}
use Rattle.script_reader.specs.Fields.{are_entries, entries_of}
use Rattle.script_reader.proofs.form.fields.entries_in.Given as goal

abbrev pub invariant-loop-word : goal.invariant-loop-word
invariant-loop-word l = record {
  test : are_entries (map (λ w. w.now) (drop l.word-index l.words)) ≡ are_entries (map (λ w. w.now) l.words);
  value : l.entries.items ++ entries_of (map (λ w. w.now) (drop l.word-index l.words)) ≡ entries_of (map (λ w. w.now) l.words);
}
