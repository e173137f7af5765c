use Rattle.std.proofs.Common.{◌≡◌, ◌++◌, map, drop}
use Rattle.script_reader.specs.Fields.{are_ticks, ticks_of}
use Rattle.script_reader.proofs.form.fields.ticks_in.Given as goal

abbrev pub invariant-loop-word : goal.invariant-loop-word
invariant-loop-word l = record {
  test : are_ticks l.most (map (λ w. w.now) (drop l.word-index l.words)) ≡ are_ticks l.most (map (λ w. w.now) l.words);
  value : l.ticks.items ++ ticks_of l.most (map (λ w. w.now) (drop l.word-index l.words)) ≡ ticks_of l.most (map (λ w. w.now) l.words);
}
