use Rattle.std.proofs.Common.{◌≡◌}
use Rattle.answers.specs.Generator.{draw}
use Rattle.answers.proofs.Generated.{commands_to}
use Rattle.answers.proofs.generator.gen_script.Given as goal

abbrev pub invariant-loop-i : goal.invariant-loop-i
invariant-loop-i l = record {
  drawn : l.z ≡ draw l.n l.i;
  first : l.first.items ≡ commands_to l.n l.i 0;
  second : l.second.items ≡ commands_to l.n l.i 1;
  third : l.third.items ≡ commands_to l.n l.i 2;
  fourth : l.fourth.items ≡ commands_to l.n l.i 3;
}
