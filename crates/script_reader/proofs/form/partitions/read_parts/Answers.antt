use Rattle.std.proofs.Common.{◌≡◌, true, map, drop, sym, ap, ◌∙◌, nat_lt, length, arith}
use Rattle.std.proofs.lemmas.Bool.Decides.{nat_tests}
use Rattle.std.proofs.lemmas.List.{length-map}
use Rattle.std.proofs.lemmas.Option.{MatchOption-at_some}
use Rattle.script_reader.specs.Fields.{are_ticks, ticks_of}
use Rattle.script_reader.specs.Forms.{rises_from, partition_queries}
use Rattle.script_reader.proofs.Partitions.{IsPartition, partition_reads}
use Rattle.script_reader.proofs.form.partitions.read_parts.Goals as goal

pub returns : goal.returns
returns c =
    let spelled = map (λ w. w.now) c.args.words.now in
    let r = c.in-Some-Some.r in
    let version = c.in-Some-Some.version in
    let ticks = c.in-Some.ticks.items in
    let times : (are_ticks 4294967296 (drop 3 spelled) ≡ true) × (ticks ≡ ticks_of 4294967296 (drop 3 spelled)) = MatchOption-at_some _ _ c.in-Some.ticks c.in-Some.is c.in_ok-ticks.ensures in
    let long : length spelled ≡ length c.args.words.now = length-map c.args.words.now (λ w. w.now) in
    let opened : nat_lt 0 c.args.tally.now.sessions ≡ true = grind (arith, nat_tests) in
    let asked : c.in_ok-queries.queries ≡ partition_queries r version ticks = c.in_ok-queries.ensures ∙ ap (partition_queries r version) c.deref-2.ensures.value in
    let partition : IsPartition spelled r version ticks = record {
      some = omega (arith, long);
      few = omega (arith, long);
      numbered = c.in-Some-Some.ensures.0;
      versioned = c.in-Some-Some.ensures'.0;
      timed = times.0;
      resolution = c.in-Some-Some.ensures.1;
      version_is = c.in-Some-Some.ensures'.1;
      ticks_are = times.1;
      rise = ap (rises_from 0) (sym c.deref.ensures.value) ∙ sym c.if-not-rises.ensures;
      coarse = omega arith;
    } in
    partition_reads c.args.tally.now spelled r version ticks c.in_ok-queries.queries opened partition asked
