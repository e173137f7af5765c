use Rattle.std.proofs.Common.{◌<◌, length, drop, length-drop, ap, sym, ◌∙◌, arith}
use Rattle.script_reader.specs.Coordinates.{degree_counts}
use Rattle.script_reader.specs.Limits.{named}
use Rattle.script_reader.proofs.Loop.{begins, takes_line}
use Rattle.script_reader.proofs.reader.read_script.Goals as goal

pub loop-end-preserved-in_default-read : goal.loop-end-preserved-in_default-read
loop-end-preserved-in_default-read c =
    let bytes = c.args.bytes.now in
    let from = c.loop-end.from in
    let after = c.in-Some.after in
    let content = sym c.is_content.ensures ∙ c.if-is_content.true in
    let read = c.in_default-read.ensures.read in
    let shorter : length (drop after bytes) < length (drop from bytes) = omega (arith, length-drop after bytes, length-drop from bytes, c.in-Some.ensures.places.2, c.in-Some.ensures.places.3) in
    record {
      within = c.in-Some.ensures.places.3;
      reading = takes_line _ _ _ _ _ _ _ _ _ _ _ c.loop-end.invariant.reading c.in-Some.ensures.line shorter content read.0 read.1;
      counted = c.in_default-read.ensures.counted;
    }

pub loop-end-init : goal.loop-end-init
unfolding degree_counts
loop-end-init c = record {
  within = omega arith;
  reading = begins c.args.bytes.now _ _ _ c.new-reader.ensures.tally c.new-reader.ensures.sessions c.new-reader.ensures.watches;
  counted = c.new-reader.ensures.counts ∙ ap (λ tally. degree_counts (named tally.shape)) (sym c.new-reader.ensures.tally);
}
