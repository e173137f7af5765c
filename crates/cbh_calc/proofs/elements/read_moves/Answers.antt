use Rattle.std.proofs.Common.{◌≡◌, ℕ, ◌<◌, List, [], length, drop, length-drop, Option, Some, None, MatchOption, sym, ◌∙◌, arith}
use Rattle.definitions.specs.Words.{Extent}
use Rattle.definitions.specs.Moves.{Parts}
use Rattle.script_reader.specs.Coordinates.{degree_counts}
use Rattle.script_reader.specs.Limits.{named}
use Rattle.cbh_calc.proofs.ElementLoop.{takes_line}
use Rattle.cbh_calc.proofs.elements.read_moves.Goals as goal

-- the counts of the extent that was named
counted_at : (extent : Option Extent) (shape : Extent) (counts : List ℕ) (moves : List Parts) → extent ≡ Some shape → counts ≡ degree_counts (named extent) → MatchOption extent (moves ≡ []) (λ s. counts ≡ degree_counts s)
counted_at None shape counts moves is e = cc
counted_at (Some s) shape counts moves is e = e

pub loop-end-preserved-in_default-read : goal.loop-end-preserved-in_default-read
loop-end-preserved-in_default-read c =
    let bytes = c.args.bytes.now in
    let from = c.loop-end.from in
    let after = c.in-Some.after in
    let content = sym c.is_content.ensures ∙ c.if-is_content.true in
    let read = c.in_default-read.ensures.read in
    let shorter : length (drop after bytes) < length (drop from bytes) = omega (arith, length-drop after bytes, length-drop from bytes, c.in-Some.ensures.places.2, c.in-Some.ensures.places.3) in
    record {
      within = c.in-Some.ensures.places.3;
      reading = takes_line _ _ _ _ _ _ _ _ _ c.loop-end.invariant.reading c.in-Some.ensures.line shorter content read.0 read.1 read.2;
      keeps = c.in_default-read.ensures.keeps;
      counted = counted_at _ _ c.read.new.self.counts.items c.read.new.self.moves.items read.1 c.in_default-read.ensures.counted;
    }
