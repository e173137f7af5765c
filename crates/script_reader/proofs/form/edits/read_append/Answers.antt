use Rattle.std.proofs.Common.{◌≡◌, true, map, drop, ap, ◌∙◌, rules, arith}
use Rattle.std.proofs.lemmas.Option.{MatchOption-at_some}
use Rattle.script_reader.specs.Fields.{are_entries, entries_of}
use Rattle.script_reader.specs.Coordinates.{lie_move}
use Rattle.script_reader.proofs.RowLines.{IsOpen, AreCoordinates, append_reads}
use Rattle.script_reader.proofs.form.edits.read_append.Goals as goal

pub returns : goal.returns
returns c =
    let spelled = map (λ w. w.now) c.args.words.now in
    let shape = c.in-Some.shape in
    let opening : IsOpen c.args.tally.now shape = record { opened = c.in-Some.ensures.0; shaped = c.in-Some.ensures.1 } in
    let entries : (are_entries (drop 3 spelled) ≡ true) × (c.in-Some-2.entries.items ≡ entries_of (drop 3 spelled)) = MatchOption-at_some _ _ c.in-Some-2.entries c.in-Some-2.is c.in_ok-entries.ensures in
    let row : AreCoordinates shape (drop 3 spelled) c.in_ok-x.x = record {
      counted = c.in-Some-degree_of.ensures.0;
      entries = entries.0;
      move = c.in_ok-x.ensures.0;
      is = c.in_ok-x.ensures.1 ∙ ap (lie_move shape) entries.1;
    } in
    append_reads c.args.tally.now spelled shape c.in_ok-name.name c.in-Some-tick_at.tick c.in_ok-x.x opening row (search rules) (search rules) c.in-Some-tick_at.ensures.0 c.in-Some-tick_at.ensures.1 (omega (arith, c.in-Some-tick_at.ensures.2))
