use Rattle.std.proofs.Common.{◌∙◌, sym, None}
use Rattle.std.specs.BTreeMap.{values}
use Rattle.std.proofs.lemmas.Map.Text.{hash_map_updates_text}
use Rattle.increments.specs.Edits.{row_of, without}
use Rattle.increments.proofs.Places.{without-none}
use Rattle.increments.proofs.Ties.{Becomes, becomes-without, no_place}
use Rattle.increments.proofs.tables.remove_row.Goals as goal

pub returns-in_err-place-clause-rows : goal.returns-in_err-place-clause-rows
returns-in_err-place-clause-rows c =
    sym (without-none c.args.name.now (values c.args.rows.now)
    (no_place (row_of c.args.name.now (values c.args.rows.now)) (sym (c.requires.named c.args.name.now) ∙ sym c.in_err-place.ensures.value)))

done : (c : goal.Joined-remove) → Becomes c.remove.new.self c.swap_remove.new.self (without c.args.name.now (values c.args.rows.now))
done c =
    becomes-without c.args.rows.now c.remove.new.self c.args.names.now c.swap_remove.new.self c.requires c.args.name.now c.in_ok-place.place (sym (c.requires.named c.args.name.now) ∙ sym c.in_ok-place.ensures.value) c.remove.ensures.ordered
    c.remove.ensures.entries (hash_map_updates_text c.args.name.now c.args.names.now c.swap_remove.new.self None c.in_ok-place.ensures.updates)

pub returns-clause-rows : goal.returns-clause-rows
returns-clause-rows c = (done c).holds

pub returns-clause-tied : goal.returns-clause-tied
returns-clause-tied c = (done c).tied
