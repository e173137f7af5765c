use Rattle.std.proofs.Common.{◌∙◌, ap, Some}
use Rattle.std.specs.Map.{update, lookup}
use Rattle.std.specs.HashMap.{get_by_text}
use Rattle.std.specs.BTreeMap.{insert_entry, values}
use Rattle.std.specs.Str.{bytes_eq}
use Rattle.std.specs.String.{string_bytes}
use Rattle.std.proofs.lemmas.Map.Text.{hash_map_updates_text}
use Rattle.definitions.specs.Rows.{with_row}
use Rattle.increments.specs.Tables.{place_cmp}
use Rattle.increments.proofs.Ties.{Becomes, becomes-with_row}
use Rattle.increments.proofs.tables.insert_row.Goals as goal

done : (c : goal.In-Ok) → Becomes c.insert.new.self c.insert-2.new.self (with_row c.args.row (values c.args.rows.now))
done c =
    becomes-with_row c.args.rows.now c.insert.new.self c.args.names.now c.insert-2.new.self c.requires.tied c.args.row c.requires.new c.requires.birth c.insert.ensures.ordered
    (c.in_ok-insert.ensures.entries ∙ ap (λ p. insert_entry place_cmp c.args.rows.now.entries p c.args.row) c.requires.place)
    (λ name.
    hash_map_updates_text (string_bytes c.args.key) c.reserve.new.self c.insert-2.new.self (Some c.args.place) c.in-Ok.ensures.updates name
    ∙ ap (λ es. update bytes_eq (λ bs. lookup (λ k. bytes_eq bs (string_bytes k)) es) (string_bytes c.args.key) (Some c.args.place) name) c.reserve.ensures.entries
    ∙ ap (λ bs. update bytes_eq (get_by_text c.args.names.now) bs (Some c.args.place) name) c.requires.key
    ∙ ap (λ p. update bytes_eq (get_by_text c.args.names.now) c.args.row.name (Some p) name) c.requires.place)

pub returns-clause-ok : goal.returns-clause-ok
returns-clause-ok c = (done c).holds

pub returns-clause-tied : goal.returns-clause-tied
returns-clause-tied c = (done c).tied
