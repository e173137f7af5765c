use Rattle.std.proofs.Common.{◌≡◌, ◌∷◌, [], rules}
use Rattle.dynkin_map.proofs.WordRows.{empty-row}
use Rattle.dynkin_map.proofs.images.images_of.Goals as goal

pub loop-k-init : goal.loop-k-init
loop-k-init c =
    let first : c.push.new.self ≡ [] ∷ [] = search rules in
    empty-row c.args.table.now c.push.new.self first
