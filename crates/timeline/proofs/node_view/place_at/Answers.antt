use Rattle.timeline.specs.Stores.{store_of}
use Rattle.timeline.proofs.NodeViews.{none-placed, root-placed}
use Rattle.timeline.proofs.node_view.place_at.Goals as goal

pub returns-then-v-eq0 : goal.returns-then-v-eq0
returns-then-v-eq0 c = none-placed (store_of c.args.tree.now) c.args.roots.now c.requires.timeline c.args.v c.args.node c.requires.version c.if-v-eq0.true

pub returns : goal.returns
returns c =
    root-placed (store_of c.args.tree.now) c.args.roots.now c.requires.timeline c.args.v c.args.node c.requires.version c.if-v-eq0.false c.place_under.result c.place_under.ensures
