use Rattle.std.proofs.Common.{◌-◌, ◌≤◌, length, sym, arith}
use Rattle.std.proofs.lemmas.Bool.{le-ltb}
use Rattle.dyadic.specs.Nodes.{low_of, high_of}
use Rattle.versions.specs.Versions.{since}
use Rattle.book.proofs.SinceLaws.{since-le}
use Rattle.book.proofs.keeping.is_past.Goals as goal

pub returns-then-version-ended-clause-value : goal.returns-then-version-ended-clause-value
returns-then-version-ended-clause-value c =
    let edits = c.args.log.now.edits in let a = low_of c.args.node in let b = high_of c.args.node in
    let last : since a b edits (length edits - 64) ≤ c.args.version =
    omega (arith, since-le a b edits (length edits - 64), c.saturating_sub-ended.ensures, c.len.ensures.value, c.if-version-ended.true) in
    sym (le-ltb c.args.version (since a b edits (length edits - 64)) last)
