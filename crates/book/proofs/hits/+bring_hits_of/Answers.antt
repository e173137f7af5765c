use Rattle.std.proofs.Common.{ap, sym, subst}
use Rattle.solve.specs.declared.plan.Plan.{Plan}
use Rattle.node_cache.specs.Entries.{CacheValue}
use Rattle.book.specs.Books.{Keeps, AreKept}
use Rattle.book.proofs.HitLaws.{Brought, all-promoted, hit-brought, unit-brought, leaf-brought, split-brought}
use Rattle.book.proofs.hits.+bring_hits_of.Goals as goal

pub returns-in-Hit-clause-pairs : goal.returns-in-Hit-clause-pairs
returns-in-Hit-clause-pairs t c =
    let log = c.args.log.now in
    hit-brought log.extent log.edits c.args.version c.args.plan.now c.in-Hit.node c.in-Hit.field-1 c.in-Hit.is c.since.result c.since.ensures
    c.args.cache.now.entries c.find.new.self.entries (ap (λ (cache : CacheValue). cache.entries) c.find.ensures.entries)

pub returns-in-Hit-clause-kept : goal.returns-in-Hit-clause-kept
returns-in-Hit-clause-kept t c =
    subst (AreKept c.args.log.now) (sym (ap (λ (cache : CacheValue). cache.entries) c.find.ensures.entries))
    (all-promoted (Keeps c.args.log.now.extent c.args.log.now.edits) c.in-Hit.node c.since.result c.args.cache.now.entries c.requires.kept)

pub returns-in-Unit-clause-pairs : goal.returns-in-Unit-clause-pairs
returns-in-Unit-clause-pairs t c =
    unit-brought c.args.log.now.extent c.args.log.now.edits c.args.version c.args.plan.now c.in-Unit.field-0 c.in-Unit.is c.args.cache.now.entries

pub returns-in-Leaf-clause-pairs : goal.returns-in-Leaf-clause-pairs
returns-in-Leaf-clause-pairs t c =
    leaf-brought c.args.log.now.extent c.args.log.now.edits c.args.version c.args.plan.now c.in-Leaf.field-0 c.in-Leaf.field-1 c.in-Leaf.is c.args.cache.now.entries

pub returns-in-Split-clause-pairs : goal.returns-in-Split-clause-pairs
returns-in-Split-clause-pairs t c =
    let log = c.args.log.now in let left = c.in-Split.left in let right = c.in-Split.right in
    let old = c.args.cache.now.entries in let between = c.bring_hits_of.new.cache.entries in let new = c.bring_hits_of-in-Split.new.cache.entries in
    split-brought log.extent log.edits c.args.version c.args.plan.now c.in-Split.field-0 left right c.in-Split.is old between new
    (subst (λ (p : Plan). Brought log.extent log.edits c.args.version p old between) c.deref.ensures c.bring_hits_of.ensures.pairs)
    (subst (λ (p : Plan). Brought log.extent log.edits c.args.version p between new) c.deref-in-Split.ensures c.bring_hits_of-in-Split.ensures.pairs)
