use Rattle.std.proofs.Common.{◌≡◌, ◌∙◌, ◌-◌, arith, sym, subst, List, Option, None, Some}
use Rattle.std.proofs.lemmas.List.{get_or_default}
use Rattle.std.proofs.lemmas.List.Elements.{All-get_or, All-same}
use Rattle.dyadic.specs.Nodes.{IsNode}
use Rattle.solve.specs.declared.solution.SolvedNode.{SolvedNode}
use Rattle.versions.specs.Versions.{LogValue}
use Rattle.book.specs.Play.{PendingLook, pending_of}
use Rattle.book.specs.Plans.{IsSettlement}
use Rattle.book.specs.Books.{IsPending, IsPendingOr, IsSettledBy}
use Rattle.book.proofs.SettledLaws.{nodes-settled}
use Rattle.book.proofs.settle_step.settle.Goals as goal

pub settle_nodes-requires-clause-nodes : goal.settle_nodes-requires-clause-nodes
settle_nodes-requires-clause-nodes c =
    let log : LogValue = c.args.log.now in
    let items : List (Option PendingLook) = c.args.pending.now.items in
    let solved : List SolvedNode = c.args.solved.now.nodes.items in
    let here : pending_of c.args.session items ≡ Some c.in-Some.look =
    get_or_default items (c.args.session - 1) None c.index.result.now (omega (arith, c.requires.session.some, c.requires.session.within)) ∙ sym c.index.ensures ∙ c.in-Some.is in
    let pending : IsPending log.edits c.in-Some.look =
    subst (IsPendingOr log.edits) here (All-get_or (IsPendingOr log.edits) items (c.args.session - 1) None (omega (arith, c.requires.session.some, c.requires.session.within)) c.requires.looks) in
    let settlement : IsSettlement log.extent log.edits c.in-Some.look.version c.in-Some.look.missed solved = subst (λ look. IsSettledBy log look solved) here c.requires.settled in
    All-same (λ s. IsNode s.node) c.deref.result.now solved c.deref.ensures.value (nodes-settled solved c.in-Some.look.missed settlement.nodes_are pending.nodes)
