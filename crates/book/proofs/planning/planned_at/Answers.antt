use Rattle.std.proofs.Common.{◌≡◌, ◌∙◌, sym, ap, subst, arith, None, ℕ, List}
use Rattle.definitions.specs.Rows.{RowValue, rows_in, moves_of}
use Rattle.definitions.specs.Signature.{weight}
use Rattle.versions.specs.Versions.{rows_at}
use Rattle.book.specs.VersionRows.{AreVersionRows}
use Rattle.book.specs.Books.{held}
use Rattle.book.specs.Play.{look_refusal}
use Rattle.book.proofs.LookLaws.{none-unless_some, refusal-is, plans-are, visits-are}
use Rattle.book.proofs.planning.planned_at.Given as given
use Rattle.book.proofs.planning.planned_at.Goals as goal

pub returns-in_err-plans-clause-at_most : goal.returns-in_err-plans-clause-at_most
returns-in_err-plans-clause-at_most g c pending =
    let edits = c.args.log.now.edits in let q = c.args.q.now in let round = c.round-from.ensures in
    let none : look_refusal edits q ≡ None =
    refusal-is edits q c.args.version c.round-from.result.0 c.round-from.result.1 c.requires.looked c.requires.version round.from round.to
    c.weight_in.result None (c.weight_in.ensures ∙ ap (λ (rows : List RowValue). weight (moves_of (rows_in c.round-from.result.0 c.round-from.result.1 rows))) c.requires.rows)
    (sym (none-unless_some c.refusal.result c.in_default.not-Some) ∙ c.refusal.ensures) in (
      c.in_err-plans.ensures.at_most.0,
      omega (
        arith,
        c.in_err-plans.ensures.at_most.1,
        visits-are edits q c.args.version c.round-from.result.0 c.round-from.result.1 c.requires.looked c.requires.version round.from round.to none (held c.args.cache.now.entries) pending,
      ),
    )

answered : (g : given.Over) (c : goal.In_ok-plans g) → look_refusal c.args.log.now.edits c.args.q.now ≡ None
answered g c =
    refusal-is c.args.log.now.edits c.args.q.now c.args.version c.round-from.result.0 c.round-from.result.1 c.requires.looked c.requires.version
    c.round-from.ensures.from c.round-from.ensures.to c.weight_in.result None
    (c.weight_in.ensures ∙ ap (λ (rows : List RowValue). weight (moves_of (rows_in c.round-from.result.0 c.round-from.result.1 rows))) c.requires.rows)
    (sym (none-unless_some c.refusal.result c.in_default.not-Some) ∙ c.refusal.ensures)

pub returns-clause-planned : goal.returns-clause-planned
returns-clause-planned g c pending =
    let log = c.args.log.now in let q = c.args.q.now in let round = c.round-from.ensures in let pairs = held c.args.cache.now.entries in (
      answered g c,
      plans-are log.edits q c.args.version c.round-from.result.0 c.round-from.result.1 c.requires.looked c.requires.version round.from round.to log.extent pairs pending c.in_ok-plans.plans.items
          c.in_ok-plans.ensures.plans,
    )

pub returns-clause-ticks : goal.returns-clause-ticks
returns-clause-ticks g c pending =
    let round = c.round-from.ensures in
    omega (
      arith,
      c.in_ok-plans.ensures.ticks,
      visits-are c.args.log.now.edits c.args.q.now c.args.version c.round-from.result.0 c.round-from.result.1 c.requires.looked c.requires.version round.from round.to (answered g c) (held c.args.cache.now.entries) pending,
    )

pub returns-clause-at_most : goal.returns-clause-at_most
returns-clause-at_most g c pending =
    let round = c.round-from.ensures in (
      c.in_ok-plans.ensures.at_most.0,
      omega (
        arith,
        c.in_ok-plans.ensures.at_most.1,
        visits-are c.args.log.now.edits c.args.q.now c.args.version c.round-from.result.0 c.round-from.result.1 c.requires.looked c.requires.version round.from round.to (answered g c) (held c.args.cache.now.entries) pending,
      ),
    )

pub returns-clause-rows : goal.returns-clause-rows
returns-clause-rows g c within =
    subst (λ (v : ℕ). AreVersionRows c.args.log.now.extent (rows_at c.args.log.now.edits v)) (sym c.requires.looked) c.requires.version_rows
