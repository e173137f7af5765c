use Rattle.std.proofs.Common.{◌≡◌, ◌∙◌, ◌+◌, ap, sym, arith, List}
use Rattle.definitions.specs.Hall.{hall_list, degree}
use Rattle.definitions.specs.declared.member.Member.{Member}
use Rattle.solve.proofs.LieRows.{entry-added, entry-passed}
use Rattle.solve.proofs.lie_rows.push_part.Goals as goal
use Rattle.solve.proofs.lie_rows.push_part.Goals.{then-degree-j+in_ok-push_entry, else-degree-j}

pub loop-at-preserved : goal.loop-at-preserved
loop-at-preserved c =
    let hall : List Member = hall_list c.args.hall.now.width c.args.hall.now.depth in
    elim c.if-degree-j.branch [
      | then-degree-j+in_ok-push_entry w ↦
          (let is : degree hall (c.loop-at.at + 1) ≡ c.args.j = sym c.degree.ensures.value ∙ w.if-degree-j.true in
          let next = entry-added hall c.args.j c.loop-at.at c.loop-at.place c.args.terms.now.items c.loop-at.terms.items w.push_entry.new.terms.items c.args.entries.now is
          c.loop-at.invariant.place c.loop-at.invariant.terms w.in_ok-push_entry.ensures in
          record { place = w.place-is ∙ next.0; few = omega (arith, w.place-is, c.loop-at.invariant.few); terms = ap (λ v. v.items) w.terms-is ∙ next.1 })
      | else-degree-j w ↦
          (let next = entry-passed hall c.args.j c.loop-at.at c.loop-at.place c.args.terms.now.items c.loop-at.terms.items c.args.entries.now (λ e. w.if-degree-j.false (c.degree.ensures.value ∙ e))
          c.loop-at.invariant.place c.loop-at.invariant.terms in
          record { place = w.place-is ∙ next.0; few = omega (arith, w.place-is, c.loop-at.invariant.few); terms = ap (λ v. v.items) w.terms-is ∙ next.1 })
    ]
