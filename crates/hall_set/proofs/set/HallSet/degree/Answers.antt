use Rattle.std.proofs.Common.{◌∙◌, ap, subst, arith}
use Rattle.definitions.specs.Words.{IsShape}
use Rattle.definitions.specs.Hall.{hall_list}
use Rattle.hall_set.proofs.Searches.{degree-within}
use Rattle.hall_set.proofs.set.HallSet.degree.Goals as goal

pub returns-clause-some : goal.returns-clause-some
returns-clause-some c =
    omega (
      arith,
      c.degree.ensures,
      (degree-within c.args.self.now c.self.inside.members.items c.args.h c.index.result.now (subst IsShape c.self.view_is c.self.invariant.0)
          (c.self.invariant.1 ∙ ap (λ e. hall_list e.width e.depth) c.self.view_is) c.requires c.index.ensures).0,
    )

pub returns-clause-bound : goal.returns-clause-bound
returns-clause-bound c =
    omega (
      arith,
      c.degree.ensures,
      (degree-within c.args.self.now c.self.inside.members.items c.args.h c.index.result.now (subst IsShape c.self.view_is c.self.invariant.0)
          (c.self.invariant.1 ∙ ap (λ e. hall_list e.width e.depth) c.self.view_is) c.requires c.index.ensures).1,
    )
