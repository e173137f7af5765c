use Rattle.std.proofs.Common.{rules, ◌≡◌, [], ◌∷◌, Some, sym, subst}
use Rattle.atomic_table.specs.Table.{opening}
use Rattle.turnstile.specs.History.{OneHistory}
use Rattle.turnstile.specs.Steps.{first_view}
use Rattle.turnstile.proofs.Passing.{opens}
use Rattle.turnstile.proofs.turnstile.Turnstile.start.Goals as goal

pub new-requires : goal.new-requires
new-requires g c =
    let items : c.push.new.self.items ≡ Some c.args.state ∷ [] = search rules in
    subst (λ xs. OneHistory g.K.Kept.entries g.K.Kept.label g.K.Kept.frame (opening (0 ∷ []) xs (first_view (g.K.Kept.frame c.of-about.result.value)))) (sym items)
    (opens g.K.Kept.entries g.K.Kept.label g.K.Kept.frame c.args.state c.of-about.result.value (sym c.of-about.ensures) c.requires)
