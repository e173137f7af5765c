use Rattle.std.proofs.Common.{rules, ap, ◌∙◌, sym, ◌∷◌, Some}
use Rattle.atomic_table.specs.Table.{rest}
use Rattle.turnstile.specs.Steps.{slots_out}
use Rattle.turnstile.proofs.Taking.{takes_turn}
use Rattle.turnstile.proofs.turnstile.Turnstile.take.Goals as goal

pub compare_exchange-found-requires : goal.compare_exchange-found-requires
compare_exchange-found-requires g c = (
  search rules,
  search rules,
  takes_turn g.K.Kept.entries g.K.Kept.label g.K.Kept.frame _ _ _ _ (search rules) (ap (λ m. m.1) c.loop.invariant.0 ∙ (c.args.pass.now.slots ∙ ap slots_out c.requires.free)) c.loop.pass.live,
)

pub exchange-requires : goal.exchange-requires
exchange-requires g c =
    let t = c.compare_exchange-found.ensures.2.0 (search rules) in
    let e = ap (λ m. m.1) t.1 in
    (search rules, (Some t.0, e ∙ ap (λ xs. (0, Some t.0) ∷ xs) (sym (ap rest e))))
