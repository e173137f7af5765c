use Rattle.std.proofs.Common.{rules, ap, ◌∙◌, sym, ◌∷◌, Some}
use Rattle.atomic_table.specs.Table.{rest}
use Rattle.turnstile.specs.Steps.{slots_out}
use Rattle.turnstile.proofs.Giving.{gives_back}
use Rattle.turnstile.proofs.turnstile.Turnstile.give_back.Goals as goal

pub fetch_sub-requires : goal.fetch_sub-requires
fetch_sub-requires g c =
    let put = c.exchange.ensures.3 in
    let view = ap (λ m. m.0) put in (
      search rules,
      search rules,
      gives_back g.K.Kept.entries g.K.Kept.label g.K.Kept.frame _ _ _ c.args.state
          (ap (λ m. m.1) put ∙ ap (λ xs. (0, Some c.args.state) ∷ rest xs) (c.args.pass.now.slots ∙ ap slots_out c.requires.turn))
          (ap (λ v. v.pass.turn) view ∙ c.requires.turn)
          (ap (λ v. v.spent) view ∙ c.args.pass.now.live)
          (c.requires.frame ∙ sym (ap (λ v. v.pass.frame) view))
          (c.requires.entries ∙ sym (ap (λ v. v.pass.taken) view)),
    )
