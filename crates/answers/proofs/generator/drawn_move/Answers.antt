use Rattle.std.proofs.Common.{◌≡◌, ◌∙◌, ◌∷◌, ◌<◌, ◌^◌, [], ℤ, List, ap, sym, subst, arith, length, rules}
use Rattle.std.specs.Prelude.{IfNone}
use Rattle.std.proofs.lemmas.List.Elements.{All-nil, All-cons}
use Rattle.definitions.specs.Words.{Extent}
use Rattle.definitions.specs.Moves.{AreParts}
use Rattle.answers.proofs.generator.drawn_move.Goals as goal

pub unreachable-requires : goal.unreachable-requires
unreachable-requires c =
    let entries : List ℤ = c.in_ok-drawn_entries.field-0.items in
    let parts : c.push.new.self.items ≡ entries ∷ [] = search rules in
    let two : length entries ≡ 2 = ap length c.in_ok-drawn_entries.ensures in
    let width : c.args.shape.width ≡ 2 = ap (λ (e : Extent). e.width) c.requires in
    let depth : c.args.shape.depth ≡ 4 = ap (λ (e : Extent). e.depth) c.requires in
    let few : List ℤ → Type 0 = λ part. length part < 2 ^ 32 in
    let refused : AreParts c.args.shape c.push.new.self.items → ⊥ = subst (λ made. IfNone made (AreParts c.args.shape c.push.new.self.items → ⊥)) c.in-None.is c.in_ok-x.ensures.refused in
    refused
    (subst (AreParts c.args.shape) (sym parts)
    (record { some = omega arith; few = omega (arith, depth); letters = two ∙ sym width; short = All-cons few entries [] (omega (arith, two)) (All-nil few) }))
