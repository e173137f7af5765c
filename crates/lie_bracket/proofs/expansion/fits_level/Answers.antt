use Rattle.std.proofs.Common.{◌≡◌, ◌∙◌, ◌+◌, ◌-◌, ◌/◌, ◌^◌, arith, take, ap, ap₂, sym, rules, ℕ, pos, unsigned_abs, FitsSigned, to_z-of_z, min}
use mir.Syntax.{w128}
use Rattle.std.proofs.lemmas.List.{take_all}
use Rattle.std.proofs.lemmas.List.Elements.{All-get_or}
use Rattle.definitions.specs.Hall.{InHall, degree}
use Rattle.lie_bracket.specs.Brackets.{term}
use Rattle.lie_bracket.specs.Elements.{term_at}
use Rattle.lie_bracket.specs.Expanding.{level_size}
use Rattle.lie_bracket.proofs.ExpandSteps.{degree-read, size-take, size-pass, fits-decided}
use Rattle.lie_bracket.proofs.expansion.fits_level.Goals as goal
use Rattle.lie_bracket.proofs.expansion.fits_level.Goals.{then-degree-k, else-degree-k}

pub loop-t-preserved : goal.loop-t-preserved
loop-t-preserved c =
    let i : ℕ = c.loop-t.t-index in
    let inside : InHall c.args.members.now (term_at c.args.terms.now i).number = All-get_or (λ t. InHall c.args.members.now t.number) c.args.terms.now i (term (pos 0) 0) c.loop-t-test.true c.requires.numbers in
    let same : c.degree.result ≡ degree c.args.members.now (term_at c.args.terms.now i).number = degree-read c.args.members.now (term_at c.args.terms.now i).number c.degree.result inside c.degree.ensures in
    elim c.if-degree-k.branch [
      | then-degree-k w ↦
          let ff : FitsSigned w128 ((term_at c.args.terms.now i).factor) = search rules in
          let absolute : w.unsigned_abs.result ≡ unsigned_abs (term_at c.args.terms.now i).factor = w.unsigned_abs.ensures.value ∙ ap unsigned_abs (to_z-of_z ff) in
          w.size-is
          ∙ w.saturating_add-size.ensures
          ∙ ap (λ (x : ℕ). min (c.loop-t.size + x) (2 ^ 128 - 1)) absolute
          ∙ size-take c.args.members.now c.args.k c.args.terms.now i c.loop-t.size c.loop-t-test.true c.loop-t.invariant (sym same ∙ w.if-degree-k.true)
      | else-degree-k w ↦
          w.size-is ∙ size-pass c.args.members.now c.args.k c.args.terms.now i c.loop-t.size c.loop-t-test.true c.loop-t.invariant (λ here. w.if-degree-k.false (same ∙ here))
    ]

pub returns : goal.returns
returns c =
    let whole : level_size c.args.members.now c.args.k (take c.loop-t.t-index c.args.terms.now) ≡ level_size c.args.members.now c.args.k c.args.terms.now =
    ap (level_size c.args.members.now c.args.k) (take_all c.loop-t.t-index c.args.terms.now (omega (arith, c.loop-t-test.false))) in
    fits-decided (level_size c.args.members.now c.args.k c.args.terms.now) c.loop-t.size (c.unsigned_abs-2.result / c.pow.result) (c.args.k - 1) (c.loop-t.invariant ∙ ap (λ n. min n (2 ^ 128 - 1)) whole)
    (ap₂ ◌/◌ c.unsigned_abs-2.ensures.value c.pow.ensures)
