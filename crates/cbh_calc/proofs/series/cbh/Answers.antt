use Rattle.std.proofs.Common.{◌≡◌, ◌∙◌, ℕ, ◌≤◌, ◌^◌, ap, subst, rules, List, length}
use Rattle.std.specs.Prelude.{All, pos, ◌*ℤ◌}
use Rattle.definitions.specs.Words.{Extent, IsShape, IsWord}
use Rattle.definitions.specs.Hall.{InHall, hall_list, expansion}
use Rattle.definitions.specs.Logarithm.{logarithm}
use Rattle.definitions.specs.Signature.{Fits, signature, weight, limit}
use Rattle.lie_bracket.specs.Brackets.{expanded}
use Rattle.lie_bracket.specs.declared.term.Term.{Term}
use Rattle.dynkin_map.specs.Coordinates.{lie_bounds, coordinates}
use Rattle.dynkin_map.proofs.BoundLaws.{fits-signature}
use Rattle.cbh_calc.proofs.series.cbh.Goals as goal

pub signature_of-requires-clause-fits : goal.signature_of-requires-clause-fits
signature_of-requires-clause-fits c =
    let extent : Extent = c.args.hall.now in
    let shape : IsShape extent = subst IsShape c.requires.shape c.bound.ensures.shape in
    let fits : Fits (lie_bounds extent) (weight c.args.moves.now) = search rules in
    fits-signature extent (weight c.args.moves.now) shape.some_depth shape.within_depth fits

pub returns-clause-expands : goal.returns-clause-expands
returns-clause-expands c =
    subst
    (λ (e : Extent). (word : List ℕ) → IsWord e word → 1 ≤ length word → expanded (expansion (hall_list e.width e.depth)) c.in_ok-log_signature.field-0 word ≡ pos (length word) *ℤ logarithm (signature c.args.moves.now) word)
    c.requires.shape (c.in_ok-log_signature.ensures.expands c.args.moves.now c.in_ok-sig.ensures.stands)

pub returns-clause-members : goal.returns-clause-members
returns-clause-members c =
    subst (λ (e : Extent). All (λ (t : Term). InHall (hall_list e.width e.depth) t.number) c.in_ok-log_signature.field-0) c.requires.shape c.in_ok-log_signature.ensures.members
