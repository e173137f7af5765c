use Rattle.std.proofs.Common.{◌≡◌, length, length-take, take, ap, sym, ◌∙◌, subst, arith}
use Rattle.std.specs.Prelude.{IfSome, IfNone}
use Rattle.definitions.specs.Moves.{AreParts, IsMove, padded}
use Rattle.script_reader.specs.Coordinates.{cut_from, AreEnds}
use Rattle.script_reader.proofs.Degrees.{degree_counts-length, degree_with-Some, degree-ends, parts-make, lie_move-of}
use Rattle.script_reader.proofs.coordinates.lie_move.Goals as goal

pub slice_bounds-cut-end : goal.slice_bounds-cut-end
slice_bounds-cut-end c =
    let d = degree_with-Some c.args.shape (length c.args.coordinates.items) c.args.degree c.requires.due in
    omega (arith, d.within, degree_counts-length c.args.shape, ap length c.requires.counted, length-take c.args.degree c.args.counts.now)

pub cut-requires : goal.cut-requires
cut-requires c =
    let d = degree_with-Some c.args.shape (length c.args.coordinates.items) c.args.degree c.requires.due in
    subst (λ counts. AreEnds 0 (take c.args.degree counts) (length c.args.coordinates.items)) (sym c.requires.counted) (degree-ends c.args.shape (length c.args.coordinates.items) c.args.degree d)

pub unreachable-requires : goal.unreachable-requires
unreachable-requires c =
    let d = degree_with-Some c.args.shape (length c.args.coordinates.items) c.args.degree c.requires.due in
    let same = c.in_ok-parts.ensures ∙ ap (λ counts. cut_from 0 (take c.args.degree counts) c.args.coordinates.items) c.requires.counted in
    let refused : AreParts c.args.shape c.in_ok-parts.parts.items → ⊥ = subst (λ made. IfNone made (AreParts c.args.shape c.in_ok-parts.parts.items → ⊥)) c.in-None.is c.in_ok-x.ensures.refused in
    refused (subst (AreParts c.args.shape) (sym same) (parts-make c.args.shape c.args.degree c.args.coordinates.items c.depth-depth.ensures.shape d))

pub returns : goal.returns
returns c =
    let given : IsMove c.args.shape c.in-Some.x × (c.in-Some.x ≡ padded c.args.shape.depth c.in_ok-parts.parts.items) =
    subst (λ made. IfSome made (λ m. IsMove c.args.shape m × (m ≡ padded c.args.shape.depth c.in_ok-parts.parts.items))) c.in-Some.is c.in_ok-x.ensures.given in (
      given.0,
      lie_move-of c.args.shape c.args.counts.now c.args.coordinates.items c.args.degree c.in_ok-parts.parts.items c.in-Some.x c.requires.counted c.requires.due c.in_ok-parts.ensures given.1,
    )
