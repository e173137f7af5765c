use Rattle.std.proofs.Common.{rules, ◌≡◌, ◌+◌, ◌∙◌, ℕ, suc, ap, arith, get_or, string_bytes, add-one}
use Rattle.std.proofs.lemmas.List.{get_or_default}
use Rattle.answers.proofs.PieceLaws.{IsPiece, piece-at}
use Rattle.answers.proofs.texts.Texts.get.Goals as goal

pub index-requires : goal.index-requires
index-requires c =
    let p : IsPiece (string_bytes c.self.inside.bytes) c.self.inside.places.items c.args.i = piece-at _ _ c.args.i c.self.invariant (rw c.self.view_is c.requires) in
    search (rules, p.within)

pub overflow_add-i : goal.overflow_add-i
overflow_add-i c =
    let p : IsPiece (string_bytes c.self.inside.bytes) c.self.inside.places.items c.args.i = piece-at _ _ c.args.i c.self.invariant (rw c.self.view_is c.requires) in
    search (rules, p.within)

pub index-requires-2 : goal.index-requires-2
index-requires-2 c =
    let p : IsPiece (string_bytes c.self.inside.bytes) c.self.inside.places.items c.args.i = piece-at _ _ c.args.i c.self.invariant (rw c.self.view_is c.requires) in
    search (rules, p.within)

pub range-requires-clause-start_le_end : goal.range-requires-clause-start_le_end
range-requires-clause-start_le_end c =
    let p : IsPiece (string_bytes c.self.inside.bytes) c.self.inside.places.items c.args.i = piece-at _ _ c.args.i c.self.invariant (rw c.self.view_is c.requires) in
    let from : c.index.result.now ≡ get_or c.self.inside.places.items c.args.i 0 = c.index.ensures ∙ get_or_default c.self.inside.places.items c.args.i c.index.result.now 0 (omega (arith, p.within)) in
    let to : c.index-2.result.now ≡ get_or c.self.inside.places.items (suc c.args.i) 0 = c.index-2.ensures ∙ get_or_default c.self.inside.places.items (c.args.i + 1) c.index-2.result.now 0 (omega (arith, p.within)) ∙ ap (λ (j : ℕ). get_or c.self.inside.places.items j 0) (add-one c.args.i) in
    rw (from, to) p.rising

pub range-requires-clause-start_boundary : goal.range-requires-clause-start_boundary
range-requires-clause-start_boundary c =
    let p : IsPiece (string_bytes c.self.inside.bytes) c.self.inside.places.items c.args.i = piece-at _ _ c.args.i c.self.invariant (rw c.self.view_is c.requires) in
    let from : c.index.result.now ≡ get_or c.self.inside.places.items c.args.i 0 = c.index.ensures ∙ get_or_default c.self.inside.places.items c.args.i c.index.result.now 0 (omega (arith, p.within)) in
    let to : c.index-2.result.now ≡ get_or c.self.inside.places.items (suc c.args.i) 0 = c.index-2.ensures ∙ get_or_default c.self.inside.places.items (c.args.i + 1) c.index-2.result.now 0 (omega (arith, p.within)) ∙ ap (λ (j : ℕ). get_or c.self.inside.places.items j 0) (add-one c.args.i) in
    λ _. rw (from, c.as_str.ensures.value) p.from

pub range-requires-clause-end_boundary : goal.range-requires-clause-end_boundary
range-requires-clause-end_boundary c =
    let p : IsPiece (string_bytes c.self.inside.bytes) c.self.inside.places.items c.args.i = piece-at _ _ c.args.i c.self.invariant (rw c.self.view_is c.requires) in
    let from : c.index.result.now ≡ get_or c.self.inside.places.items c.args.i 0 = c.index.ensures ∙ get_or_default c.self.inside.places.items c.args.i c.index.result.now 0 (omega (arith, p.within)) in
    let to : c.index-2.result.now ≡ get_or c.self.inside.places.items (suc c.args.i) 0 = c.index-2.ensures ∙ get_or_default c.self.inside.places.items (c.args.i + 1) c.index-2.result.now 0 (omega (arith, p.within)) ∙ ap (λ (j : ℕ). get_or c.self.inside.places.items j 0) (add-one c.args.i) in
    rw (to, c.as_str.ensures.value) p.to

pub returns : goal.returns
returns c =
    let p : IsPiece (string_bytes c.self.inside.bytes) c.self.inside.places.items c.args.i = piece-at _ _ c.args.i c.self.invariant (rw c.self.view_is c.requires) in
    let from : c.index.result.now ≡ get_or c.self.inside.places.items c.args.i 0 = c.index.ensures ∙ get_or_default c.self.inside.places.items c.args.i c.index.result.now 0 (omega (arith, p.within)) in
    let to : c.index-2.result.now ≡ get_or c.self.inside.places.items (suc c.args.i) 0 = c.index-2.ensures ∙ get_or_default c.self.inside.places.items (c.args.i + 1) c.index-2.result.now 0 (omega (arith, p.within)) ∙ ap (λ (j : ℕ). get_or c.self.inside.places.items j 0) (add-one c.args.i) in
    c.range.ensures.value ∙ (rw (from, to, c.as_str.ensures.value, ← c.self.view_is) p.piece_is)
