use Rattle.std.proofs.Common.{◌≡◌, ◌≤◌, ◌<◌, ◌+◌, ◌∙◌, ap, ap₂, sym, arith, length}
use Rattle.definitions.specs.Hall.{degree, degree_of}
use Rattle.hall_set.proofs.Searches.{list-IsHall, list-short, list-degree, number-at_place, no-number-at_place, no-number-past, no-number-left, no-number-right}
use Rattle.hall_set.proofs.search.find_pair.Goals as goal

pub returns-in_err-member_at : goal.returns-in_err-member_at
returns-in_err-member_at c = rw c.from_residual.ensures (no-number-left c.requires.0.depth c.args.members.now (list-IsHall c.args.members.now c.requires) c.args.i c.args.j c.in_err-member_at.ensures)

pub returns-in_err-member_at-2 : goal.returns-in_err-member_at-2
returns-in_err-member_at-2 c =
    rw c.from_residual-in_err-member_at-2.ensures (no-number-right c.requires.0.depth c.args.members.now (list-IsHall c.args.members.now c.requires) c.args.i c.args.j c.in_err-member_at-2.ensures)

pub overflow_add-n : goal.overflow_add-n
overflow_add-n c =
    let left : degree c.args.members.now c.args.i ≤ 8 = list-degree c.args.members.now c.requires c.args.i c.in_ok-member_at.ensures.0 in
    let right : degree c.args.members.now c.args.j ≤ 8 = list-degree c.args.members.now c.requires c.args.j c.in_ok-member_at-2.ensures.0 in
    omega (arith, left, right, c.degree.ensures ∙ ap degree_of c.in_ok-member_at.ensures.1, c.degree-2.ensures ∙ ap degree_of c.in_ok-member_at-2.ensures.1)

pub returns-in_err-get : goal.returns-in_err-get
returns-in_err-get c =
    let sum : c.degree.result + c.degree-2.result ≡ degree c.args.members.now c.args.i + degree c.args.members.now c.args.j =
    ap₂ ◌+◌ (c.degree.ensures ∙ ap degree_of c.in_ok-member_at.ensures.1) (c.degree-2.ensures ∙ ap degree_of c.in_ok-member_at-2.ensures.1) in
    rw c.from_residual-in_err-get.ensures
    (no-number-past c.requires.0.depth c.args.members.now (list-IsHall c.args.members.now c.requires) (c.degree.result + c.degree-2.result) c.args.i c.args.j c.place_of-at.result sum c.place_of-at.ensures
    c.in_err-get.ensures.lookup.3)

pub overflow_cast-result : goal.overflow_cast-result
overflow_cast-result c =
    let read : (c.place_of-at.result < length c.args.members.now) × ((d : _) → c.in_ok-get.field-0.now ≡ _) = c.in_ok-get.ensures.lookup.3 in
    omega (arith, read.0, list-short c.args.members.now c.requires)

pub overflow_add-result : goal.overflow_add-result
overflow_add-result c =
    let read : (c.place_of-at.result < length c.args.members.now) × ((d : _) → c.in_ok-get.field-0.now ≡ _) = c.in_ok-get.ensures.lookup.3 in
    omega (arith, read.0, list-short c.args.members.now c.requires)

pub returns-then-is_pair : goal.returns-then-is_pair
returns-then-is_pair c =
    let sum : c.degree.result + c.degree-2.result ≡ degree c.args.members.now c.args.i + degree c.args.members.now c.args.j =
    ap₂ ◌+◌ (c.degree.ensures ∙ ap degree_of c.in_ok-member_at.ensures.1) (c.degree-2.ensures ∙ ap degree_of c.in_ok-member_at-2.ensures.1) in
    number-at_place c.requires.0.depth c.args.members.now (list-IsHall c.args.members.now c.requires) (c.degree.result + c.degree-2.result) c.args.i c.args.j c.place_of-at.result c.in_ok-get.field-0.now sum
    c.place_of-at.ensures c.in_ok-get.ensures.lookup.3.0 (c.in_ok-get.ensures.lookup.3.1 c.in_ok-get.field-0.now) (sym c.if-is_pair.ensures)

pub returns-else-is_pair : goal.returns-else-is_pair
returns-else-is_pair c =
    let sum : c.degree.result + c.degree-2.result ≡ degree c.args.members.now c.args.i + degree c.args.members.now c.args.j =
    ap₂ ◌+◌ (c.degree.ensures ∙ ap degree_of c.in_ok-member_at.ensures.1) (c.degree-2.ensures ∙ ap degree_of c.in_ok-member_at-2.ensures.1) in
    no-number-at_place c.requires.0.depth c.args.members.now (list-IsHall c.args.members.now c.requires) (c.degree.result + c.degree-2.result) c.args.i c.args.j c.place_of-at.result c.in_ok-get.field-0.now sum
    c.place_of-at.ensures (c.in_ok-get.ensures.lookup.3.1 c.in_ok-get.field-0.now) (sym c.if-is_pair.ensures)
