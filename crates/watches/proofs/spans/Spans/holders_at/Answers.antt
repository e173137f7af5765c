use Rattle.std.specs.declared.alloc.Global.{Global}
use Rattle.std.proofs.Common.{◌≡◌, ◌∙◌, ℕ, ◌+◌, ◌<◌, ◌≤◌, sym, ap, subst, List, length, get_or, slice_index, Vec}
use Rattle.watches.specs.declared.interval.Interval.{Interval}
use Rattle.watches.specs.Spans.{AreHolders}
use Rattle.watches.proofs.spans.Spans.holders_at.Goals as goal

pub returns : goal.returns
returns c =
    let cuts : c.deref.result.now ≡ c.self.inside.cuts.items = c.deref.ensures.value in
    let k = c.place_of.result in
    let tick = c.args.tick in
    let at = c.index.result.now in
    let here : k < length c.self.inside.cuts.items = subst (λ (l : List ℕ). k < length l) cuts c.place_of.ensures.within in
    let from : slice_index c.self.inside.cuts.items k ≤ tick = subst (λ (l : List ℕ). slice_index l k ≤ tick) cuts c.place_of.ensures.from in
    let to = subst (λ (l : List ℕ). k + 1 < length l → tick < slice_index l (k + 1)) cuts c.place_of.ensures.to in
    let is : (get_or c.self.inside.holders.items k at).items ≡ c.deref-2.result.now = ap (λ (v : Vec ℕ Global). v.items) (sym c.index.ensures) ∙ sym c.deref-2.ensures.value in
    subst (λ (xs : List Interval). AreHolders xs tick c.deref-2.result.now) c.self.view_is
    (subst (λ (l : List ℕ). AreHolders c.self.inside.intervals.items tick l) is (c.self.invariant.held k tick at here from to))
