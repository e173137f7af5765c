use Rattle.std.proofs.Common.{◌≡◌, ◌∙◌, ◌≤◌, length, arith, ap, sym, subst}
use Rattle.dyadic.specs.Nodes.{low_of, high_of}
use Rattle.timeline.specs.Moments.{since as timeline_since}
use Rattle.timeline.specs.Pasts.{PastValue}
use Rattle.versions.specs.Versions.{LogValue, since as since_version}
use Rattle.versions.specs.Pasts.{past_of_log}
use Rattle.versions.proofs.Pasts.{count-same, since-same}
use Rattle.versions.proofs.log.EditLog.since.Goals as goal

pub since-requires : goal.since-requires
since-requires c =
    let edits = c.self.inside.edits.items in
    let past : c.self.inside.line ≡ past_of_log edits = c.self.invariant.past in
    let within : c.args.v ≤ length edits = subst (λ (l : LogValue). c.args.v ≤ length l.edits) (sym c.self.view_is) c.requires in
    omega (arith, within, ap (λ (p : PastValue). length p.ticks) past, count-same edits)

pub returns : goal.returns
returns c =
    let edits = c.self.inside.edits.items in
    let past : c.self.inside.line ≡ past_of_log edits = c.self.invariant.past in
    let a = low_of c.args.node in let b = high_of c.args.node in
    let within : c.args.v ≤ length edits = subst (λ (l : LogValue). c.args.v ≤ length l.edits) (sym c.self.view_is) c.requires in
    c.since.ensures ∙ ap (λ (p : PastValue). timeline_since a b p.ticks c.args.v) past ∙ since-same a b edits c.args.v within ∙ ap (λ (l : LogValue). since_version a b l.edits c.args.v) c.self.view_is
