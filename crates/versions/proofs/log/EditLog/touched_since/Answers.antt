use Rattle.std.specs.Prelude.{Option, Some, None, IfSome, IfNone}
use Rattle.std.proofs.lemmas.Option.{IfSome_then}
use Rattle.std.proofs.Common.{◌≡◌, ◌<◌, ◌≤◌, ℕ, length, arith, ap, sym, subst, false}
use Rattle.dyadic.specs.Nodes.{low_of, high_of}
use Rattle.timeline.specs.Moments.{IsFirstAfter, since as timeline_since}
use Rattle.timeline.specs.Pasts.{PastValue}
use Rattle.versions.specs.Versions.{LogValue, IsFirstTouch, touched}
use Rattle.versions.specs.Pasts.{past_of_log}
use Rattle.versions.proofs.Pasts.{count-same, first-same, none-after}
use Rattle.versions.proofs.log.EditLog.touched_since.Goals as goal

if-none-then : (r : Option ℕ) {P Q : Type 0} → IfNone r P → (P → Q) → IfNone r Q
if-none-then None h f = f h
if-none-then (Some x) h f = tt

pub touched_since-requires : goal.touched_since-requires
touched_since-requires c =
    let edits = c.self.inside.edits.items in
    let past : c.self.inside.line ≡ past_of_log edits = c.self.invariant.past in
    let within : c.args.v ≤ length edits = subst (λ (l : LogValue). c.args.v ≤ length l.edits) (sym c.self.view_is) c.requires in
    omega (arith, within, ap (λ (p : PastValue). length p.ticks) past, count-same edits)

pub returns-clause-some : goal.returns-clause-some
returns-clause-some c =
    let edits = c.self.inside.edits.items in
    let past : c.self.inside.line ≡ past_of_log edits = c.self.invariant.past in
    let a = low_of c.args.node in let b = high_of c.args.node in
    subst (λ (l : LogValue). IfSome c.touched_since.result (λ t. IsFirstTouch a b l.edits c.args.v t)) c.self.view_is
    (IfSome_then c.touched_since.result c.touched_since.ensures.some (λ t f. first-same a b edits c.args.v t (subst (λ (p : PastValue). IsFirstAfter a b p.ticks c.args.v t) past f)))

pub returns-clause-none : goal.returns-clause-none
returns-clause-none c =
    let edits = c.self.inside.edits.items in
    let past : c.self.inside.line ≡ past_of_log edits = c.self.invariant.past in
    let a = low_of c.args.node in let b = high_of c.args.node in
    subst (λ (l : LogValue). IfNone c.touched_since.result ((t : ℕ) → c.args.v < t → t ≤ length l.edits → touched a b l.edits t ≡ false)) c.self.view_is
    (if-none-then c.touched_since.result c.touched_since.ensures.none (λ h. none-after a b edits c.args.v (subst (λ (p : PastValue). timeline_since a b p.ticks (length p.ticks) ≤ c.args.v) past h)))
