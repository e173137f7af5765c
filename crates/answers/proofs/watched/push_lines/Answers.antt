use Rattle.std.proofs.Common.{◌≡◌, ◌∙◌, ◌+◌, ◌-◌, ◌++◌, ℕ, List, sym, ap, arith, append_assoc, take, string_bytes, codes}
use Rattle.std.specs.Fmt.{decimal}
use Rattle.versions.specs.declared.log.Accepted.{Accepted}
use Rattle.watches.specs.declared.interval.Interval.{Interval}
use Rattle.watches.specs.Spans.{interval_at}
use Rattle.watches.specs.Watches.{touching}
use Rattle.answers.specs.Watched.{numbers_text, watch_text, watches_text}
use Rattle.answers.proofs.WatchLines.{watches-more}
use Rattle.answers.proofs.watched.push_lines.Goals as goal

-- a text, and a line from its parts after it
joined : (t a b c d e : List ℕ) → (t ++ (a ++ (b ++ c))) ++ d ++ e ≡ t ++ (a ++ b ++ c ++ d ++ e)
joined t a b c d e = simp append_assoc

pub loop-before-preserved : goal.loop-before-preserved
loop-before-preserved c =
    let start : List ℕ = string_bytes c.args.text.now in
    let text : List ℕ = string_bytes c.loop-before.text in
    let edits : List Accepted = c.args.watches.now.log.edits in
    let watches : List Interval = c.args.watches.now.intervals in
    let i : ℕ = c.loop-before.before in
    let watch : Interval = interval_at watches (i + 1 - 1) in
    let head : string_bytes c.write.new.self ≡ text ++ (codes "watch " ++ (decimal (i + 1) ++ codes " versions ")) = c.in_ok-write.ensures.bytes in
    let numbers : string_bytes c.push_listed.new.text ≡ string_bytes c.write.new.self ++ numbers_text (touching watch.from watch.to edits) =
    c.in_ok-push_listed.ensures ∙ ap (λ (ns : List ℕ). string_bytes c.write.new.self ++ numbers_text ns) c.versions_of.ensures in
    let line : string_bytes c.push_str.new.self ≡ text ++ watch_text edits (i + 1) watch =
    c.in_ok-push_str.ensures.bytes
    ∙ ap (λ (t : List ℕ). t ++ codes "\n") (numbers ∙ ap (λ (t : List ℕ). t ++ numbers_text (touching watch.from watch.to edits)) head)
    ∙ joined text (codes "watch ") (decimal (i + 1)) (codes " versions ") (numbers_text (touching watch.from watch.to edits)) (codes "\n") in
    line
    ∙ ap (λ (t : List ℕ). t ++ watch_text edits (i + 1) watch) c.loop-before.invariant
    ∙ append_assoc start (watches_text edits 1 (take i watches)) (watch_text edits (i + 1) watch)
    ∙ ap (λ (t : List ℕ). start ++ t) (sym (watches-more edits watches i (omega arith)))
