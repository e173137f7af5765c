-- One watch more.
use Rattle.std.proofs.Common.{◌≡◌, ◌∙◌, ℕ, ◌+◌, ◌-◌, ◌<◌, ap, ap₂, arith, List, ◌++◌, length, take}
use Rattle.std.proofs.lemmas.List.{take_more, length-take-le}
use Rattle.versions.specs.declared.log.Accepted.{Accepted}
use Rattle.watches.specs.declared.interval.Interval.{Interval}
use Rattle.watches.specs.Spans.{interval_at}
use Rattle.answers.specs.Watched.{watch_text, watches_text}
use Rattle.answers.proofs.NumberedTexts.{numbered-push}

-- the line of the next watch follows those of the watches before it
pub watches-more : (edits : List Accepted) (watches : List Interval) (i : ℕ) → i < length watches
    → watches_text edits 1 (take (i + 1) watches) ≡ watches_text edits 1 (take i watches) ++ watch_text edits (i + 1) (interval_at watches (i + 1 - 1))
watches-more edits watches i within =
    let count : 1 + length (take i watches) ≡ i + 1 = omega (arith, length-take-le i watches (omega arith)) in
    let place : i ≡ i + 1 - 1 = omega arith in
    ap (watches_text edits 1) (take_more watches i (record { from = 0; to = 0 }) within)
    ∙ numbered-push (watch_text edits) 1 (take i watches) (interval_at watches i)
    ∙ ap₂ (λ (n j : ℕ). watches_text edits 1 (take i watches) ++ watch_text edits n (interval_at watches j)) count place
