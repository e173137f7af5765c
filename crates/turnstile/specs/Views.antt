-- What a pass knows, and what it then knows of a value.
use Rattle.std.specs.Prelude.{◌≡◌, ℕ, false, List, [], All}
use mathlib.Core.List.{IsPrefix}
use Rattle.turnstile.specs.declared.view.PassView.{PassView}
use Rattle.turnstile.specs.Entries.{of_label}

-- a pass that has added nothing
abbrev pub new_pass : {E : Type 0} → ℕ → List ℕ → List E → PassView E
new_pass label frame seen = record { label = label; frame = frame; seen = seen; own = []; turn = false; taken = []; splits = 0; joined = [] }

-- the value goes on from what the pass knows: it has the frame and begins with all that the pass had seen, and the entries with the label of the pass, or with that of a joined one, are those that this pass added
pub record Continues {K E : Type 0} (entries : K → List E) (label : E → ℕ) (frame : K → List ℕ) (v : PassView E) (k : K) : Type 0 where
  pub framed : frame k ≡ v.frame
  pub seen : IsPrefix v.seen (entries k)
  pub own : of_label label v.label (entries k) ≡ v.own
  pub joined : All (λ j. of_label label j.0 (entries k) ≡ j.1) v.joined
