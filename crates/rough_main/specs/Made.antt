-- The reply that was made of a wish and the bytes of a source, before it is written.
use Rattle.std.specs.Prelude.{◌≡◌, ◌≢◌, ◌+◌, ◌<◌, ◌≤◌, ℕ, true, List, length, drop, Some, None, Result, Err, IfOk, OnOk, IsErrOf}
use Rattle.std.specs.Io.KnownBytes.{IsAtEnd, Keeps}
use Rattle.rough_io.specs.Counts.{Rose}
use Rattle.rough_io.specs.Transfers.{TakesAtMost}
use Rattle.rough_io.specs.declared.source.ReceiveFault.{ReceiveFault}
use Rattle.rough_io.specs.declared.source.ReceiveFault.TheVariants.{Failed, Memory}
use Rattle.command_line.specs.declared.wish.Wish.{Wish}
use Rattle.command_line.specs.declared.wish.Wish.TheVariants as wishes
use Rattle.script_reader.specs.Script.{parse, most_bytes}
use Rattle.cbh_calc.specs.Elements.{moves_in}
use Rattle.session.specs.Logarithms.{LogarithmsExpand}
use Rattle.session.specs.Versions.{VersionsNeverFall}
use Rattle.rough_main.specs.declared.reply.Reply.{Reply}
use Rattle.rough_main.specs.Statuses.{code_of}
use Rattle.rough_main.specs.Elements.{ProductExpands}
use Rattle.rough_main.specs.Due.{DueReply, due_reply, unread_reply, reads_script, IsReply, IsAnswer}
use Rattle.rough_main.specs.Calls.{Port}

-- ---- reading
-- what was received of these bytes: all of them, or more than may be read where there are more
abbrev pub Decides : List ℕ → List ℕ → Type 0
Decides bytes received = (length received ≤ most_bytes → bytes ≡ received) × (most_bytes < length received → most_bytes < length bytes)

-- these bytes were received of a source, up to one more than may be read
pub record IsReceived (received : List ℕ) (source taken : Port) : Type 0 where
  pub decided : (bytes : List ℕ) → source.told ≡ Some bytes → Decides bytes received
  pub whole : length received ≤ most_bytes → IsAtEnd taken.told
  pub size : (bytes : List ℕ) → source.told ≡ Some bytes → most_bytes < length bytes → taken.told ≡ Some (drop (most_bytes + 1) bytes)
  pub takes : TakesAtMost (most_bytes + 1) source.told taken.told
  pub kept : taken.faults ≡ source.faults

-- ---- replies
-- the laws of what is due to a wish and the bytes of a source
pub record IsLawful (wish : Wish) (bytes : List ℕ) : Type 0 where
  pub logarithms : reads_script wish ≡ true → LogarithmsExpand (parse bytes)
  pub versions : reads_script wish ≡ true → VersionsNeverFall (parse bytes)
  pub product : wish ≡ wishes.Cbh → ProductExpands (moves_in bytes)

-- the reply to this wish and the source, whose threads take their steps in this order
pub record IsMade (wish : Wish) (order : List ℕ) (made : Result Reply ReceiveFault) (source taken : Port) : Type 0 where
  pub reply : (bytes : List ℕ) → source.told ≡ Some bytes → IfOk made (λ r. IsReply (code_of r.status) r.text.items (due_reply wish bytes order))
  pub laws : (bytes : List ℕ) → source.told ≡ Some bytes → OnOk made (IsLawful wish bytes)
  pub status : IfOk made (λ r. IsAnswer (code_of r.status))
  pub refused : IfOk made (λ r. code_of r.status ≡ 2 → wish ≡ wishes.Refused)
  pub whole : unread_reply wish ≡ None → IfOk made (λ r. code_of r.status ≡ 0 → IsAtEnd taken.told)
  pub size : (bytes : List ℕ) → source.told ≡ Some bytes → most_bytes < length bytes → IfOk made (λ r. code_of r.status ≡ 3 → taken.told ≡ Some (drop (most_bytes + 1) bytes))
  pub unread : (due : DueReply) → unread_reply wish ≡ Some due → (made ≢ Err Failed) × Keeps source.told taken.told × (taken.faults ≡ source.faults)
      × IfOk made (λ r. IsReply (code_of r.status) r.text.items due)
  pub takes : TakesAtMost (most_bytes + 1) source.told taken.told
  pub failed : IsErrOf made Failed → Rose source.faults taken.faults
  pub memory : IsErrOf made Memory → taken.faults ≡ source.faults
  pub ok : OnOk made (taken.faults ≡ source.faults)
