-- What a call of the program does to a source and a sink.
use Rattle.std.specs.Prelude.{◌≡◌, ◌⊎◌, ◌+◌, ◌<◌, ℕ, true, List, length, drop, Option, Some, None}
use Rattle.std.specs.Io.KnownBytes.{Appends, IsAtEnd, Keeps}
use Rattle.rough_io.specs.Counts.{Rose}
use Rattle.rough_io.specs.Transfers.{AddsPrefix, TakesAtMost}
use Rattle.command_line.specs.declared.wish.Wish.{Wish}
use Rattle.command_line.specs.declared.wish.Wish.TheVariants.{Refused, Cbh}
use Rattle.script_reader.specs.Script.{parse, most_bytes}
use Rattle.cbh_calc.specs.Elements.{moves_in}
use Rattle.session.specs.Logarithms.{LogarithmsExpand}
use Rattle.session.specs.Versions.{VersionsNeverFall}
use Rattle.rough_main.specs.declared.status.Status.TheVariants as statuses
use Rattle.rough_main.specs.Statuses.{code_of}
use Rattle.rough_main.specs.Elements.{ProductExpands}
use Rattle.rough_main.specs.Due.{DueReply, due_reply, unread_reply, reads_script, IsAnswer}

-- the bytes that a source has left or that a sink was given, where they are told, and the count of faults
pub record Port : Type 0 where
  pub told : Option (List ℕ)
  pub faults : ℕ

-- reading failed
abbrev pub read_failed : ℕ
read_failed = code_of statuses.ReadFailed

-- writing failed
abbrev pub write_failed : ℕ
write_failed = code_of statuses.WriteFailed

-- memory was wanting
abbrev pub no_memory : ℕ
no_memory = code_of statuses.NoMemory

-- A call with this wish, whose threads, where it has any, take their steps in this order. The source was `source` and is `taken`, the sink
-- was `sink` and is `given`.
pub record IsCall (wish : Wish) (order : List ℕ) (status : ℕ) (source taken sink given : Port) : Type 0 where
  pub statuses : IsAnswer status ⊎ (status ≡ read_failed) ⊎ (status ≡ write_failed) ⊎ (status ≡ no_memory)
  -- from the bytes that the source had left to the bytes that the sink was given
  pub answered : IsAnswer status → (bytes : List ℕ) → source.told ≡ Some bytes → (status ≡ (due_reply wish bytes order).status) × Appends sink.told given.told (due_reply wish bytes order).text
  -- the Hall coordinates in the answers to a script, expanded by brackets, are exactly the logarithms
  pub logarithms : status ≡ 0 → reads_script wish ≡ true → (bytes : List ℕ) → source.told ≡ Some bytes → LogarithmsExpand (parse bytes)
  -- the versions of its answers never fall, those of queries that name one left out
  pub versions : status ≡ 0 → reads_script wish ≡ true → (bytes : List ℕ) → source.told ≡ Some bytes → VersionsNeverFall (parse bytes)
  -- those of a list of elements are exactly the logarithm of the product of the exponentials in the list's order
  pub product : status ≡ 0 → wish ≡ Cbh → (bytes : List ℕ) → source.told ≡ Some bytes → ProductExpands (moves_in bytes)
  pub faultless : IsAnswer status → (taken.faults ≡ source.faults) × (given.faults ≡ sink.faults)
  -- without a fault the due reply is written, or memory is wanting
  pub complete : ¬ (Rose source.faults taken.faults) → ¬ (Rose sink.faults given.faults) → (bytes : List ℕ) → source.told ≡ Some bytes → (status ≡ (due_reply wish bytes order).status) ⊎ (status ≡ no_memory)
  -- what was read
  pub whole : status ≡ 0 → unread_reply wish ≡ None → IsAtEnd taken.told
  pub size : (bytes : List ℕ) → source.told ≡ Some bytes → most_bytes < length bytes → status ≡ 3 → taken.told ≡ Some (drop (most_bytes + 1) bytes)
  pub takes : TakesAtMost (most_bytes + 1) source.told taken.told
  -- where nothing is to be read, nothing is, and the due reply is written, or a prefix of it, whatever the source has
  pub refused : status ≡ 2 → wish ≡ Refused
  pub unread : (due : DueReply) → unread_reply wish ≡ Some due → Keeps source.told taken.told × (taken.faults ≡ source.faults)
      × (((status ≡ due.status) × Appends sink.told given.told due.text) ⊎ ((status ≡ write_failed) × AddsPrefix due.text sink.told given.told) ⊎ (status ≡ no_memory))
  -- faults, each only with its cause
  pub source_failed : status ≡ read_failed → Rose source.faults taken.faults × Keeps sink.told given.told × (given.faults ≡ sink.faults)
  pub sink_failed : status ≡ write_failed → (taken.faults ≡ source.faults) × Rose sink.faults given.faults
      × ((bytes : List ℕ) → source.told ≡ Some bytes → AddsPrefix (due_reply wish bytes order).text sink.told given.told)
  pub memory_wanting : status ≡ no_memory → Keeps sink.told given.told × (taken.faults ≡ source.faults) × (given.faults ≡ sink.faults)
