-- The queries that a line for a partition says.
use Rattle.std.proofs.Common.{◌≡◌, ℕ, ◌≤◌, true, nat_le, List, [], ◌∷◌, length, drop, refl, arith, All}
use Rattle.std.specs.Prelude.{nat_lt, ◌^◌}
use Rattle.std.proofs.lemmas.Bool.{ltb-true, le-leb}
use Rattle.std.proofs.lemmas.Bool.Decides.{nat_tests}
use Rattle.std.proofs.lemmas.List.Elements.{All-nil, All-cons, All-head, All-tail}
use Rattle.definitions.specs.Words.{Extent}
use Rattle.spellings.specs.Numbers.{value_of}
use Rattle.script_reader.specs.declared.command.Kind.TheVariants as kinds
use Rattle.script_reader.specs.declared.command.Command.{Command}
use Rattle.script_reader.specs.declared.said.Said.TheVariants as sayings
use Rattle.script_reader.specs.declared.tally.Tally.{Tally}
use Rattle.script_reader.specs.Fields.{field, is_number, is_version, are_ticks, ticks_of}
use Rattle.script_reader.specs.Forms.{rises_from, query_over, queries_from, partition_queries, parts_form}
use Rattle.script_reader.specs.Limits.{named}
use Rattle.script_reader.specs.Script.{IsCommand}
use Rattle.script_reader.specs.Reading.{IsOfForm}
use Rattle.script_reader.proofs.Fields.{ticks_of-within}

-- ticks that rise: the first of them, and the others
rises-split : (from to : ℕ) (ticks : List ℕ) → rises_from from (to ∷ ticks) ≡ true → (from ≤ to) × (rises_from to ticks ≡ true)
rises-split from to ticks e = grind (arith, nat_tests)

-- queries over intervals between rising ticks are within the limits
queries-good : (extent : Extent) (r version start from : ℕ) (ticks : List ℕ) → r ≤ 16 → start ≤ from → from ≤ 2 ^ 32 → rises_from from ticks ≡ true → All (λ t. t ≤ 2 ^ 32) ticks
    → All (IsCommand extent) (queries_from r version start from ticks)
queries-good extent r version start from [] coarse forward within rise all =
    All-cons (IsCommand extent) (query_over r version kinds.Sig start from) [] (record { forward = forward; within = within; resolution = coarse }) (All-nil (IsCommand extent))
queries-good extent r version start from (to ∷ ticks) coarse forward within rise all =
    let rises = rises-split from to ticks rise in
    let end : to ≤ 2 ^ 32 = All-head (λ t. t ≤ 2 ^ 32) to ticks all in
    All-cons (IsCommand extent) (query_over r version kinds.Log from to) (queries_from r version start to ticks) (record { forward = rises.0; within = end; resolution = coarse })
    (queries-good extent r version start to ticks coarse (omega (arith, forward, rises.0)) end rises.1 (All-tail (λ t. t ≤ 2 ^ 32) to ticks all))

partition-good : (extent : Extent) (r version : ℕ) (ticks : List ℕ) → r ≤ 16 → rises_from 0 ticks ≡ true → All (λ t. t ≤ 2 ^ 32) ticks → All (IsCommand extent) (partition_queries r version ticks)
partition-good extent r version [] coarse rise all = All-nil (IsCommand extent)
partition-good extent r version (start ∷ ticks) coarse rise all =
    queries-good extent r version start start ticks coarse (omega arith) (All-head (λ t. t ≤ 2 ^ 32) start ticks all) (rises-split 0 start ticks rise).1 (All-tail (λ t. t ≤ 2 ^ 32) start ticks all)

-- the words of a good line for a partition
pub record IsPartition (words : List (List ℕ)) (r version : ℕ) (ticks : List ℕ) : Type 0 where
  -- there are at least five words
  pub some : 5 ≤ length words
  -- and at most 68
  pub few : length words ≤ 68
  -- the second one is a plain number
  pub numbered : is_number (field 1 words) ≡ true
  -- the third one is a version
  pub versioned : is_version (field 2 words) ≡ true
  -- the others are times
  pub timed : are_ticks 4294967296 (drop 3 words) ≡ true
  -- the number is the resolution
  pub resolution : r ≡ value_of (field 1 words)
  -- the version is the one named
  pub version_is : version ≡ value_of (field 2 words)
  -- the ticks are those of the times
  pub ticks_are : ticks ≡ ticks_of 4294967296 (drop 3 words)
  -- none exceeds the next one
  pub rise : rises_from 0 ticks ≡ true
  -- the resolution is at most 16
  pub coarse : r ≤ 16

-- such words say the queries of the partition
pub partition_reads : (before : Tally) (words : List (List ℕ)) (r version : ℕ) (ticks : List ℕ) (queries : List Command) → nat_lt 0 before.sessions ≡ true → IsPartition words r version ticks
    → queries ≡ partition_queries r version ticks → IsOfForm parts_form before words (sayings.Commands queries)
partition_reads before words r version ticks queries opened p is =
    let some : nat_le 5 (length words) ≡ true = le-leb 5 (length words) p.some in
    let few : nat_le (length words) 68 ≡ true = le-leb (length words) 68 p.few in
    let rise : rises_from 0 (ticks_of 4294967296 (drop 3 words)) ≡ true = rw (← p.ticks_are) p.rise in
    let coarse : nat_le (value_of (field 1 words)) 16 ≡ true = rw (← p.resolution) (le-leb r 16 p.coarse) in
    record {
      good = rw (opened, some, few, p.numbered, p.versioned, p.timed, rise, coarse) refl;
      next = (ltb-true 0 before.sessions opened, rw (is, p.ticks_are) (partition-good (named before.shape) r version (ticks_of 4294967296 (drop 3 words)) p.coarse rise (ticks_of-within 4294967296 (drop 3 words))));
      says = rw (is, p.ticks_are, p.resolution, p.version_is) refl;
    }
