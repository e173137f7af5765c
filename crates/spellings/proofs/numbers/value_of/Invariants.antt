-- The value is that of the digits so far, and below the power of ten of their number.
use Rattle.std.proofs.Common.{◌≡◌, ◌<◌, ◌^◌, take}
use Rattle.spellings.specs.Numbers.{value_of}
use Rattle.spellings.proofs.numbers.value_of.Given as goal

abbrev pub invariant-loop-byte : goal.invariant-loop-byte
invariant-loop-byte l = record { value : l.value ≡ value_of (take l.byte-index l.word); room : l.value < 10 ^ l.byte-index }
