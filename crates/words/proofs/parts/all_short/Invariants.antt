use Rattle.std.proofs.Common.{◌<◌, ◌^◌, All, length, take}
use Rattle.words.proofs.parts.all_short.Given as goal

abbrev pub invariant-loop-part : goal.invariant-loop-part
invariant-loop-part l = All (λ part. length part < 2 ^ 32) (take l.part-index l.parts)
