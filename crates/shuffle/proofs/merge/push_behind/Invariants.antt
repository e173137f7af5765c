use Rattle.std.proofs.Common.{◌≡◌, ◌++◌, ◌∷◌, map, take}
use Rattle.shuffle.proofs.merge.push_behind.Given as goal

abbrev pub invariant-loop-word : goal.invariant-loop-word
invariant-loop-word l = l.list.items ≡ l.fn.list.items ++ map (λ w. l.fn.letter ∷ w) (take l.word-index l.words)
