use Rattle.std.proofs.Common.{ℕ, ◌≡◌, ◌+◌, List, ◌++◌, length, take, drop, length-take, length-drop, take-append-drop, drop-drop, sym, ap, arith}
use Rattle.std.proofs.lemmas.List.{take_rest, drop_all}
use Rattle.rough_io.proofs.memory_source.MemorySourceSource.read.Goals as goal

-- what was left is the next n bytes, and what is left after them
rest-taken : (bytes : List ℕ) (taken n : ℕ) → drop taken bytes ≡ take n (drop taken bytes) ++ drop (taken + n) bytes
rest-taken bytes taken n = sym (rw drop-drop at (take-append-drop n (drop taken bytes)))

pub returns-clause-bytes : goal.returns-clause-bytes
returns-clause-bytes c =
    let bytes = c.self.inside.bytes.items in
    let taken = c.self.inside.taken in
    let n = c.copy_front-count.result in
    let given = rw (c.deref-2.ensures.value, take_rest) at c.copy_front-count.ensures.front in
    let count = simp (length-take, length-drop) at c.copy_front-count.ensures.count in (
      rw (← c.self.view_is, given) (rest-taken bytes taken n),
      λ none some. drop_all (taken + n) bytes (omega (arith, count, ap length c.deref-2.ensures.value)),
    )
