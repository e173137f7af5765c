-- All words of fewer than k letters.
use Rattle.std.specs.Prelude.{ℕ, zero, suc, List, [], ◌++◌}
use Rattle.definitions.specs.Words.{words_of}

-- the words of fewer than k letters, by length and then in lexicographic order
abbrev pub words_below : ℕ → ℕ → List (List ℕ)
words_below width zero = []
words_below width (suc k) = words_below width k ++ words_of width k
