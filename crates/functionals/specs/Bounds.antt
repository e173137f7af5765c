-- Which weights a functional may be evaluated at, as far as its masses tell.
use Rattle.std.specs.Prelude.{ℕ, suc, ◌*◌, ◌^◌, ◌/◌, ◌≤◌, List, map, max}
use Rattle.definitions.specs.Words.{Extent, factorial, up_to}
use Rattle.functionals.specs.declared.term.WordTerm.{WordTerm}
use Rattle.functionals.specs.Functionals.{norm, mass}

-- the factor of the words of k letters, one share of N + 1 for each number of letters up to the depth N; at least 1
abbrev pub eval_factor : ℕ → List WordTerm → ℕ → ℕ
eval_factor depth terms k = max 1 (suc depth * ((factorial depth / factorial k) * mass k terms))

-- the factors of 1 to N letters
abbrev pub eval_factors : Extent → List WordTerm → List ℕ
eval_factors extent terms = map (eval_factor extent.depth terms) (up_to extent.depth)

-- the norm is at most 2^47, so that the factors are below 2^67, and the empty word has its share at any weight
abbrev pub IsSmall : List WordTerm → Type 0
IsSmall terms = norm terms ≤ 2 ^ 47
