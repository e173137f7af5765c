-- The signature of a list of moves by Chen's product of exponentials, and the weight that bounds it.
use Rattle.std.specs.Prelude.{ℕ, ◌+◌, ◌-◌, ◌*◌, ◌^◌, ◌≤◌, List, fold, slice_index, sum_by, ℤ, EachIndex}
use Rattle.definitions.specs.Products.{unit, scaled_product}
use Rattle.definitions.specs.Moves.{Parts, step, move_weight}

-- the numerator at a word of k letters, over k!
unfoldable pub signature : List Parts → List ℕ → ℤ
signature moves = fold (λ series parts. scaled_product series (step parts)) unit moves

-- the sum of the weights of the moves
abbrev pub weight : List Parts → ℕ
weight moves = sum_by move_weight moves

-- the greatest absolute value of a coefficient, and of each sum on the way to it
abbrev pub limit : ℕ
limit = 2 ^ 127 - 1

-- weight ^ k times the k-th factor is at most the limit, for each k from 1
abbrev pub Fits : List ℕ → ℕ → Type 0
Fits factors v = EachIndex factors (λ k. v ^ (k + 1) * slice_index factors k ≤ limit)
