use Rattle.std.proofs.Common.{◌+◌, ◌*◌, max}
use Rattle.lie_bracket.proofs.expansion.+expansions.Given as goal

abbrev pub decreases-coefficient_of : goal.decreases-coefficient_of
decreases-coefficient_of l = 2 * l.h

abbrev pub decreases-product_at : goal.decreases-product_at
decreases-product_at l = 2 * max l.i l.j + 1
