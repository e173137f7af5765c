-- The text of a product of exponentials. Numbers are decimal; each line ends with a line feed.
use Rattle.std.specs.Prelude.{ℕ, List, All, ◌++◌, codes}
use Rattle.std.specs.Fmt.{decimal}
use Rattle.definitions.specs.Words.{Extent}
use Rattle.definitions.specs.Hall.{InHall, hall_list}
use Rattle.answers.specs.declared.cbh.CbhResult.{CbhResult}
use Rattle.answers.specs.declared.cbh.CbhResult.TheVariants.{Lie, Pair, Level, Overflow}
use Rattle.answers.specs.Text.{log_levels_text}

-- the levels of a logarithm, or why there are none
abbrev pub result_text : Extent → CbhResult → List ℕ
result_text extent (Lie terms) = log_levels_text extent terms
result_text extent (Pair a b) = codes "growth " ++ decimal a ++ codes " " ++ decimal b ++ codes "\n"
result_text extent (Level k) = codes "growth-level " ++ decimal k ++ codes "\n"
result_text extent (Overflow weight) = codes "overflow " ++ decimal weight ++ codes "\n"

-- the shape, the number of elements, and the logarithm of the product of their exponentials
abbrev pub cbh_text : Extent → ℕ → CbhResult → List ℕ
cbh_text extent count result =
    codes "shape " ++ decimal extent.width ++ codes " " ++ decimal extent.depth ++ codes "\n"
    ++ codes "cbh " ++ decimal count ++ codes "\n"
    ++ result_text extent result

-- the numbers of coordinates are those of members of the extent's Hall set
abbrev pub HasNumbers : Extent → CbhResult → Type 0
HasNumbers extent (Lie terms) = All (λ t. InHall (hall_list extent.width extent.depth) t.number) terms
HasNumbers extent _ = Unit {0}
