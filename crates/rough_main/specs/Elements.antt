-- What is due to a list of Lie elements: the logarithm of the product of their exponentials.
use Rattle.std.specs.Prelude.{◌≡◌, ℕ, if◌then◌else◌, List, length, Result, Ok, Err}
use Rattle.definitions.specs.Words.{Extent}
use Rattle.definitions.specs.Moves.{Parts}
use Rattle.definitions.specs.Signature.{signature, weight}
use Rattle.definitions.specs.Logarithm.{logarithm}
use Rattle.lie_bracket.specs.declared.term.Term.{Term}
use Rattle.dynkin_map.specs.Coordinates.{coordinates}
use Rattle.script_reader.specs.declared.fault.ScriptFault.{ScriptFault}
use Rattle.cbh_calc.specs.Elements.{Elements}
use Rattle.book.specs.declared.query.Allowed.{Allowed}
use Rattle.book.specs.declared.query.Allowed.TheVariants as allowed
use Rattle.book.specs.Play.{fits_from}
use Rattle.session.specs.declared.asked.Wanted.TheVariants.{Logarithm}
use Rattle.session.specs.Play.{allowed_for}
use Rattle.session.specs.Logarithms.{ExpandsTo}
use Rattle.answers.specs.declared.cbh.CbhResult.{CbhResult}
use Rattle.answers.specs.declared.cbh.CbhResult.TheVariants as results
use Rattle.answers.specs.CbhText.{cbh_text}

-- the coordinates of the logarithm of the product of the exponentials of moves, the first on the left, or why there are none
abbrev pub product_by : Allowed → Extent → List Parts → CbhResult
product_by (allowed.Pair a b) extent moves = results.Pair a b
product_by (allowed.Level k) extent moves = results.Level k
product_by (allowed.Fits factors) extent moves =
    if fits_from 1 factors (weight moves) then results.Lie (coordinates extent (logarithm (signature moves))) else results.Overflow (weight moves)

-- so it is with the bound that logarithms of rows have
abbrev pub product_due : Extent → List Parts → CbhResult
product_due extent moves = product_by (allowed_for extent Logarithm) extent moves

-- the text of a list: the shape, the number of elements, and the levels of the logarithm
abbrev pub list_text : Elements → List ℕ
list_text list = cbh_text list.extent (length list.moves) (product_due list.extent list.moves)

-- the coordinates that are due to a list, expanded by brackets, are the logarithm of the product of the exponentials in the list's order
abbrev pub ListExpands : Elements → Type 0
ListExpands list = (terms : List Term) → product_due list.extent list.moves ≡ results.Lie terms → ExpandsTo list.extent terms (logarithm (signature list.moves))

-- so it is with the list that was spelled
abbrev pub ProductExpands : Result Elements ScriptFault → Type 0
ProductExpands (Ok list) = ListExpands list
ProductExpands (Err fault) = Unit {0}
