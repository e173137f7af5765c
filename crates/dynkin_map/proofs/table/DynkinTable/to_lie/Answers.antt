use Rattle.std.proofs.Common.{◌∙◌, List, ap, length}
use Rattle.definitions.specs.Words.{Extent}
use Rattle.definitions.specs.Hall.{hall_list, expansion}
use Rattle.scaled_tensor.specs.Tensors.{coefficient}
use Rattle.lie_bracket.specs.declared.term.Term.{Term}
use Rattle.lie_bracket.specs.Brackets.{expanded}
use Rattle.dynkin_map.proofs.DynkinTheorem.{coordinates-theorem}
use Rattle.dynkin_map.proofs.table.DynkinTable.to_lie.Goals as goal

pub returns-clause-expands : goal.returns-clause-expands
returns-clause-expands c = λ vanishes word is_word some.
    let extent : Extent = c.args.p.now.tensor.extent in
    ap (λ (z : List Term). expanded (expansion (hall_list extent.width extent.depth)) z word) c.in_ok-coordinate_element.ensures
    ∙ coordinates-theorem extent (coefficient c.args.p.now.tensor) word some is_word.short is_word.letters (vanishes (length word) some is_word.short)
