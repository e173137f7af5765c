use Rattle.std.proofs.Common.{◌≡◌, ◌∙◌, ap, sym, subst, arith, [], refl}
use Rattle.std.proofs.lemmas.List.{nil_from_length}
use Rattle.definitions.specs.Words.{Extent, IsWord}
use Rattle.definitions.specs.Hall.{hall_list, expansion}
use Rattle.lie_bracket.specs.Brackets.{expanded}
use Rattle.lie_bracket.proofs.ExpandSteps.{expanded-empty}
use Rattle.lie_bracket.proofs.expansion.expand.Goals as goal

pub loop-before-init : goal.loop-before-init
loop-before-init c = record {
  extent = c.in_ok-tensor.ensures.extent ∙ c.shape-2.ensures.value;
  written = λ word is_word short.
      let none : word ≡ [] = nil_from_length word (omega arith) in
      c.in_ok-tensor.ensures.value word (subst (λ (e : Extent). IsWord e word) (sym c.shape-2.ensures.value) is_word)
      ∙ sym (ap (expanded (expansion (hall_list c.args.hall.now.width c.args.hall.now.depth)) c.args.z.now) none ∙ expanded-empty (hall_list c.args.hall.now.width c.args.hall.now.depth) (c.args.hall.now, c.shape.ensures.shape, refl) c.args.z.now c.requires);
}
