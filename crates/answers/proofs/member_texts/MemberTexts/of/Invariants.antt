use Rattle.std.proofs.Common.{◌≡◌}
use Rattle.std.specs.Prelude.{map}
use Rattle.definitions.specs.Words.{up_to}
use Rattle.definitions.specs.Hall.{hall_list, text_of}
use Rattle.answers.proofs.member_texts.MemberTexts.of.Given as goal

abbrev pub invariant-loop-before : goal.invariant-loop-before
invariant-loop-before l = l.texts ≡ map (text_of (hall_list l.hall.width l.hall.depth)) (up_to l.before)
