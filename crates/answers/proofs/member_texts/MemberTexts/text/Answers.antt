use Rattle.std.proofs.Common.{◌≡◌, ◌∙◌, ◌-◌, suc, ap, arith, length}
use Rattle.definitions.specs.Hall.{hall_list, text_of}
use Rattle.answers.proofs.NameLists.{number-within, number-there}
use Rattle.answers.proofs.member_texts.MemberTexts.text.Goals as goal

pub get-requires : goal.get-requires
get-requires c =
    let hall = hall_list c.args.self.now.width c.args.self.now.depth in
    rw (c.self.invariant, c.self.view_is) (number-within (text_of hall) (length hall) (c.args.h - 1) (omega (arith, c.requires.least, c.requires.most)))

pub returns : goal.returns
returns c =
    let hall = hall_list c.args.self.now.width c.args.self.now.depth in
    let place : suc (c.args.h - 1) ≡ c.args.h = omega (arith, c.requires.least) in
    c.get.ensures
    ∙ (rw (c.self.invariant, c.self.view_is) (number-there (text_of hall) (length hall) (c.args.h - 1) (omega (arith, c.requires.least, c.requires.most)) ∙ ap (text_of hall) place))
