use Rattle.std.proofs.Common.{◌++◌, ◌∙◌, ap, sym, arith}
use Rattle.std.specs.Prelude.{string_bytes}
use Rattle.definitions.specs.Hall.{text_of}
use Rattle.definitions.specs.declared.member.Member.TheVariants.{Letter, Pair}
use Rattle.hall_set.proofs.GrownLists.{IsPairOf, member-read}
use Rattle.hall_set.proofs.Folds.{text_of-letter, text_of-pair, text-joined}
use Rattle.hall_set.proofs.Searches.{list-IsHall}
use Rattle.hall_set.proofs.text.+push_text.Goals as goal

pub push_text-requires : goal.push_text-requires
push_text-requires t c =
    let p : IsPairOf c.args.members.now c.args.h c.in-Pair.degree c.in-Pair.left c.in-Pair.right =
    (list-IsHall c.args.members.now c.requires.list).pairs c.args.h c.in-Pair.degree c.in-Pair.left c.in-Pair.right c.requires.number
    (member-read c.args.members.now c.args.h Letter (Pair c.in-Pair.degree c.in-Pair.left c.in-Pair.right) c.requires.number c.in-Pair.is) in
    (omega (arith, c.decreases, p.in_order, p.earlier), (c.requires.list, p.left_in))

pub push_text-requires-in-Pair : goal.push_text-requires-in-Pair
push_text-requires-in-Pair t c =
    let p : IsPairOf c.args.members.now c.args.h c.in-Pair.degree c.in-Pair.left c.in-Pair.right =
    (list-IsHall c.args.members.now c.requires.list).pairs c.args.h c.in-Pair.degree c.in-Pair.left c.in-Pair.right c.requires.number
    (member-read c.args.members.now c.args.h Letter (Pair c.in-Pair.degree c.in-Pair.left c.in-Pair.right) c.requires.number c.in-Pair.is) in
    (omega (arith, c.decreases, p.earlier), (c.requires.list, p.right_in))

pub returns-in_ok-push_number-in-Letter-clause-text : goal.returns-in_ok-push_number-in-Letter-clause-text
returns-in_ok-push_number-in-Letter-clause-text t c =
    c.in_ok-push_number-in-Letter.ensures.text
    ∙ ap (λ x. string_bytes c.args.text.now ++ x)
    (sym (text_of-letter c.args.members.now c.args.h (member-read c.args.members.now c.args.h Letter Letter c.requires.number c.in-Letter.is)))

pub returns-in_ok-push_str-in-Pair-3-clause-text : goal.returns-in_ok-push_str-in-Pair-3-clause-text
returns-in_ok-push_str-in-Pair-3-clause-text t c =
    text-joined (string_bytes c.args.text.now) (string_bytes c.push_str.new.self) (string_bytes c.push_text.new.text) (string_bytes c.push_str-in-Pair.new.self) (string_bytes c.push_text-in-Pair.new.text)
    (string_bytes c.push_str-in-Pair-2.new.self) (text_of c.args.members.now c.in-Pair.left) (text_of c.args.members.now c.in-Pair.right) c.in_ok-push_str-in-Pair.ensures.bytes c.in_ok-push_text-in-Pair.ensures.text
    c.in_ok-push_str-in-Pair-2.ensures.bytes c.in_ok-push_text-in-Pair-2.ensures.text c.in_ok-push_str-in-Pair-3.ensures.bytes
    ∙ ap (λ x. string_bytes c.args.text.now ++ x)
    (sym (text_of-pair c.requires.list.0.depth c.args.members.now (list-IsHall c.args.members.now c.requires.list) c.args.h c.in-Pair.degree c.in-Pair.left c.in-Pair.right c.requires.number
    (member-read c.args.members.now c.args.h Letter (Pair c.in-Pair.degree c.in-Pair.left c.in-Pair.right) c.requires.number c.in-Pair.is)))
