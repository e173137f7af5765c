use Rattle.std.proofs.Common.{◌≡◌, ◌++◌, ◌∙◌, List, ℕ, ap, sym, arith, string_bytes, codes}
use Rattle.std.proofs.lemmas.Grind.{common_steps}
use Rattle.std.specs.Fmt.{decimal}
use Rattle.book.specs.declared.step.LookReply.{LookReply}
use Rattle.answers.specs.Text.{look_text}
use Rattle.answers.proofs.text.push_look.Goals as goal

-- two texts, each from its parts, after one another
joined : (t a b c d e f g h i j k : List ℕ) → (t ++ (a ++ (b ++ (c ++ d)))) ++ (e ++ (f ++ (g ++ (h ++ (i ++ (j ++ k)))))) ≡ t ++ (a ++ b ++ c ++ d ++ e ++ f ++ g ++ h ++ i ++ j ++ k)
joined t a b c d e f g h i j k = grind (arith, common_steps)

pub returns-in_ok-writeln-in-Found : goal.returns-in_ok-writeln-in-Found
returns-in_ok-writeln-in-Found c =
    let text : List ℕ = string_bytes c.args.text.now in
    let counts : List ℕ = codes " hits " ++ (decimal c.in-Found.hits ++ (codes " misses " ++ (decimal c.in-Found.misses ++ (codes " exps " ++ (decimal c.in-Found.exps ++ codes "\n"))))) in
    let first : string_bytes c.write.new.self ≡ text ++ (codes " " ++ (c.args.kind.now ++ (codes " version " ++ decimal c.in-Found.version))) = c.in_ok-write-in-Found.ensures.bytes in
    let second : string_bytes c.writeln.new.self ≡ string_bytes c.write.new.self ++ counts = c.in_ok-writeln-in-Found.ensures.bytes in
    second ∙ ap (λ (s : List ℕ). s ++ counts) first
    ∙ joined text (codes " ") c.args.kind.now (codes " version ") (decimal c.in-Found.version) (codes " hits ") (decimal c.in-Found.hits) (codes " misses ") (decimal c.in-Found.misses) (codes " exps ") (decimal c.in-Found.exps) (codes "\n")
    ∙ ap (λ (reply : LookReply). text ++ look_text c.args.kind.now reply) (sym c.in-Found.is)
