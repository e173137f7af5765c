use Rattle.std.proofs.Common.{◌≡◌, ℕ, List, ◌-◌, ◌<◌, ◌==◌, ◌∷◌, length, take, drop, arith, ap, ap₂, sym, ◌∙◌}
use Rattle.std.specs.List.{after_first}
use Rattle.std.proofs.lemmas.Bool.Decides.{nat_tests}
use Rattle.std.proofs.lemmas.List.{take_rest}
use Rattle.std.proofs.Math.Seq.{drop-length}
use Rattle.spellings.specs.Lines.{lines_of}
use Rattle.spellings.proofs.LineLaws.{places_before_feed, places_before_end, none_after, line_before_feed, line_before_end}
use Rattle.spellings.proofs.lines.line_at.Goals as goal

pub returns-in-Some-clause-line : goal.returns-in-Some-clause-line
returns-in-Some-clause-line c =
    let bytes = c.args.bytes.now in
    let from = c.args.from in
    let rest_is = take_rest bytes from in
    let some : 0 < length (take (length bytes - from) (drop from bytes)) = grind (arith, nat_tests) in
    let p = places_before_feed bytes from _ c.in-Some.line.now c.without_return.result.now c.in-Some.after.now c.requires rest_is c.in-Some.ensures.0 c.in-Some.ensures.1 c.in-Some.ensures.2 c.without_return.ensures in
    let lines = line_before_feed _ c.in-Some.line.now c.without_return.result.now c.in-Some.after.now c.in-Some.ensures.0 c.in-Some.ensures.1 c.in-Some.ensures.2 c.without_return.ensures some in
    ap lines_of (sym rest_is) ∙ lines.0 ∙ ap₂ (λ l a. l ∷ lines_of a) (sym p.line_is) (sym p.after_is)

pub returns-in-Some-clause-after : goal.returns-in-Some-clause-after
returns-in-Some-clause-after c =
    let bytes = c.args.bytes.now in
    let from = c.args.from in
    let rest_is = take_rest bytes from in
    let p = places_before_feed bytes from _ c.in-Some.line.now c.without_return.result.now c.in-Some.after.now c.requires rest_is c.in-Some.ensures.0 c.in-Some.ensures.1 c.in-Some.ensures.2 c.without_return.ensures in
    p.after_is ∙ c.in-Some.ensures.2 ∙ ap (after_first (λ d. d == 10)) rest_is

pub returns-in-Some-clause-places : goal.returns-in-Some-clause-places
returns-in-Some-clause-places c =
    let p = places_before_feed c.args.bytes.now c.args.from _ c.in-Some.line.now c.without_return.result.now c.in-Some.after.now c.requires (take_rest c.args.bytes.now c.args.from) c.in-Some.ensures.0 c.in-Some.ensures.1 c.in-Some.ensures.2 c.without_return.ensures in
    (omega arith, p.ends, p.shorter, omega arith)

pub returns-in-None-clause-line : goal.returns-in-None-clause-line
returns-in-None-clause-line c =
    let bytes = c.args.bytes.now in
    let from = c.args.from in
    let rest_is = take_rest bytes from in
    let some : 0 < length (take (length bytes - from) (drop from bytes)) = grind (arith, nat_tests) in
    let p = places_before_end bytes from _ c.without_return-in-None.result.now rest_is c.without_return-in-None.ensures some in
    let lines = line_before_end _ c.without_return-in-None.result.now c.in-None.ensures c.without_return-in-None.ensures some in
    ap lines_of (sym rest_is) ∙ lines ∙ ap₂ (λ l a. l ∷ lines_of a) (sym p.line_is) (sym p.after_is)

pub returns-in-None-clause-after : goal.returns-in-None-clause-after
returns-in-None-clause-after c =
    let rest : List ℕ = take (length c.args.bytes.now - c.args.from) (drop c.args.from c.args.bytes.now) in
    drop-length c.args.bytes.now ∙ sym (none_after rest c.in-None.ensures) ∙ ap (after_first (λ d. d == 10)) (take_rest c.args.bytes.now c.args.from)

pub returns-in-None-clause-places : goal.returns-in-None-clause-places
returns-in-None-clause-places c =
    let some : 0 < length (take (length c.args.bytes.now - c.args.from) (drop c.args.from c.args.bytes.now)) = grind (arith, nat_tests) in
    let p = places_before_end c.args.bytes.now c.args.from _ c.without_return-in-None.result.now (take_rest c.args.bytes.now c.args.from) c.without_return-in-None.ensures some in
    (omega arith, p.ends, p.shorter, omega arith)
