use Rattle.std.proofs.Common.{◌≡◌, ◌++◌, ◌∙◌, ◌*◌, ◌+◌, ◌/◌, ◌%◌, ◌^◌, ℕ, List, sym, ap, arith, append_assoc, string_bytes}
use Rattle.std.specs.Fmt.{decimal}
use Rattle.std.proofs.lemmas.Result.{on_ok_weaker}
use Rattle.answers.specs.Padded.{padded}
use Rattle.answers.proofs.DigitParts.{decimal-parts}
use Rattle.answers.proofs.decimals.push_wide.Goals as goal

pub returns : goal.returns
returns c =
    let front : ℕ = c.args.number / 10 ^ 19 in
    let back : ℕ = c.args.number % 10 ^ 19 in
    let whole : c.args.number / 10 ^ 19 * 10 ^ 19 + c.args.number % 10 ^ 19 ≡ c.args.number = omega arith in
    let digits : decimal c.args.number ≡ decimal front ++ padded 19 back =
    ap decimal (sym whole) ∙ decimal-parts 18 front back (omega arith) (omega arith) (omega arith) in
    on_ok_weaker c.push_padded.result (λ written.
    written
    ∙ ap (λ (t : List ℕ). t ++ padded 19 back) c.in_ok-push_number.ensures
    ∙ append_assoc (string_bytes c.args.text.now) (decimal front) (padded 19 back)
    ∙ ap (λ (t : List ℕ). string_bytes c.args.text.now ++ t) (sym digits)) c.push_padded.ensures
