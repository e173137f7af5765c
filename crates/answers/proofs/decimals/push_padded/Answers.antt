use Rattle.std.proofs.Common.{◌≡◌, ◌++◌, ◌∙◌, ◌-◌, ◌≤◌, ℕ, List, ap, ap₂, arith, length, append_assoc, string_bytes}
use Rattle.std.specs.Prelude.{replicate}
use Rattle.std.specs.Fmt.{decimal}
use Rattle.std.proofs.lemmas.Fmt.{length-decimal-le}
use Rattle.std.proofs.lemmas.List.{drop-replicate}
use Rattle.std.proofs.lemmas.Str.{IsCharBoundary-from_ascii}
use Rattle.answers.proofs.DigitParts.{zeros-low}
use Rattle.answers.proofs.decimals.push_padded.Goals as goal

pub range_from-requires : goal.range_from-requires
range_from-requires c =
    let short : length (decimal c.args.number) ≤ 19 = length-decimal-le 19 c.args.number (omega arith) (omega arith) (omega arith) in
    λ _. IsCharBoundary-from_ascii (replicate 19 48) (length c.format-digits.result.now) (zeros-low 19) (omega (arith, ap length c.format-digits.ensures.text))

pub returns : goal.returns
returns c =
    let zeros : c.range_from.result.now ≡ replicate (19 - length (decimal c.args.number)) 48 =
    c.range_from.ensures.value ∙ drop-replicate (length c.format-digits.result.now) 19 48 ∙ ap (λ (digits : List ℕ). replicate (19 - length digits) 48) c.format-digits.ensures.text in
    c.in_ok-push_str-2.ensures.bytes
    ∙ ap₂ (λ (t digits : List ℕ). t ++ digits) (c.in_ok-push_str.ensures.bytes ∙ ap (λ (t : List ℕ). string_bytes c.args.text.now ++ t) zeros) c.format-digits.ensures.text
    ∙ append_assoc (string_bytes c.args.text.now) (replicate (19 - length (decimal c.args.number)) 48) (decimal c.args.number)
