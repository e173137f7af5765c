use Rattle.std.proofs.Common.{◌≡◌, ◌∙◌, ◌+◌, ◌*◌, ◌/◌, ◌%◌, ◌^◌, ℕ, nat_eq, true, false, ap, sym, arith, add-one}
use Rattle.std.proofs.lemmas.Bool.{OnTrue_from, OnFalse_from}
use Rattle.std.proofs.lemmas.Bool.Decides.{nat_tests}
use Rattle.timeline.proofs.Prefixes.{prefix-suc, lower-half, higher-half}
use Rattle.timeline.proofs.tree.is_lower.Goals as goal

is-0 : (n : ℕ) → nat_eq n 0 ≡ true → n ≡ 0
is-0 n h = grind (arith, nat_tests)

not-0 : (n : ℕ) → nat_eq n 0 ≡ false → n ≡ 0 → ⊥
not-0 n h e = grind (arith, nat_tests)

shorter : (k half : ℕ) → k / 2 ^ (half + 1) ≡ k / 2 ^ half / 2
shorter k half = ap (λ (n : ℕ). k / 2 ^ n) (add-one half) ∙ prefix-suc k half

pub returns-clause-lower : goal.returns-clause-lower
returns-clause-lower c =
    let k = c.args.key in let half = c.args.half in let m = c.prefix.result in
    let read : k / 2 ^ half ≡ m = cc in
    OnTrue_from (nat_eq (m % 2) 0) (k / 2 ^ half ≡ 2 * (k / 2 ^ (half + 1))) (λ e.
    lower-half (k / 2 ^ half) (k / 2 ^ (half + 1)) (shorter k half) (ap (λ (n : ℕ). n % 2) read ∙ is-0 (m % 2) e))

pub returns-clause-higher : goal.returns-clause-higher
returns-clause-higher c =
    let k = c.args.key in let half = c.args.half in let m = c.prefix.result in
    let read : k / 2 ^ half ≡ m = cc in
    OnFalse_from (nat_eq (m % 2) 0) (k / 2 ^ half ≡ 2 * (k / 2 ^ (half + 1)) + 1) (λ e.
    higher-half (k / 2 ^ half) (k / 2 ^ (half + 1)) (shorter k half) (λ z. not-0 (m % 2) e (ap (λ (n : ℕ). n % 2) (sym read) ∙ z)))
