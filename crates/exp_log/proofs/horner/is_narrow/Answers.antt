use Rattle.std.proofs.Common.{◌≡◌, ◌+◌, ◌*◌, ◌^◌, ◌∙◌, ap, ℕ, arith, add-one}
use Rattle.std.proofs.Math.Nat.{pow-suc}
use Rattle.definitions.specs.Logarithm.{log_bound}
use Rattle.exp_log.proofs.horner.is_narrow.Goals as goal

pub loop-i-preserved : goal.loop-i-preserved
loop-i-preserved c =
    let exact : c.saturating_mul-bound.result ≡ c.loop-i.bound * c.args.weight = omega (arith, c.saturating_mul-bound.ensures, c.if-bound.false) in
    let power : c.args.weight ^ (c.loop-i._i + 1) ≡ c.args.weight ^ c.loop-i._i * c.args.weight = ap (λ (n : ℕ). c.args.weight ^ n) (add-one c.loop-i._i) ∙ pow-suc c.args.weight c.loop-i._i in
    record {
      bound = exact ∙ omega (arith, ap (λ (n : ℕ). n * c.args.weight) c.loop-i.invariant.bound, ap (λ (n : ℕ). n * log_bound c.args.k) power);
      small = λ some. omega (arith, c.if-bound.false);
    }
