use Rattle.std.proofs.Common.{◌≡◌, suc, ◌∙◌, ◌-◌, ◌^◌, ℕ, ap, sym, arith}
use Rattle.std.proofs.Math.Nat.{pow-suc, mul-zero}
use Rattle.definitions.specs.Moves.{root as least_root}
use Rattle.definitions.proofs.Roots.{self-le-pow, root-one, root-zero}
use Rattle.words.proofs.RootLaws.{root-between}
use Rattle.words.proofs.roots.root.Goals as goal

pub returns-then-n-eq0 : goal.returns-then-n-eq0
returns-then-n-eq0 c = sym (ap (least_root c.args.j) c.if-n-eq0.true ∙ root-zero c.args.j)

pub loop-high-init : goal.loop-high-init
loop-high-init c =
    let before : ℕ = c.args.j - 1 in
    let e : c.args.j ≡ suc before = omega arith in
    let none : 0 ^ c.args.j ≡ 0 = ap (λ (k : ℕ). 0 ^ k) e ∙ pow-suc 0 before ∙ mul-zero (0 ^ before) in
    record { below = omega (arith, none); above = self-le-pow c.args.n c.args.j c.requires; ordered = omega arith }

pub returns : goal.returns
returns c = sym (root-between c.args.j c.args.n c.loop-high.low c.loop-high.high c.requires c.loop-high.invariant.below c.loop-high.invariant.above (omega arith))

pub returns-then-j-eq1 : goal.returns-then-j-eq1
returns-then-j-eq1 c = sym (ap (λ (j : ℕ). least_root j c.args.n) c.if-j-eq1.true ∙ root-one c.args.n)
