use Rattle.std.proofs.Common.{◌≡◌, ◌↔◌, ℕ, suc, ◌+◌, ◌∙◌, ◌-◌, ◌≤◌, ◌^◌, ap, sym, subst, arith}
use Rattle.std.proofs.Math.Nat.{pow-zero}
use Rattle.std.proofs.lemmas.Bool.{le-leb, leb-true}
use Rattle.words.proofs.RootLaws.{divided-once}
use Rattle.words.proofs.roots.is_reached.Goals as goal

pub loop-at-init : goal.loop-at-init
loop-at-init c =
    let e : c.args.j ≡ c.args.j - 0 = omega arith in
    subst (λ (k : ℕ). (c.args.n ≤ c.args.r ^ k) ↔ (c.args.n ≤ c.args.r ^ c.args.j)) e ((λ h. h), (λ h. h))

pub loop-at-preserved : goal.loop-at-preserved
loop-at-preserved c =
    let k : ℕ = c.args.j - (c.loop-at._at + 1) in
    let e : c.args.j - c.loop-at._at ≡ suc k = omega arith in
    let before : (c.loop-at.left ≤ c.args.r ^ suc k) ↔ (c.args.n ≤ c.args.r ^ c.args.j) =
    subst (λ (i : ℕ). (c.loop-at.left ≤ c.args.r ^ i) ↔ (c.args.n ≤ c.args.r ^ c.args.j)) e c.loop-at.invariant in
    subst (λ (x : ℕ). (x ≤ c.args.r ^ k) ↔ (c.args.n ≤ c.args.r ^ c.args.j)) (sym c.div_ceil-left.ensures)
    (divided-once c.args.n c.args.j c.args.r c.loop-at.left k c.requires before)

pub returns : goal.returns
returns c =
    let none : c.args.j - c.loop-at._at ≡ 0 = omega arith in
    let one : c.args.r ^ (c.args.j - c.loop-at._at) ≡ 1 = ap (λ (k : ℕ). c.args.r ^ k) none ∙ pow-zero c.args.r in
    let at_end : (c.loop-at.left ≤ 1) ↔ (c.args.n ≤ c.args.r ^ c.args.j) = subst (λ (x : ℕ). (c.loop-at.left ≤ x) ↔ (c.args.n ≤ c.args.r ^ c.args.j)) one c.loop-at.invariant in
    (λ h. at_end.0 (leb-true c.loop-at.left 1 h), λ h. le-leb c.loop-at.left 1 (at_end.1 h))
