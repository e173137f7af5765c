use Rattle.std.proofs.Common.{◌≡◌, ◌≤◌, ◌+◌, ◌*◌, ◌-◌, ◌^◌, ◌∙◌, ap, ℕ, arith, subst, length}
use Rattle.std.proofs.Math.Nat.{pow-suc, pow-zero, one-mul}
use Rattle.definitions.specs.Signature.{limit}
use Rattle.definitions.specs.Moves.{greatest}
use Rattle.tensor_product.specs.Extension.{prefixes_of}
use Rattle.tensor_product.proofs.ExtendLaws.{still}
use Rattle.tensor_product.proofs.SigLaws.{prefixes-bounded, pow-within}
use Rattle.tensor_product.proofs.LevelLaws.{room-within, entry-within}
use Rattle.tensor_product.proofs.extend.extend_bounded.Goals as goal

pub returns-then-weight-eq0 : goal.returns-then-weight-eq0
returns-then-weight-eq0 c = still c.args.x.now c.args.tensor.now (omega (arith, c.requires.weight, c.if-weight-eq0.true))

pub extend_in_scratch-requires-clause-entries : goal.extend_in_scratch-requires-clause-entries
extend_in_scratch-requires-clause-entries c =
    rw c.widen.ensures (λ a h. omega (arith, c.requires.sum, c.requires.weight, entry-within c.args.x.now a h))

pub extend_in_scratch-requires-clause-few : goal.extend_in_scratch-requires-clause-few
extend_in_scratch-requires-clause-few c = λ some.
    let b : ℕ = c.args.bound + greatest c.args.x.now in
    let fit : b ^ c.narrow_depth-narrow.result ≤ 2 ^ 63 - 1 =
    subst (λ (n : ℕ). (c.args.bound + n) ^ c.narrow_depth-narrow.result ≤ 2 ^ 63 - 1) c.requires.weight c.narrow_depth-narrow.ensures.fits in
    let one : b ^ 1 ≤ 2 ^ 63 - 1 = pow-within b 1 c.narrow_depth-narrow.result (2 ^ 63 - 1) (omega arith) some fit in
    let e : b ^ 1 ≡ b = pow-suc b 0 ∙ ap (λ (n : ℕ). n * b) (pow-zero b) ∙ one-mul b in
    rw c.widen.ensures (λ a h. omega (arith, one, e, entry-within c.args.x.now a h))

pub extend_in_scratch-requires-clause-room : goal.extend_in_scratch-requires-clause-room
extend_in_scratch-requires-clause-room c =
    rw c.widen.ensures (λ word is_word.
    room-within limit (prefixes_of c.args.tensor.now word) c.args.x.now word c.args.bound (omega (arith, is_word.short, c.requires.shape.within_depth)) (omega arith) (omega (arith, c.requires.weight, c.if-weight-eq0.false))
    (prefixes-bounded c.args.tensor.now c.args.bound word c.requires.bounded is_word)
    (pow-within (c.args.bound + greatest c.args.x.now) (length word) c.args.tensor.now.extent.depth limit (omega arith) is_word.short c.requires.fits))

pub extend_in_scratch-requires-clause-short : goal.extend_in_scratch-requires-clause-short
extend_in_scratch-requires-clause-short c =
    let fit : (c.args.bound + greatest c.args.x.now) ^ c.narrow_depth-narrow.result ≤ 2 ^ 63 - 1 =
    subst (λ (n : ℕ). (c.args.bound + n) ^ c.narrow_depth-narrow.result ≤ 2 ^ 63 - 1) c.requires.weight c.narrow_depth-narrow.ensures.fits in
    rw c.widen.ensures (λ word is_word few.
    room-within (2 ^ 63 - 1) (prefixes_of c.args.tensor.now word) c.args.x.now word c.args.bound (omega (arith, is_word.short, c.requires.shape.within_depth)) (omega arith) (omega (arith, c.requires.weight, c.if-weight-eq0.false))
    (prefixes-bounded c.args.tensor.now c.args.bound word c.requires.bounded is_word)
    (pow-within (c.args.bound + greatest c.args.x.now) (length word) c.narrow_depth-narrow.result (2 ^ 63 - 1) (omega arith) few fit))
