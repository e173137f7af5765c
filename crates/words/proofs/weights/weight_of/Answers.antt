use Rattle.std.proofs.Common.{◌≡◌, ◌∙◌, suc, ◌+◌, ◌*◌, ◌≤◌, ◌^◌, ℕ, ap, ap₂, sym, arith, add-one, length, drop, get_or}
use Rattle.std.proofs.Math.Nat.{pow-suc, mul-le-mul}
use Rattle.definitions.specs.Moves.{root, weight_from}
use Rattle.words.proofs.WeightLaws.{root-self, scale-bound, scaled-bound, weight-next}
use Rattle.words.proofs.weights.weight_of.Goals as goal

pub overflow_mul-scale : goal.overflow_mul-scale
overflow_mul-scale c =
    let d : ℕ = length c.args.sizes.now in
    let p : ℕ = get_or c.args.sizes.now c.loop-k.k 0 in
    let small : p ≤ 2 ^ 102 = c.requires.small c.loop-k.k 0 c.loop-k-test.true in
    let bound : d ^ c.loop-k.k * p ≤ 2 ^ 123 = scaled-bound d c.loop-k.k p c.requires.depth (omega arith) small in
    omega (arith, bound, ap (λ (n : ℕ). n * p) c.loop-k.invariant.scale)

pub overflow_add-total : goal.overflow_add-total
overflow_add-total c =
    let d : ℕ = length c.args.sizes.now in
    let p : ℕ = get_or c.args.sizes.now c.loop-k.k 0 in
    let small : p ≤ 2 ^ 102 = c.requires.small c.loop-k.k 0 c.loop-k-test.true in
    let bound : d ^ c.loop-k.k * p ≤ 2 ^ 123 = scaled-bound d c.loop-k.k p c.requires.depth (omega arith) small in
    let least : root (c.loop-k.k + 1) (c.loop-k.scale * p) ≤ c.loop-k.scale * p = root-self (c.loop-k.k + 1) (c.loop-k.scale * p) (omega arith) in
    omega (arith, bound, ap (λ (n : ℕ). n * p) c.loop-k.invariant.scale, least, c.root-total.ensures)

pub overflow_mul-scale-in-loop-k : goal.overflow_mul-scale-in-loop-k
overflow_mul-scale-in-loop-k c =
    let d : ℕ = length c.args.sizes.now in
    let bound : d ^ c.loop-k.k * d ≤ 2 ^ 21 * 8 = mul-le-mul (scale-bound d c.loop-k.k c.requires.depth (omega arith)) c.requires.depth in
    omega (arith, bound, ap (λ (n : ℕ). n * d) c.loop-k.invariant.scale)

pub loop-k-preserved : goal.loop-k-preserved
loop-k-preserved c =
    let d : ℕ = length c.args.sizes.now in
    let k : ℕ = c.loop-k.k in
    let p : ℕ = get_or c.args.sizes.now k 0 in
    let small : p ≤ 2 ^ 102 = c.requires.small k 0 c.loop-k-test.true in
    let bound : d ^ k * p ≤ 2 ^ 123 = scaled-bound d k p c.requires.depth (omega arith) small in
    let least : root (k + 1) (c.loop-k.scale * p) ≤ c.loop-k.scale * p = root-self (k + 1) (c.loop-k.scale * p) (omega arith) in
    let value : c.root-total.result ≡ root (suc k) (d ^ k * p) =
    c.root-total.ensures ∙ ap₂ root (add-one k) (ap (λ (n : ℕ). n * p) c.loop-k.invariant.scale) in
    record {
      scale = ap (λ (n : ℕ). n * d) c.loop-k.invariant.scale ∙ sym (pow-suc d k) ∙ ap (λ (n : ℕ). d ^ n) (sym (add-one k));
      rest =
          let next : weight_from d (suc k) (drop k c.args.sizes.now) ≡ root (suc k) (d ^ k * p) + weight_from d (suc (suc k)) (drop (suc k) c.args.sizes.now) = weight-next d k c.args.sizes.now c.loop-k-test.true in
          let same : weight_from d (suc (k + 1)) (drop (k + 1) c.args.sizes.now) ≡ weight_from d (suc (suc k)) (drop (suc k) c.args.sizes.now) =
          ap (λ (n : ℕ). weight_from d (suc n) (drop n c.args.sizes.now)) (add-one k) in
          omega (arith, next, same, value, c.loop-k.invariant.rest);
      bound = omega (arith, bound, ap (λ (n : ℕ). n * p) c.loop-k.invariant.scale, least, c.root-total.ensures, c.loop-k.invariant.bound);
    }
