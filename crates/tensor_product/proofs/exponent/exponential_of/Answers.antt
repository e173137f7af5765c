use Rattle.std.proofs.Common.{◌≡◌, ◌+◌, ◌-◌, ◌∙◌, ℕ, ap, sym, subst, arith}
use Rattle.definitions.specs.Words.{Extent, IsWord}
use Rattle.definitions.specs.Exponentials.{plain_power}
use Rattle.scaled_tensor.specs.Tensors.{TensorValue, coefficient}
use Rattle.tensor_product.specs.Concatenation.{IsWritten}
use Rattle.tensor_product.specs.Exponentiation.{partial_exponential}
use Rattle.tensor_product.proofs.ExponentialSteps.{next-written, room-of_power, sum-start, power-added, adding-room, all-added}
use Rattle.tensor_product.proofs.exponent.exponential_of.Goals as goal

pub loop-m-init : goal.loop-m-init
loop-m-init c =
    let z : TensorValue = c.args.z.now in
    let extent : c.shape-shape.result ≡ z.extent = c.shape-shape.ensures.value in
    record {
      power = record {
        same_extent = c.in_ok-power.ensures.extent ∙ extent;
        values = λ word is_word. c.in_ok-power.ensures.value word (subst (λ (e : Extent). IsWord e word) (sym extent) is_word);
      };
      sum = record {
        same_extent = c.in_ok-sum.ensures.extent ∙ extent;
        values = λ word is_word. c.in_ok-sum.ensures.value word (subst (λ (e : Extent). IsWord e word) (sym extent) is_word) ∙ sum-start (coefficient z) word;
      };
    }

pub next_power-requires-clause-room : goal.next_power-requires-clause-room
next_power-requires-clause-room c = room-of_power c.args.z.now c.loop-m.power (c.loop-m.m - 1) c.requires c.loop-m.invariant.power

pub add_power-requires-clause-room : goal.add_power-requires-clause-room
add_power-requires-clause-room c =
    let z : TensorValue = c.args.z.now in
    let next : IsWritten z.extent (plain_power (coefficient z) c.loop-m.m) c.in_ok-power-2.power =
    next-written z c.loop-m.power c.in_ok-power-2.power c.loop-m.m c.loop-m.auto.m c.loop-m.invariant.power c.in_ok-power-2.ensures in
    adding-room z c.in_ok-power-2.power c.loop-m.sum c.loop-m.m c.loop-m.auto.m c.requires next c.loop-m.invariant.sum

pub loop-m-preserved : goal.loop-m-preserved
loop-m-preserved c =
    let z : TensorValue = c.args.z.now in
    let next : IsWritten z.extent (plain_power (coefficient z) c.loop-m.m) c.in_ok-power-2.power =
    next-written z c.loop-m.power c.in_ok-power-2.power c.loop-m.m c.loop-m.auto.m c.loop-m.invariant.power c.in_ok-power-2.ensures in
    let same : c.loop-m.m ≡ c.loop-m.m + 1 - 1 = omega arith in
    record {
      power = subst (λ (n : ℕ). IsWritten z.extent (plain_power (coefficient z) n) c.in_ok-power-2.power) same next;
      sum = subst (λ (n : ℕ). IsWritten z.extent (partial_exponential (coefficient z) n) c.add_power.new.sum) same
          (power-added z c.in_ok-power-2.power c.loop-m.sum c.add_power.new.sum c.loop-m.m c.loop-m.auto.m c.requires.starts next c.loop-m.invariant.sum c.add_power.ensures);
    }

pub returns-clause-values : goal.returns-clause-values
returns-clause-values c =
    let z : TensorValue = c.args.z.now in
    all-added z c.loop-m.sum (c.loop-m.m - 1) (omega (arith, c.loop-m-test.false, c.depth-m-end.ensures.value, ap (λ (e : Extent). e.depth) c.shape-shape.ensures.value)) c.requires.starts c.loop-m.invariant.sum
