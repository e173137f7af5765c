use Rattle.std.proofs.Common.{◌≡◌, ◌*◌, ◌-◌, ◌^◌, ◌∙◌, ℕ, [], suc, refl, ap, sym, subst, arith, rules, length, take, add-one, get_or, pos, to_z, of_z, to_z-of_z, FitsSigned, get_or-set_same, length-set, length-take}
use mir.Syntax.{w128}
use Rattle.std.proofs.Math.Nat.{pow-zero, pow-suc}
use Rattle.std.proofs.lemmas.List.Elements.{All-nil}
use Rattle.definitions.specs.Words.{IsWord, IsLetter, binom}
use Rattle.scaled_tensor.specs.Tensors.{TensorValue}
use Rattle.tensor_product.proofs.LevelLaws.{AreSums, IsLevel, HasGrowRoom, level-is, grow-room, grow-within, sums-grown, sums-none, sums-part, last-room, last-level, sums-within}
use Rattle.tensor_product.proofs.extend.extend_level.Goals as goal

pub loop-j-init : goal.loop-j-init
loop-j-init g c =
    let t : TensorValue = c.args.tensor.now in
    let fits : FitsSigned w128 (get_or c.level.result.now 0 (pos 0)) = search rules in
    let empty : IsWord t.extent [] = record { short = omega arith; letters = All-nil (IsLetter t.extent.width) } in
    record {
      count_is = sym (pow-zero t.extent.width);
      sums = sums-none t c.args.k c.args.x.now _ (get_or-set_same c.args.sums.now 0 _ (pos 0) (omega (arith, c.requires.first)) ∙ to_z-of_z fits ∙ c.level.ensures.value [] empty refl);
    }

pub grow-requires-clause-within : goal.grow-requires-clause-within
grow-requires-clause-within g c =
    grow-within c.args.tensor.now c.args.k c.loop-j.j c.loop-j.count (length c.loop-j.sums) c.args.x.now c.requires.shape.some_width (omega arith) c.requires.x c.loop-j.invariant.count_is (omega (arith, c.requires.sums, c.loop-j.auto.sums, length-set c.args.sums.now 0 (to_z w128 (of_z w128 (get_or c.level.result.now 0 (pos 0))))))

pub grow-requires-clause-grown : goal.grow-requires-clause-grown
grow-requires-clause-grown g c =
    let t : TensorValue = c.args.tensor.now in
    let its : IsLevel t (suc c.loop-j.j) c.level-level.result.now = level-is t c.loop-j.j c.level-level.result.now c.level-level.ensures.len c.level-level.ensures.value in
    let room : HasGrowRoom g.A.Arithmetic.most t c.loop-j.count c.binom.result c.args.x.now c.loop-j.sums c.level-level.result.now =
    grow-room g.A.Arithmetic.most t c.args.k c.loop-j.j c.loop-j.count c.binom.result c.args.x.now c.loop-j.sums c.level-level.result.now c.requires.shape.some_width c.requires.k (omega arith) c.requires.x c.loop-j.invariant.count_is
    (c.binom.ensures ∙ ap (binom c.args.k) (add-one c.loop-j.j)) its c.loop-j.invariant.sums c.requires.room in
    room.grown

pub grow-requires-clause-added : goal.grow-requires-clause-added
grow-requires-clause-added g c =
    let t : TensorValue = c.args.tensor.now in
    let its : IsLevel t (suc c.loop-j.j) c.level-level.result.now = level-is t c.loop-j.j c.level-level.result.now c.level-level.ensures.len c.level-level.ensures.value in
    let room : HasGrowRoom g.A.Arithmetic.most t c.loop-j.count c.binom.result c.args.x.now c.loop-j.sums c.level-level.result.now =
    grow-room g.A.Arithmetic.most t c.args.k c.loop-j.j c.loop-j.count c.binom.result c.args.x.now c.loop-j.sums c.level-level.result.now c.requires.shape.some_width c.requires.k (omega arith) c.requires.x c.loop-j.invariant.count_is
    (c.binom.ensures ∙ ap (binom c.args.k) (add-one c.loop-j.j)) its c.loop-j.invariant.sums c.requires.room in
    room.added

pub grow-requires-clause-summed : goal.grow-requires-clause-summed
grow-requires-clause-summed g c =
    let t : TensorValue = c.args.tensor.now in
    let its : IsLevel t (suc c.loop-j.j) c.level-level.result.now = level-is t c.loop-j.j c.level-level.result.now c.level-level.ensures.len c.level-level.ensures.value in
    let room : HasGrowRoom g.A.Arithmetic.most t c.loop-j.count c.binom.result c.args.x.now c.loop-j.sums c.level-level.result.now =
    grow-room g.A.Arithmetic.most t c.args.k c.loop-j.j c.loop-j.count c.binom.result c.args.x.now c.loop-j.sums c.level-level.result.now c.requires.shape.some_width c.requires.k (omega arith) c.requires.x c.loop-j.invariant.count_is
    (c.binom.ensures ∙ ap (binom c.args.k) (add-one c.loop-j.j)) its c.loop-j.invariant.sums c.requires.room in
    room.summed

pub loop-j-preserved : goal.loop-j-preserved
loop-j-preserved g c =
    let t : TensorValue = c.args.tensor.now in
    let its : IsLevel t (suc c.loop-j.j) c.level-level.result.now = level-is t c.loop-j.j c.level-level.result.now c.level-level.ensures.len c.level-level.ensures.value in
    record {
      count_is = c.level-level.ensures.len;
      sums = subst (λ (n : ℕ). AreSums t c.args.x.now c.args.k n c.grow.new.sums) (sym (add-one c.loop-j.j))
          (sums-grown t c.args.k c.loop-j.j c.loop-j.count c.binom.result c.args.x.now c.loop-j.sums c.level-level.result.now c.grow.new.sums (omega arith) c.requires.x c.loop-j.invariant.count_is
          (c.binom.ensures ∙ ap (binom c.args.k) (add-one c.loop-j.j)) its c.loop-j.invariant.sums c.grow.ensures);
    }

pub add_outer-requires-clause-right : goal.add_outer-requires-clause-right
add_outer-requires-clause-right g c =
    let one : c.args.k - (c.args.k - 1) ≡ 1 = omega arith in
    c.requires.x ∙ sym (pow-suc c.args.tensor.now.extent.width 0 ∙ ap (λ (n : ℕ). n * c.args.tensor.now.extent.width) (pow-zero c.args.tensor.now.extent.width) ∙ omega arith) ∙ ap (λ (n : ℕ). c.args.tensor.now.extent.width ^ n) (sym one)

pub add_outer-requires-clause-room : goal.add_outer-requires-clause-room
add_outer-requires-clause-room g c =
    let t : TensorValue = c.args.tensor.now in
    let last : c.loop-j.j ≡ c.args.k - 1 = omega arith in
    let are : AreSums t c.args.x.now c.args.k (c.args.k - 1) (take c.loop-j.count c.loop-j.sums) =
    subst (λ (n : ℕ). AreSums t c.args.x.now c.args.k n (take c.loop-j.count c.loop-j.sums)) last (sums-part t c.args.k c.loop-j.j c.loop-j.count c.args.x.now c.loop-j.sums (omega arith) c.loop-j.invariant.count_is c.loop-j.invariant.sums) in
    last-room g.A.Arithmetic.most t c.args.k (c.args.k - 1) c.args.x.now (take c.loop-j.count c.loop-j.sums) (omega (arith, c.requires.some)) are c.requires.room

pub returns : goal.returns
returns g c =
    let t : TensorValue = c.args.tensor.now in
    let last : c.loop-j.j ≡ c.args.k - 1 = omega arith in
    let are : AreSums t c.args.x.now c.args.k (c.args.k - 1) (take c.loop-j.count c.loop-j.sums) =
    subst (λ (n : ℕ). AreSums t c.args.x.now c.args.k n (take c.loop-j.count c.loop-j.sums)) last (sums-part t c.args.k c.loop-j.j c.loop-j.count c.args.x.now c.loop-j.sums (omega arith) c.loop-j.invariant.count_is c.loop-j.invariant.sums) in
    last-level t c.add_outer.new.self c.args.k (c.args.k - 1) c.args.x.now (take c.loop-j.count c.loop-j.sums) (omega (arith, c.requires.some)) are c.add_outer.ensures.extent c.add_outer.ensures.added c.add_outer.ensures.others

pub grow-requires-clause-sums : goal.grow-requires-clause-sums
grow-requires-clause-sums g c =
    let t : TensorValue = c.args.tensor.now in
    let its : IsLevel t (suc c.loop-j.j) c.level-level.result.now = level-is t c.loop-j.j c.level-level.result.now c.level-level.ensures.len c.level-level.ensures.value in
    let room : HasGrowRoom g.A.Arithmetic.most t c.loop-j.count c.binom.result c.args.x.now c.loop-j.sums c.level-level.result.now =
    grow-room g.A.Arithmetic.most t c.args.k c.loop-j.j c.loop-j.count c.binom.result c.args.x.now c.loop-j.sums c.level-level.result.now c.requires.shape.some_width c.requires.k (omega arith) c.requires.x c.loop-j.invariant.count_is
    (c.binom.ensures ∙ ap (binom c.args.k) (add-one c.loop-j.j)) its c.loop-j.invariant.sums c.requires.room in
    room.sums_in

pub grow-requires-clause-ways : goal.grow-requires-clause-ways
grow-requires-clause-ways g c =
    let t : TensorValue = c.args.tensor.now in
    let its : IsLevel t (suc c.loop-j.j) c.level-level.result.now = level-is t c.loop-j.j c.level-level.result.now c.level-level.ensures.len c.level-level.ensures.value in
    let room : HasGrowRoom g.A.Arithmetic.most t c.loop-j.count c.binom.result c.args.x.now c.loop-j.sums c.level-level.result.now =
    grow-room g.A.Arithmetic.most t c.args.k c.loop-j.j c.loop-j.count c.binom.result c.args.x.now c.loop-j.sums c.level-level.result.now c.requires.shape.some_width c.requires.k (omega arith) c.requires.x c.loop-j.invariant.count_is
    (c.binom.ensures ∙ ap (binom c.args.k) (add-one c.loop-j.j)) its c.loop-j.invariant.sums c.requires.room in
    room.ways_in

pub grow-requires-clause-prefixes : goal.grow-requires-clause-prefixes
grow-requires-clause-prefixes g c =
    let t : TensorValue = c.args.tensor.now in
    let its : IsLevel t (suc c.loop-j.j) c.level-level.result.now = level-is t c.loop-j.j c.level-level.result.now c.level-level.ensures.len c.level-level.ensures.value in
    let room : HasGrowRoom g.A.Arithmetic.most t c.loop-j.count c.binom.result c.args.x.now c.loop-j.sums c.level-level.result.now =
    grow-room g.A.Arithmetic.most t c.args.k c.loop-j.j c.loop-j.count c.binom.result c.args.x.now c.loop-j.sums c.level-level.result.now c.requires.shape.some_width c.requires.k (omega arith) c.requires.x c.loop-j.invariant.count_is
    (c.binom.ensures ∙ ap (binom c.args.k) (add-one c.loop-j.j)) its c.loop-j.invariant.sums c.requires.room in
    room.prefixes

pub add_outer-requires-clause-left_in : goal.add_outer-requires-clause-left_in
add_outer-requires-clause-left_in g c = λ q h.
    let t : TensorValue = c.args.tensor.now in
    let last : c.loop-j.j ≡ c.args.k - 1 = omega arith in
    let are : AreSums t c.args.x.now c.args.k c.loop-j.j (take c.loop-j.count c.loop-j.sums) = sums-part t c.args.k c.loop-j.j c.loop-j.count c.args.x.now c.loop-j.sums (omega arith) c.loop-j.invariant.count_is c.loop-j.invariant.sums in
    sums-within g.A.Arithmetic.most t c.args.k c.loop-j.j c.loop-j.count c.args.x.now (take c.loop-j.count c.loop-j.sums) c.requires.shape.some_width c.requires.k (omega (arith, c.requires.some)) c.loop-j.invariant.count_is are c.requires.room q
    (omega (arith, h, length-take c.loop-j.count c.loop-j.sums))
