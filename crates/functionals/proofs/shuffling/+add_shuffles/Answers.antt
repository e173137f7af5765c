use Rattle.std.proofs.Common.{◌≡◌, ◌∷◌, ◌++◌, ◌+◌, ap, List, ℕ, [], length, arith, to_z-of_z}
use Rattle.functionals.proofs.Rooms.{index-bound, prefix-same, prefix-left, prefix-right, first-letter, other-letters, none-left, none-right, one-added, both-added, room-left, room-right}
use Rattle.functionals.proofs.shuffling.+add_shuffles.Goals as goal

pub returns-in_default : goal.returns-in_default
returns-in_default t c = λ p is.
    let u : List ℕ = c.args.u.now in
    let v : List ℕ = c.args.v.now in
    let none : length u ≡ 0 = c.in_default.ensures.cases in
    one-added c.args.shape c.args.sums.now c.add_word.new.sums p u v v c.args.c _ (none-left u v none) (to_z-of_z c.ranges.c)
    (c.add_word.ensures p (prefix-same c.args.shape c.args.start c.args.index (length u + length v) (length v) p is (omega (arith, none))))

pub returns-in_default-split_first : goal.returns-in_default-split_first
returns-in_default-split_first t c = λ p is.
    let u : List ℕ = c.args.u.now in
    let v : List ℕ = c.args.v.now in
    let none : length v ≡ 0 = c.in_default-split_first.ensures.cases in
    one-added c.args.shape c.args.sums.now c.add_word-in_default-split_first.new.sums p u v u c.args.c _ (none-right u v none) (to_z-of_z c.ranges.c)
    (c.add_word-in_default-split_first.ensures p (prefix-same c.args.shape c.args.start c.args.index (length u + length v) (length u) p is (omega (arith, none))))

pub longer_index-behind_a-requires-clause-index : goal.longer_index-behind_a-requires-clause-index
longer_index-behind_a-requires-clause-index t c =
    index-bound c.args.shape c.args.start c.args.index (length c.args.u.now + length c.args.v.now) c.requires.prefix.0 c.requires.prefix.1

pub longer_index-behind_a-requires-clause-letter : goal.longer_index-behind_a-requires-clause-letter
longer_index-behind_a-requires-clause-letter t c = first-letter c.args.shape.width c.args.u.now c.in-Some.rest_of_u.now c.in-Some.a.now c.in-Some.ensures.cases.0 c.requires.u

pub add_shuffles-requires : goal.add_shuffles-requires
add_shuffles-requires t c =
    let u : List ℕ = c.args.u.now in
    let v : List ℕ = c.args.v.now in
    let a : ℕ = c.in-Some.a.now in
    let rest : List ℕ = c.in-Some.rest_of_u.now in
    let p : List ℕ = c.requires.prefix.0 in
    let by_a : u ≡ a ∷ rest = c.in-Some.ensures.cases.0 in (
      omega (arith, ap (λ (w : List ℕ). length w) by_a),
      (
        (p ++ a ∷ [], prefix-left c.args.shape c.args.start c.args.index c.longer_index-behind_a.result p u v rest a c.requires.prefix.1 by_a c.requires.u c.longer_index-behind_a.ensures),
        (
          other-letters c.args.shape.width u rest a by_a c.requires.u,
          (
            c.requires.v,
            (
              c.requires.len,
              room-left c.args.shape c.args.sums.now u v rest c.in-Some-split_first.rest_of_v.now a c.in-Some-split_first.b.now c.args.c _ by_a c.in-Some-split_first.ensures.cases.0 (to_z-of_z c.ranges.c) c.requires.room,
            ),
          ),
        ),
      ),
    )

pub longer_index-behind_b-requires-clause-index : goal.longer_index-behind_b-requires-clause-index
longer_index-behind_b-requires-clause-index t c =
    index-bound c.args.shape c.args.start c.args.index (length c.args.u.now + length c.args.v.now) c.requires.prefix.0 c.requires.prefix.1

pub longer_index-behind_b-requires-clause-letter : goal.longer_index-behind_b-requires-clause-letter
longer_index-behind_b-requires-clause-letter t c =
    first-letter c.args.shape.width c.args.v.now c.in-Some-split_first.rest_of_v.now c.in-Some-split_first.b.now c.in-Some-split_first.ensures.cases.0 c.requires.v

pub add_shuffles-requires-2 : goal.add_shuffles-requires-2
add_shuffles-requires-2 t c =
    let u : List ℕ = c.args.u.now in
    let v : List ℕ = c.args.v.now in
    let a : ℕ = c.in-Some.a.now in
    let b : ℕ = c.in-Some-split_first.b.now in
    let rest : List ℕ = c.in-Some-split_first.rest_of_v.now in
    let p : List ℕ = c.requires.prefix.0 in
    let by_a : u ≡ a ∷ c.in-Some.rest_of_u.now = c.in-Some.ensures.cases.0 in
    let by_b : v ≡ b ∷ rest = c.in-Some-split_first.ensures.cases.0 in
    let added = c.add_shuffles.ensures (p ++ a ∷ []) (prefix-left c.args.shape c.args.start c.args.index c.longer_index-behind_a.result p u v c.in-Some.rest_of_u.now a c.requires.prefix.1 by_a c.requires.u c.longer_index-behind_a.ensures) in (
      omega (arith, ap (λ (w : List ℕ). length w) by_b),
      (
        (p ++ b ∷ [], prefix-right c.args.shape c.args.start c.args.index c.longer_index-behind_b.result p u v rest b c.requires.prefix.1 by_b c.requires.v c.longer_index-behind_b.ensures),
        (
          c.requires.u,
          (
            other-letters c.args.shape.width v rest b by_b c.requires.v,
            (
              omega (arith, c.requires.len, added.same_length),
              room-right c.args.shape c.args.sums.now c.add_shuffles.new.sums p u v c.in-Some.rest_of_u.now rest a b c.args.c _ by_a by_b (to_z-of_z c.ranges.c) c.requires.room added,
            ),
          ),
        ),
      ),
    )

pub returns : goal.returns
returns t c = λ p is.
    let u : List ℕ = c.args.u.now in
    let v : List ℕ = c.args.v.now in
    let a : ℕ = c.in-Some.a.now in
    let b : ℕ = c.in-Some-split_first.b.now in
    let by_a : u ≡ a ∷ c.in-Some.rest_of_u.now = c.in-Some.ensures.cases.0 in
    let by_b : v ≡ b ∷ c.in-Some-split_first.rest_of_v.now = c.in-Some-split_first.ensures.cases.0 in
    both-added c.args.shape c.args.sums.now c.add_shuffles.new.sums c.add_shuffles-2.new.sums p u v c.in-Some.rest_of_u.now c.in-Some-split_first.rest_of_v.now a b c.args.c _ by_a by_b (to_z-of_z c.ranges.c)
    (c.add_shuffles.ensures (p ++ a ∷ []) (prefix-left c.args.shape c.args.start c.args.index c.longer_index-behind_a.result p u v c.in-Some.rest_of_u.now a is by_a c.requires.u c.longer_index-behind_a.ensures))
    (c.add_shuffles-2.ensures (p ++ b ∷ []) (prefix-right c.args.shape c.args.start c.args.index c.longer_index-behind_b.result p u v c.in-Some-split_first.rest_of_v.now b is by_b c.requires.v c.longer_index-behind_b.ensures))
