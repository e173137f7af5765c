-- There are at most 64 pieces: they grow in length, and then they shrink.
use Rattle.std.proofs.Common.{◌≡◌, ℕ, suc, ◌+◌, ◌*◌, ◌-◌, ◌/◌, ◌<◌, ◌≤◌, ◌^◌, ◌⊎◌, inl, inr, arith, ap, ◌∙◌}
use Rattle.std.proofs.lemmas.Bool.{cases_lt, cases_eq}
use Rattle.std.proofs.lemmas.Nat.{pow-add, pow_pos}
use Rattle.std.proofs.Math.Nat.{pow-suc, pow-zero, lt_of_mul-lt-mul_right}
use Rattle.std.proofs.Math.Pow.{pow_mono}
use Rattle.std.specs.Prelude.{List, [], ◌∷◌, length, Contains}
use Rattle.dyadic.proofs.Spans.{low-lt-high}
use Rattle.decompose.specs.Pieces.{IsPiece, IsPieces, Adjoin}
use Rattle.decompose.proofs.Lists.{here, there}
use Rattle.dyadic.specs.Nodes.{NodeValue, high_of}
use Rattle.decompose.proofs.Longest.{IsLongest}

-- each piece so far was shorter than the power that divides the tick
record Grows (at count : ℕ) : Type 0 where
  -- the exponent of the power
  pub rank : ℕ
  -- how many times the power the tick is
  pub multiple : ℕ
  -- the power is at most the whole line of time
  pub bound : rank ≤ 32
  -- there are at most as many pieces so far as the exponent says
  pub few : count ≤ rank
  -- the power divides the tick
  pub aligned : at ≡ multiple * 2 ^ rank

-- each piece to come is shorter than that power
record Shrinks (at b count : ℕ) : Type 0 where
  -- the exponent of the power
  pub rank : ℕ
  -- how many times the power the tick is
  pub multiple : ℕ
  -- the pieces so far, and one more of each shorter length, are at most 64
  pub few : count + rank ≤ 64
  -- the interval ends before the next multiple of the power
  pub near : b < at + 2 ^ rank
  -- the power divides the tick
  pub aligned : at ≡ multiple * 2 ^ rank

-- either way there are at most 64 pieces
abbrev IsShort : ℕ → ℕ → ℕ → Type 0
IsShort at b count = Grows at count ⊎ Shrinks at b count

short-first : (a b : ℕ) → IsShort a b 0
short-first a b = inl (record { rank = 0; multiple = a; bound = omega arith; few = omega arith; aligned = omega (arith, pow-zero 2) })

short-last : (at b count : ℕ) → IsShort at b count → count ≤ 64
short-last at b count short =
    elim short [ inl grows ↦ omega (arith, grows.bound, grows.few) | inr shrinks ↦ omega (arith, shrinks.few) ]

-- what a longer power divides is an even number of spans
even-index : (index height multiple rank : ℕ) → index * 2 ^ height ≡ multiple * 2 ^ rank → height < rank → index ≡ 2 * (index / 2)
even-index index height multiple rank e lt =
    let span : ℕ = 2 ^ height in
    let factor : ℕ = 2 ^ (rank - suc height) in
    let sum : rank ≡ rank - suc height + suc height = omega arith in
    let power : 2 ^ rank ≡ factor * (span * 2) = ap (λ (h : ℕ). 2 ^ h) sum ∙ pow-add 2 (rank - suc height) (suc height) ∙ ap (λ (n : ℕ). factor * n) (pow-suc 2 height) in
    let whole : index * span ≡ multiple * (factor * (span * 2)) = e ∙ ap (λ (n : ℕ). multiple * n) power in
    let some = pow_pos height in
    let below : index < multiple * factor * 2 + 1 = lt_of_mul-lt-mul_right span (omega (arith, whole, some)) in
    let above : multiple * factor * 2 < index + 1 = lt_of_mul-lt-mul_right span (omega (arith, whole, some)) in
    omega arith

-- after a left half the end is nearer than its length
left-near : (at b : ℕ) (node : NodeValue) → IsLongest at b node → node.height < 32 → node.index ≡ 2 * (node.index / 2) → b < high_of node + 2 ^ node.height
left-near at b node is short even =
    let span : ℕ = 2 ^ node.height in
    let half : ℕ = node.index / 2 in
    let double : 2 ^ (node.height + 1) ≡ span * 2 = ap (λ (h : ℕ). 2 ^ h) (omega arith) ∙ pow-suc 2 node.height in
    let parent_low : half * 2 ^ (node.height + 1) ≡ half * (span * 2) = ap (λ (n : ℕ). half * n) double in
    let low : node.index * span ≡ 2 * half * span = ap (λ (n : ℕ). n * span) even in
    elim (cases_lt b (high_of node + span)) [
      | inl lt ↦ lt
      | inr le ↦ absurd (is.longest short (record { after = omega (arith, is.begins, low, parent_low); before = omega (arith, low, parent_low, double) }))
    ]

shrinks-shorter : (at b count : ℕ) (node : NodeValue) (shrinks : Shrinks at b count) → IsLongest at b node → node.height < shrinks.rank
shrinks-shorter at b count node shrinks is =
    elim (cases_lt node.height shrinks.rank) [
      | inl lt ↦ lt
      | inr le ↦ absurd (omega (arith, is.begins, is.ends, shrinks.near, pow_mono {i = shrinks.rank} {j = node.height} le))
    ]

-- after a piece that is a left half the bound goes on
short-left : (at b count : ℕ) (node : NodeValue) → IsShort at b count → IsLongest at b node → node.height < 32 → node.index ≡ 2 * (node.index / 2) → IsShort (high_of node) b (suc count)
short-left at b count node walked is short even = inr (
    record {
      rank = node.height;
      multiple = node.index + 1;
      few = elim walked [
        | inl grows ↦ omega (arith, grows.bound, grows.few)
        | inr shrinks ↦ omega (arith, shrinks.few, shrinks-shorter at b count node shrinks is)
      ];
      near = left-near at b node is short even;
      aligned = omega arith;
    })

-- so it does after one that is a right half
short-right : (at b count : ℕ) (node : NodeValue) → IsShort at b count → IsLongest at b node → node.height < 32 → node.index ≡ 2 * (node.index / 2) + 1 → IsShort (high_of node) b (suc count)
short-right at b count node walked is short odd =
    elim walked [
      | inl grows ↦ elim (cases_lt node.height grows.rank) [
        | inl lt ↦ absurd (omega (arith, even-index node.index node.height grows.multiple grows.rank (is.begins ∙ grows.aligned) lt))
        | inr le ↦ inl (
            record {
              rank = suc node.height;
              multiple = node.index / 2 + 1;
              bound = omega arith;
              few = omega (arith, grows.few);
              aligned = whole;
            })
      ]
      | inr shrinks ↦ absurd (omega (
        arith,
        even-index node.index node.height shrinks.multiple shrinks.rank (is.begins ∙ shrinks.aligned) (shrinks-shorter at b count node shrinks is),
      ))
    ]
  where
    whole : high_of node ≡ (node.index / 2 + 1) * 2 ^ suc node.height
    whole = omega (
      arith,
      ap (λ (n : ℕ). (node.index / 2 + 1) * n) (pow-suc 2 node.height),
      ap (λ (n : ℕ). (n + 1) * 2 ^ node.height) odd,
    )

-- the node of all ticks is the only piece
short-whole : (at b count : ℕ) (node : NodeValue) → IsShort at b count → b ≤ 2 ^ 32 → IsLongest at b node → node.height ≡ 32 → IsShort (high_of node) b (suc count)
short-whole at b count node walked line is e =
    let span : 2 ^ node.height ≡ 2 ^ 32 = ap (λ (h : ℕ). 2 ^ h) e in
    inr (
    record {
      rank = 0;
      multiple = high_of node;
      few = elim walked [
        | inl grows ↦ omega (arith, grows.bound, grows.few)
        | inr shrinks ↦ omega (arith, shrinks.few, shrinks-shorter at b count node shrinks is)
      ];
      near = omega (arith, span, pow-zero 2);
      aligned = omega (arith, pow-zero 2);
    })

short-next : (at b count : ℕ) (node : NodeValue) → IsShort at b count → b ≤ 2 ^ 32 → IsLongest at b node → IsShort (high_of node) b (suc count)
short-next at b count node walked line is =
    elim (cases_lt node.height 32) [
      | inl lt ↦ elim (cases_eq node.index (2 * (node.index / 2))) [
        | inl even ↦ short-left at b count node walked is lt even
        | inr odd ↦ short-right at b count node walked is lt (omega arith)
      ]
      | inr le ↦ short-whole at b count node walked line is (omega (arith, is.is_node.within_height))
    ]

-- the same from any place on
few-from : (a b at count : ℕ) (nodes : List NodeValue) → b ≤ 2 ^ 32 → a ≤ at → Adjoin at b nodes → ((v : NodeValue) → Contains nodes v → IsPiece a b v) → IsShort at b count → count + length nodes ≤ 64
few-from a b at count [] line le adjoin each walked = omega (arith, short-last at b count walked)
few-from a b at count (v ∷ nodes) line le adjoin each walked =
    let is : IsPiece a b v = each v (here v nodes) in
    let longest : IsLongest at b v =
    record {
      is_node = is.is_node;
      begins = adjoin.0;
      ends = is.within.before;
      longest = λ short inside. is.maximal short (record { after = omega (arith, inside.after); before = inside.before });
    }
    in
    omega (
      arith,
      few-from a b (high_of v) (suc count) nodes line (omega (arith, adjoin.0, low-lt-high v)) adjoin.1 (λ w m. each w (there w v nodes m)) (short-next at b count v walked line longest),
    )

-- an interval within the line of time has at most 64 pieces: at most 32 while they grow, and 32 while they shrink
pub pieces-few : (a b : ℕ) (nodes : List NodeValue) → b ≤ 2 ^ 32 → Adjoin a b nodes → IsPieces a b nodes → length nodes ≤ 64
pieces-few a b nodes line adjoin pieces =
    omega (arith, few-from a b a 0 nodes line (omega arith) adjoin (λ v m. (pieces.members v).0 m) (short-first a b))
