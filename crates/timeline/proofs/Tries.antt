-- What follows of a tree from its labels.
use Rattle.std.proofs.Common.{◌≡◌, ◌∙◌, ℕ, suc, ◌+◌, ◌*◌, ◌/◌, ◌<◌, ◌≤◌, ◌^◌, ◌⊎◌, [], length, refl, sym, ap, arith, true, false, cond, Bool, length-append}
use Rattle.std.specs.Prelude.{max}
use Rattle.std.specs.List.{All}
use Rattle.std.proofs.lemmas.List.Elements.{All-append, All-weaker}
use Rattle.definitions.specs.Rows.{RowValue, lies_in, moves_of}
use Rattle.definitions.specs.Signature.{weight as weight_of}
use Rattle.timeline.specs.Keys.{key_of, keyed_in}
use Rattle.timeline.specs.Tries.{Label, Trie, Leaf, Fork, label_of, rows_of, last_in, IsForkOf, IsTrie}
use Rattle.timeline.proofs.Prefixes.{prefix-suc, agree-shorter, power_pos}
use Rattle.timeline.proofs.Filters.{HasPrefix, key-outside, key-inside, rows-outside, rows-inside, weight-append}

-- ---- all keys agree with one without their last digits
-- the keys of all leaves agree with k but for the last g digits
unfoldable pub Agree : ℕ → ℕ → Trie → Type 0
Agree g k (Leaf l rows) = l.key / 2 ^ g ≡ k / 2 ^ g
Agree g k (Fork l x y) = Agree g k x × Agree g k y

agree-less : (g h k : ℕ) (t : Trie) → g ≤ h → Agree g k t → Agree h k t
unfolding Agree
agree-less g h k (Leaf l rows) order a = agree-shorter l.key k g h order a
agree-less g h k (Fork l x y) order a = (agree-less g h k x order a.0, agree-less g h k y order a.1)

agree-other : (g j k : ℕ) (t : Trie) → j / 2 ^ g ≡ k / 2 ^ g → Agree g j t → Agree g k t
unfolding Agree
agree-other g j k (Leaf l rows) e a = a ∙ e
agree-other g j k (Fork l x y) e a = (agree-other g j k x e a.0, agree-other g j k y e a.1)

-- the keys of the halves agree with that of the fork
half-agrees : (x l half p d : ℕ) → p ≡ l / 2 ^ suc half → x / 2 ^ half ≡ 2 * p + d → d < 2 → x / 2 ^ suc half ≡ l / 2 ^ suc half
half-agrees x l half p d e h s = prefix-suc x half ∙ ap (λ (n : ℕ). n / 2) h ∙ halved p d s ∙ e
  where
    halved : (p d : ℕ) → d < 2 → (2 * p + d) / 2 ≡ p
    halved p d s = omega arith

-- the key of the first half agrees with the fork's but for the digit where the halves part, and those after it
pub first-agrees : (l x y : Label) (f : IsForkOf l x y) → x.key / 2 ^ suc f.half ≡ l.key / 2 ^ suc f.half
first-agrees l x y f = half-agrees x.key l.key f.half (l.key / 2 ^ suc f.half) 0 refl (omega (arith, f.first_key)) (omega arith)

-- so does that of the second half
pub second-agrees : (l x y : Label) (f : IsForkOf l x y) → y.key / 2 ^ suc f.half ≡ l.key / 2 ^ suc f.half
second-agrees l x y f = half-agrees y.key l.key f.half (l.key / 2 ^ suc f.half) 1 refl f.second_key (omega arith)

-- all keys of a tree of height g at most agree with that of its root but for the last g digits
pub agrees : (t : Trie) (g : ℕ) → IsTrie t → (label_of t).height ≤ g → Agree g (label_of t).key t
unfolding Agree IsTrie
agrees (Leaf l rows) g is low = refl
agrees (Fork l x y) g is low =
    let f : IsForkOf l (label_of x) (label_of y) = is.0 in
    let up : suc f.half ≤ g = omega (arith, f.higher, low) in (
      agree-other g (label_of x).key l.key x (agree-shorter (label_of x).key l.key (suc f.half) g up (first-agrees l (label_of x) (label_of y) f))
          (agree-less f.half g (label_of x).key x (omega (arith, up)) (agrees x f.half is.1 f.first_low)),
      agree-other g (label_of y).key l.key y (agree-shorter (label_of y).key l.key (suc f.half) g up (second-agrees l (label_of x) (label_of y) f))
          (agree-less f.half g (label_of y).key y (omega (arith, up)) (agrees y f.half is.2 f.second_low)),
    )

-- and so do those of the rows
agree-rows : (t : Trie) (g k : ℕ) → IsTrie t → Agree g k t → All (HasPrefix (2 ^ g) (k / 2 ^ g)) (rows_of t)
unfolding Agree IsTrie
agree-rows (Leaf l rows) g k is a =
    All-weaker (λ (row : RowValue). key_of row ≡ l.key) (HasPrefix (2 ^ g) (k / 2 ^ g)) (λ (row : RowValue) (e : key_of row ≡ l.key). ap (λ (n : ℕ). n / 2 ^ g) e ∙ a) rows is.keyed
agree-rows (Fork l x y) g k is a =
    All-append (HasPrefix (2 ^ g) (k / 2 ^ g)) (rows_of x) (rows_of y) (agree-rows x g k is.1 a.0) (agree-rows y g k is.2 a.1)

-- the rows of a tree of height g at most have the root's key without the last g digits as their prefix
pub rows-agree : (t : Trie) (g : ℕ) → IsTrie t → (label_of t).height ≤ g → All (HasPrefix (2 ^ g) ((label_of t).key / 2 ^ g)) (rows_of t)
rows-agree t g is low = agree-rows t g (label_of t).key is (agrees t g is low)

-- ---- the last version that touched an interval
module _ (a b k g : ℕ) where
  agree-outside : (t : Trie) → Agree g k t → (b ≤ k / 2 ^ g * 2 ^ g) ⊎ (k / 2 ^ g * 2 ^ g + 2 ^ g ≤ a) → last_in a b t ≡ 0
  unfolding Agree
  agree-outside (Leaf l rows) agree out = ap (λ t. cond t l.version 0) (key-outside a b k (2 ^ g) (power_pos g) out l.key agree)
  agree-outside (Fork l x y) agree out = ap (λ (n : ℕ). max n (last_in a b y)) (agree-outside x agree.0 out) ∙ ap (λ (n : ℕ). max 0 n) (agree-outside y agree.1 out)

  agree-inside : (t : Trie) → IsTrie t → Agree g k t → a ≤ k / 2 ^ g * 2 ^ g → k / 2 ^ g * 2 ^ g + 2 ^ g ≤ b → last_in a b t ≡ (label_of t).version
  unfolding Agree IsTrie
  agree-inside (Leaf l rows) is agree from to = ap (λ t. cond t l.version 0) (key-inside a b k (2 ^ g) (power_pos g) from to l.key agree)
  agree-inside (Fork l x y) is agree from to =
      ap (λ (n : ℕ). max n (last_in a b y)) (agree-inside x is.1 agree.0 from to) ∙ ap (λ (n : ℕ). max (label_of x).version n) (agree-inside y is.2 agree.1 from to) ∙ sym is.0.latest

cond-le : (t : Bool) (v : ℕ) → cond t v 0 ≤ v
cond-le true v = omega arith
cond-le false v = omega arith

max-le : (a b c d : ℕ) → a ≤ c → b ≤ d → max a b ≤ max c d
max-le a b c d p q = omega arith

-- the last version that touched an interval is at most that of the root
pub last-le : (a b : ℕ) (t : Trie) → IsTrie t → last_in a b t ≤ (label_of t).version
unfolding IsTrie
last-le a b (Leaf l rows) is = cond-le (lies_in a b l.key) l.version
last-le a b (Fork l x y) is =
    omega (arith, is.0.latest, max-le (last_in a b x) (last_in a b y) (label_of x).version (label_of y).version (last-le a b x is.1) (last-le a b y is.2))

-- ---- numbers and weights
-- the count at the root of a tree is the number of its rows
pub count-is : (t : Trie) → IsTrie t → (label_of t).count ≡ length (rows_of t)
unfolding IsTrie
count-is (Leaf l rows) is = is.counted
count-is (Fork l x y) is = omega (arith, is.0.counted, count-is x is.1, count-is y is.2, length-append (rows_of x) (rows_of y))

-- the weight at the root of a tree is that of its rows
pub weight-is : (t : Trie) → IsTrie t → (label_of t).weight ≡ weight_of (moves_of (rows_of t))
unfolding IsTrie
weight-is (Leaf l rows) is = is.weighed
weight-is (Fork l x y) is = omega (arith, is.0.weighed, weight-is x is.1, weight-is y is.2, weight-append (rows_of x) (rows_of y))

-- ---- what an interval finds at a tree
module _ (a b : ℕ) (t : Trie) (is : IsTrie t) where
  abbrev low : ℕ
  low = (label_of t).key / 2 ^ (label_of t).height * 2 ^ (label_of t).height

  abbrev size : ℕ
  size = 2 ^ (label_of t).height

  here : Agree (label_of t).height (label_of t).key t
  here = agrees t (label_of t).height is (omega arith)

  all : All (HasPrefix size ((label_of t).key / size)) (rows_of t)
  all = rows-agree t (label_of t).height is (omega arith)

  -- no version touched an interval that ends before the keys of the tree or begins after them
  pub last-outside : (b ≤ low) ⊎ (low + size ≤ a) → last_in a b t ≡ 0
  last-outside out = agree-outside a b (label_of t).key (label_of t).height t here out

  -- such an interval has none of the rows
  pub keyed-outside : (b ≤ low) ⊎ (low + size ≤ a) → keyed_in a b (rows_of t) ≡ []
  keyed-outside out = rows-outside a b (label_of t).key size (power_pos (label_of t).height) out (rows_of t) all

  -- the last version that touched an interval with all keys of the tree is that of the root
  pub last-inside : a ≤ low → low + size ≤ b → last_in a b t ≡ (label_of t).version
  last-inside from to = agree-inside a b (label_of t).key (label_of t).height t is here from to

  -- such an interval has all rows
  pub keyed-inside : a ≤ low → low + size ≤ b → keyed_in a b (rows_of t) ≡ rows_of t
  keyed-inside from to = rows-inside a b (label_of t).key size (power_pos (label_of t).height) from to (rows_of t) all
