-- Trees of rows by their keys, which fork where keys part.
use Rattle.std.specs.Prelude.{◌≡◌, ℕ, suc, ◌+◌, ◌*◌, ◌/◌, ◌^◌, ◌≤◌, max, if◌then◌else◌, List, All, ◌++◌, length}
use Rattle.definitions.specs.Rows.{RowValue, lies_in, moves_of}
use Rattle.definitions.specs.Signature.{weight as weight_of}
use Rattle.timeline.specs.Keys.{key_of}

-- a key of the keys that agree with it but for the last digits, this many; the last version that touched any of them; the number and the weight of the rows
pub record Label : Type 0 where
  pub key : ℕ
  pub height : ℕ
  pub version : ℕ
  pub count : ℕ
  pub weight : ℕ

-- the rows of one key, or those of two halves
pub data Trie : Type 0 where
  Leaf : Label → List RowValue → Trie
  Fork : Label → Trie → Trie → Trie

-- what is written at the root
abbrev pub label_of : Trie → Label
label_of (Leaf l rows) = l
label_of (Fork l x y) = l

-- the rows, in the order of their keys
abbrev pub rows_of : Trie → List RowValue
rows_of (Leaf l rows) = rows
rows_of (Fork l x y) = rows_of x ++ rows_of y

-- the last version that touched a key in [a, b), or 0
abbrev pub last_in : ℕ → ℕ → Trie → ℕ
last_in a b (Leaf l rows) = if lies_in a b l.key then l.version else 0
last_in a b (Fork l x y) = max (last_in a b x) (last_in a b y)

-- the label of the rows of one key
pub record IsLeafOf (l : Label) (rows : List RowValue) : Type 0 where
  pub lowest : l.height ≡ 0
  pub keyed : All (λ row. key_of row ≡ l.key) rows
  pub counted : l.count ≡ length rows
  pub weighed : l.weight ≡ weight_of (moves_of rows)

-- the label over two: the keys of the first have 0 as the digit at which they part, those of the second 1
pub record IsForkOf (l x y : Label) : Type 0 where
  pub half : ℕ
  pub higher : l.height ≡ suc half
  pub first_low : x.height ≤ half
  pub second_low : y.height ≤ half
  pub first_key : x.key / 2 ^ half ≡ 2 * (l.key / 2 ^ suc half)
  pub second_key : y.key / 2 ^ half ≡ 2 * (l.key / 2 ^ suc half) + 1
  pub latest : l.version ≡ max x.version y.version
  pub counted : l.count ≡ x.count + y.count
  pub weighed : l.weight ≡ x.weight + y.weight

-- each label is that of what is below it
unfoldable pub IsTrie : Trie → Type 0
IsTrie (Leaf l rows) = IsLeafOf l rows
IsTrie (Fork l x y) = IsForkOf l (label_of x) (label_of y) × IsTrie x × IsTrie y
