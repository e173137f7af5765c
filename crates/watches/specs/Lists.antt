-- Lists of numbers, of which some get one number more.
use Rattle.std.specs.declared.alloc.Global.{Global}
use Rattle.std.specs.Prelude.{◌≡◌, ◌≢◌, ℕ, ◌+◌, ◌<◌, ◌≤◌, List, [], ◌∷◌, ◌++◌, length, slice_index, slice_index_or, Vec, vec_len, vec_capacity}

-- places below n, rising
pub record ArePlaces (n : ℕ) (places : List ℕ) : Type 0 where
  pub within : (p : ℕ) → p < length places → slice_index places p < n
  pub rising : (p q : ℕ) → p < q → q < length places → slice_index places p < slice_index places q

-- each of these lists takes one number with no memory
abbrev pub HaveRoom : List (Vec ℕ Global) → List ℕ → Type 0
HaveRoom lists places = (p : ℕ) (d : Vec ℕ Global) → p < length places → vec_len (slice_index_or lists (slice_index places p) d) < vec_capacity (slice_index_or lists (slice_index places p) d)

-- the same numbers
pub record AreSame (lists after : List (Vec ℕ Global)) : Type 0 where
  pub count : length after ≡ length lists
  pub each : (j : ℕ) (d : Vec ℕ Global) → (slice_index_or after j d).items ≡ (slice_index_or lists j d).items

-- one number more at these places, and the same numbers elsewhere
pub record AreTold (lists after : List (Vec ℕ Global)) (places : List ℕ) (version : ℕ) : Type 0 where
  pub count : length after ≡ length lists
  pub told : (p : ℕ) (d : Vec ℕ Global) → p < length places → (slice_index_or after (slice_index places p) d).items ≡ (slice_index_or lists (slice_index places p) d).items ++ version ∷ []
  pub others : (j : ℕ) (d : Vec ℕ Global) → ((p : ℕ) → p < length places → slice_index places p ≢ j) → (slice_index_or after j d).items ≡ (slice_index_or lists j d).items
