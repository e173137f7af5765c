-- The places of the prefixes of a word, each found from the one before.
use Rattle.std.proofs.Common.{◌≡◌, ℕ, suc, ◌+◌, ◌*◌, ◌-◌, ◌≤◌, ◌<◌, ◌^◌, sym, ap, ◌∙◌, arith, add-one, List, length, take, length-take, get_or, set, ℤ, pos, get_or-set_same, get_or-set_other, inl, inr}
use Rattle.std.specs.Prelude.{All}
use Rattle.std.proofs.Math.Nat.{pow-suc, eq-or-lt_of_le}
use Rattle.std.proofs.lemmas.List.{take_more}
use Rattle.definitions.specs.Words.{IsLetter, IsWord, shorter, number}
use Rattle.definitions.proofs.WordLaws.{number-lt, number-push, letters-take, shorter_part}
use Rattle.scaled_tensor.specs.Tensors.{TensorValue, IsTensor, coefficient}

-- the prefix of i + 1 letters: how many words are shorter, how many are as long, and its number among these
pub record IsNext (width i before level index room : ℕ) (word : List ℕ) : Type 0 where
  -- how many words have at most i letters
  pub next_before : before + level ≡ shorter width (i + 1)
  -- how many have i + 1 letters
  pub next_level : level * width ≡ width ^ (i + 1)
  -- the number of the prefix, from that of one letter less and from its last letter
  pub next_index : index * width + (get_or word i 0 - 1) ≡ number width (take (i + 1) word)
  -- the words of i + 1 letters are no more than there is room for
  pub level_fits : level * width ≤ room
  -- the place of the prefix is one within the room
  pub place : before + level + (index * width + (get_or word i 0 - 1)) < room

-- they come from these numbers for the prefix of i letters
pub next : (width i before level index room : ℕ) (word : List ℕ) → All (IsLetter width) word → i < length word → shorter width (suc (length word)) ≤ room
    → before ≡ shorter width i → level ≡ width ^ i → index ≡ number width (take i word) → IsNext width i before level index room word
next width i before level index room word letters here enough eb el ei =
    let longer : number width (take (i + 1) word) ≡ width * number width (take i word) + (get_or word i 0 - 1) =
    ap (number width) (take_more word i 0 here) ∙ number-push width (take i word) (get_or word i 0) in
    let count : length (take (suc i) word) ≡ suc i = omega (arith, length-take (suc i) word) in
    let below : number width (take (suc i) word) < width ^ suc i = rw count at (number-lt width (take (suc i) word) (letters-take width (suc i) word letters)) in
    let within : shorter width (suc (suc i)) ≤ shorter width (suc (length word)) = shorter_part width (suc (suc i)) (suc (length word)) (omega arith) in
    let new_before : before + level ≡ shorter width (suc i) = omega (arith, eb, el) in
    let new_level : level * width ≡ width ^ suc i = omega (arith, pow-suc width i, ap (λ (n : ℕ). n * width) el) in
    let new_index : index * width + (get_or word i 0 - 1) ≡ number width (take (suc i) word) =
    omega (arith, longer, ap (λ (n : ℕ). n * width) ei, ap (λ (n : ℕ). number width (take n word)) (add-one i)) in
    record {
      next_before = new_before ∙ ap (shorter width) (sym (add-one i));
      next_level = new_level ∙ ap (λ (n : ℕ). width ^ n) (sym (add-one i));
      next_index = new_index ∙ ap (λ (n : ℕ). number width (take n word)) (sym (add-one i));
      level_fits = omega (arith, new_level, within, enough);
      place = omega (arith, new_before, new_index, below, within, enough);
    }

-- one value more is written
pub written-next : (values : List ℤ) (z : ℤ) (n : ℕ) (f : ℕ → ℤ) → n + 1 < length values → ((i : ℕ) → i ≤ n → get_or values i (pos 0) ≡ f i) → z ≡ f (n + 1)
    → (i : ℕ) → i ≤ n + 1 → get_or (set values (n + 1) z) i (pos 0) ≡ f i
written-next values z n f here before new i h =
    elim (eq-or-lt_of_le h) [
      | inl e ↦ rw e (get_or-set_same values (n + 1) z (pos 0) here ∙ new)
      | inr l ↦ get_or-set_other values (n + 1) i z (pos 0) (λ same. omega arith) ∙ before i (omega arith)
    ]

-- there is a coefficient for each word that is no longer than this one
pub prefixes-within : (t : TensorValue) (word : List ℕ) (width : ℕ) (coefficients : List ℤ) → IsTensor t → IsWord t.extent word → width ≡ t.extent.width → coefficients ≡ t.coefficients
    → shorter width (suc (length word)) ≤ length coefficients
prefixes-within t word width coefficients ok is_word ew ec =
    omega (
      arith,
      shorter_part t.extent.width (suc (length word)) (suc t.extent.depth) (omega (arith, is_word.short)),
      ok.all_words,
      ap (λ (n : ℕ). shorter n (suc (length word))) ew,
      ap (λ (xs : List ℤ). length xs) ec,
    )

-- at the place of the prefix of i letters stands its coefficient
pub prefix-coefficient : (t : TensorValue) (word : List ℕ) (i : ℕ) → i ≤ length word
    → get_or t.coefficients (shorter t.extent.width i + number t.extent.width (take i word)) (pos 0) ≡ coefficient t (take i word)
unfolding coefficient
prefix-coefficient t word i h =
    let count : i ≡ length (take i word) = omega (arith, length-take i word) in
    ap (λ (n : ℕ). get_or t.coefficients (shorter t.extent.width n + number t.extent.width (take i word)) (pos 0)) count
