-- Numbers of words are small.
use Rattle.std.proofs.Common.{◌≡◌, ℕ, zero, suc, ◌+◌, ◌*◌, ◌-◌, ◌≤◌, ◌<◌, ◌^◌, arith, lit≤, List, ◌∷◌, length, set, drop, length-drop, ap, ◌/◌, ◌%◌, add-one, subst, sym}
use Rattle.std.specs.Prelude.{All}
use Rattle.std.proofs.lemmas.Nat.{div-add-mod', div_below, mod_below}
use Rattle.std.proofs.lemmas.List.{drop-set}
use Rattle.std.proofs.lemmas.List.Elements.{All-cons}
use Rattle.std.proofs.Math.Nat.{pow-le-pow_left, pow-le-pow_right, pow-suc, pow-zero, mul-le-mul_right}
use Rattle.definitions.specs.Words.{Extent, IsShape, IsWord, shorter, number, IsLetter}
use Rattle.definitions.proofs.WordLaws.{number-lt, place-lt, shorter_part}

-- 12 ^ 9
abbrev pub most : ℕ
most = 5159780352

-- a power of a width with at most nine factors is at most 12 ^ 9
pub power-fits : (width k : ℕ) → width ≤ 12 → k ≤ 9 → width ^ k ≤ most
power-fits width k w h =
    let twelve : 12 ^ k ≤ 12 ^ 9 = pow-le-pow_right (lit≤ tt) h in
    omega (arith, pow-le-pow_left w k, twelve)

-- the number so far, moved by one place, and one letter more
pub number-step-fits : (width : ℕ) (word : List ℕ) (n : ℕ) → n ≡ number width word → width ≤ 12 → length word ≤ 8 → All (IsLetter width) word → n * width + width ≤ most
number-step-fits width word n e w h letters =
    let room : suc (number width word) * width ≤ width ^ length word * width = mul-le-mul_right width (number-lt width word letters) in
    omega (arith, ap (λ (m : ℕ). m * width) e, room, pow-suc width (length word), power-fits width (suc (length word)) w (omega arith))

number-cons : (width r k : ℕ) (word : List ℕ) → length word ≡ k → number width ((r + 1) ∷ word) ≡ r * width ^ k + number width word
number-cons width r k word e =
    let one : r + 1 - 1 ≡ r = omega arith in
    omega (arith, ap (λ (n : ℕ). n * width ^ length word) one, ap (λ (n : ℕ). r * width ^ n) e)

-- one letter is written before those that stand
pub write-step : (width rest at now index : ℕ) (letters : List ℕ) → now + 1 ≡ at → now < length letters
    → rest * width ^ (length letters - at) + number width (drop at letters) ≡ index
    → rest / width * width ^ (length letters - now) + number width (drop now (set letters now (rest % width + 1))) ≡ index
write-step width rest at now index letters same here e =
    let k : ℕ = length letters - at in
    let front : drop now (set letters now (rest % width + 1)) ≡ (rest % width + 1) ∷ drop at letters = rw (← same) (drop-set letters now (rest % width + 1) here) in
    let one : length letters - now ≡ suc (length letters - at) = omega arith in
    let written : number width ((rest % width + 1) ∷ drop at letters) ≡ rest % width * width ^ (length letters - at) + number width (drop at letters) = number-cons width (rest % width) (length letters - at) (drop at letters) (length-drop at letters) in
    rw front (rw one (rw written (
    omega (
      arith,
      e,
      ap (λ (n : ℕ). rest / width * n) (pow-suc width (length letters - at)),
      ap (λ (n : ℕ). n * width ^ (length letters - at)) (div-add-mod' rest width),
    ))))

-- one letter less is to be written
pub rest-step : (width rest at now : ℕ) → now + 1 ≡ at → 1 ≤ width → rest < width ^ at → rest / width < width ^ now
rest-step width rest at now same some h =
    let e : width ^ at ≡ width ^ now * width = rw (← same) (rw add-one (pow-suc width now)) in
    div_below rest width (width ^ now) some (omega (arith, e, h))

-- what is written stays made of letters, with one letter more in front
pub letters-step : (width rest at now : ℕ) (letters : List ℕ) → now + 1 ≡ at → 1 ≤ width → now < length letters → All (IsLetter width) (drop at letters) → All (IsLetter width) (drop now (set letters now (rest % width + 1)))
letters-step width rest at now letters same some here h =
    let front : drop now (set letters now (rest % width + 1)) ≡ (rest % width + 1) ∷ drop at letters = rw (← same) (drop-set letters now (rest % width + 1) here) in
    let small : rest % width < width = mod_below rest width some in
    let letter : IsLetter width (rest % width + 1) = (omega arith, omega arith) in
    rw front (All-cons (IsLetter width) (rest % width + 1) (drop at letters) letter h)

-- once all places are written, the letters spell the word of the number
pub all-written : (width rest at index : ℕ) (letters : List ℕ) → at ≤ 0 → rest < width ^ at
    → rest * width ^ (length letters - at) + number width (drop at letters) ≡ index → number width letters ≡ index
all-written width rest zero index letters done h e =
    let none : rest ≡ 0 = omega (arith, pow-zero width, h) in
    omega (arith, e, ap (λ (n : ℕ). n * width ^ (length letters - 0)) none)
all-written width rest (suc at) index letters done h e = absurd (omega arith)

-- the place of a word, where the shape is known by its view
pub place-within : (e f : Extent) (word : List ℕ) (a b : ℕ) → e ≡ f → IsShape e → IsWord f word
    → a ≡ shorter e.width (length word) → b ≡ number e.width word → (a + b < shorter f.width (suc f.depth)) × (a + b < 2000)
place-within e f word a b same shape is_word ea eb =
    let here : IsWord e word = subst (λ (g : Extent). IsWord g word) (sym same) is_word in
    let low : shorter e.width (length word) + number e.width word < shorter e.width (suc e.depth) = place-lt e.width e.depth word here.letters here.short in
    let moved : shorter e.width (suc e.depth) ≡ shorter f.width (suc f.depth) = ap (λ (g : Extent). shorter g.width (suc g.depth)) same in
    (omega (arith, low, moved, ea, eb), omega (arith, low, shape.within_words, ea, eb))

-- how many words are shorter, where the shape is known by its view
pub before-within : (e f : Extent) (k n : ℕ) → e ≡ f → IsShape e → k ≤ f.depth + 1 → n ≡ shorter e.width k → (n ≤ shorter f.width (suc f.depth)) × (n ≤ 2000)
before-within e f k n same shape within en =
    let depths : e.depth ≡ f.depth = ap (λ (g : Extent). g.depth) same in
    let low : shorter e.width k ≤ shorter e.width (suc e.depth) = shorter_part e.width k (suc e.depth) (omega arith) in
    let moved : shorter e.width (suc e.depth) ≡ shorter f.width (suc f.depth) = ap (λ (g : Extent). shorter g.width (suc g.depth)) same in
    (omega (arith, low, moved, en), omega (arith, low, shape.within_words, en))
