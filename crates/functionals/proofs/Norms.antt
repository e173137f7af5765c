-- Norms, masses and reaches of the first terms of a list.
use Rattle.std.proofs.Common.{◌≡◌, ℕ, zero, suc, ◌+◌, ◌≤◌, ◌<◌, sym, ap, ap₂, ◌∙◌, arith, List, [], ◌∷◌, length, take, get_or, unsigned_abs, Bool, true, false, cond, nat_eq}
use Rattle.std.specs.Prelude.{max}
use Rattle.std.proofs.lemmas.List.Sums.{sum_by_more_le_part, sum_by-take-le, sum_by-cons}
use Rattle.std.proofs.Math.Nat.{max_comm, max-le, le-max_left, le-max_right}
use Rattle.definitions.specs.Words.{Extent, IsWord}
use Rattle.definitions.specs.Signature.{limit}
use Rattle.functionals.specs.declared.term.WordTerm.{WordTerm}
use Rattle.functionals.specs.Functionals.{norm, mass, reach, IsFunctional}

part-le : (b : Bool) (n : ℕ) → cond b n 0 ≤ n
part-le true n = omega arith
part-le false n = omega arith

-- one term more has room
mass-room : (k : ℕ) (terms : List WordTerm) (i : ℕ) (d : WordTerm) → norm terms ≤ limit → i < length terms → mass k (take i terms) + unsigned_abs (get_or terms i d).coefficient ≤ limit
mass-room k terms i d fits here =
    omega (
      arith,
      fits,
      sum_by_more_le_part (λ (t : WordTerm). cond (nat_eq (length t.word) k) (unsigned_abs t.coefficient) 0) (λ (t : WordTerm). unsigned_abs t.coefficient) terms i d here
          (λ t. part-le (nat_eq (length t.word) k) (unsigned_abs t.coefficient)),
    )

-- the mass is at most the norm
pub mass-le : (k : ℕ) (terms : List WordTerm) → mass k terms ≤ norm terms
mass-le k [] = omega arith
mass-le k (t ∷ terms) =
    omega (
      arith,
      sum_by-cons (λ (x : WordTerm). cond (nat_eq (length x.word) k) (unsigned_abs x.coefficient) 0) t terms,
      sum_by-cons (λ (x : WordTerm). unsigned_abs x.coefficient) t terms,
      part-le (nat_eq (length t.word) k) (unsigned_abs t.coefficient),
      mass-le k terms,
    )

max_together : (a b c : ℕ) → max (max a b) c ≡ max a (max b c)
max_together a b c =
    let right : b ≤ max a (max b c) = omega (arith, le-max_left b c, le-max_right a (max b c)) in
    let last : c ≤ max a (max b c) = omega (arith, le-max_right b c, le-max_right a (max b c)) in
    let first : max a b ≤ max a (max b c) = max-le (le-max_left a (max b c)) right in
    let low : max (max a b) c ≤ max a (max b c) = max-le first last in
    let a' : a ≤ max (max a b) c = omega (arith, le-max_left a b, le-max_left (max a b) c) in
    let b' : b ≤ max (max a b) c = omega (arith, le-max_right a b, le-max_left (max a b) c) in
    let bc : max b c ≤ max (max a b) c = max-le b' (le-max_right (max a b) c) in
    let high : max a (max b c) ≤ max (max a b) c = max-le a' bc in
    omega (arith, low, high)

reach-take_more : (terms : List WordTerm) (i : ℕ) (d : WordTerm) → i < length terms → reach (take (i + 1) terms) ≡ max (reach (take i terms)) (length (get_or terms i d).word)
reach-take_more [] i d h = absurd (omega arith)
reach-take_more (t ∷ terms) zero d h = max_comm (length t.word) 0
reach-take_more (t ∷ terms) (suc i) d h =
    (let e : suc i + 1 ≡ suc (i + 1) = omega arith in ap (λ (n : ℕ). reach (take n (t ∷ terms))) e)
    ∙ ap (λ (n : ℕ). max (length t.word) n) (reach-take_more terms i d (omega arith))
    ∙ sym (max_together (length t.word) (reach (take i terms)) (length (get_or terms i d).word))

-- the word of a term has at most as many letters as the depth
pub short-at : (extent : Extent) (terms items : List WordTerm) (i : ℕ) (t : WordTerm) → IsFunctional extent terms → items ≡ terms → i < length items → t ≡ get_or items i t → length t.word ≤ extent.depth
short-at extent terms items i t ok e here at =
    let here' : i < length terms = omega (arith, ap (λ (xs : List WordTerm). length xs) e) in
    let same : get_or terms i t ≡ t = sym (at ∙ ap (λ (xs : List WordTerm). get_or xs i t) e) in
    let is : IsWord extent (get_or terms i t).word = ok.words i t here' in
    omega (arith, is.short, ap (λ (r : WordTerm). length r.word) same)

-- the reach of one term more
pub reach-step : (terms items : List WordTerm) (i r m : ℕ) (t : WordTerm) (word : List ℕ) → items ≡ terms → i < length items → t ≡ get_or items i t → word ≡ t.word → r ≡ reach (take i terms) → m ≡ max r (length word)
    → m ≡ reach (take (i + 1) terms)
reach-step terms items i r m t word e here at w before is =
    let here' : i < length terms = omega (arith, ap (λ (xs : List WordTerm). length xs) e) in
    let same : t ≡ get_or terms i t = at ∙ ap (λ (xs : List WordTerm). get_or xs i t) e in
    is ∙ ap₂ max before (ap (λ (u : List ℕ). length u) w ∙ ap (λ (x : WordTerm). length x.word) same) ∙ sym (reach-take_more terms i t here')

-- the mass of the first terms is in range
pub mass-bound : (k : ℕ) (terms : List WordTerm) (i : ℕ) → norm terms ≤ limit → mass k (take i terms) ≤ limit
mass-bound k terms i fits =
    omega (arith, fits, sum_by-take-le (λ (x : WordTerm). cond (nat_eq (length x.word) k) (unsigned_abs x.coefficient) 0) terms i, mass-le k terms)

-- the mass of one term more is in range
pub mass-step : (k : ℕ) (terms items : List WordTerm) (i n m : ℕ) (t : WordTerm) → norm terms ≤ limit → items ≡ terms → i < length items → t ≡ get_or items i t → m ≡ mass k (take i terms) → n ≡ unsigned_abs t.coefficient
    → m + n ≤ limit
mass-step k terms items i n m t fits e here at before is =
    let here' : i < length terms = omega (arith, ap (λ (xs : List WordTerm). length xs) e) in
    let same : t ≡ get_or terms i t = at ∙ ap (λ (xs : List WordTerm). get_or xs i t) e in
    omega (arith, mass-room k terms i t fits here', before, is, ap (λ (x : WordTerm). unsigned_abs x.coefficient) same)

-- each coefficient is in range
pub coefficient-small : (k : ℕ) (terms items : List WordTerm) (i : ℕ) (t : WordTerm) → norm terms ≤ limit → items ≡ terms → i < length items → t ≡ get_or items i t → unsigned_abs t.coefficient ≤ limit
coefficient-small k terms items i t fits e here at =
    let here' : i < length terms = omega (arith, ap (λ (xs : List WordTerm). length xs) e) in
    let same : t ≡ get_or terms i t = at ∙ ap (λ (xs : List WordTerm). get_or xs i t) e in
    omega (arith, mass-room k terms i t fits here', ap (λ (x : WordTerm). unsigned_abs x.coefficient) same)
