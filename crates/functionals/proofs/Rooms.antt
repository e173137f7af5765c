-- The room of a table while terms are added, and the places of words behind a prefix.
use Rattle.std.proofs.Common.{◌≡◌, ℕ, zero, suc, ◌+◌, ◌*◌, ◌-◌, ◌^◌, ◌≤◌, ◌<◌, refl, sym, ap, ap₂, ◌∙◌, subst, arith, ℤ, pos, ◌*ℤ◌, unsigned_abs, List, [], ◌∷◌, ◌++◌, length, length-append, take, drop, map, get_or, replicate, inl, inr}
use Rattle.std.specs.Prelude.{All}
use Rattle.std.proofs.Math.Nat.{mul-le-mul_right, le-max_left, le-max_right}
use Rattle.std.proofs.lemmas.Bool.{cases_lt}
use Rattle.std.proofs.lemmas.Nat.{pow-add}
use Rattle.std.proofs.lemmas.List.{append_assoc, append-nil, map-append, length-map, take_more, take-append-drop, get_or-replicate, get_or_past, length-replicate}
use Rattle.std.proofs.lemmas.List.Sums.{sum_by-append}
use Rattle.std.proofs.lemmas.List.Elements.{All-nil, All-cons, All-head, All-tail, All-append}
use Rattle.definitions.specs.Words.{Extent, IsShape, IsWord, IsLetter, shorter, number}
use Rattle.definitions.specs.Signature.{limit}
use Rattle.definitions.specs.Shuffles.{shuffles}
use Rattle.definitions.proofs.Integers.{abs-add}
use Rattle.definitions.proofs.WordLaws.{number-push, place-lt}
use Rattle.functionals.specs.declared.term.WordTerm.{WordTerm}
use Rattle.scaled_tensor.specs.Tensors.{place}
use Rattle.functionals.specs.Functionals.{behind, each_with, norm, reach, coefficient_at, shuffled_pair, shuffled_by, shuffled}
use Rattle.functionals.specs.Tables.{IsAdded, HasRoom, IsPrefix}
use Rattle.functionals.proofs.Added.{added-both, behind-shuffles}
use Rattle.functionals.proofs.ProductNorms.{coefficient_at-le, norm-each_with}

-- ---- rooms
-- what is left of the room after terms were added
pub room-after : (extent : Extent) (old new : List ℤ) (f : List WordTerm) (m n : ℕ) → HasRoom extent old m → IsAdded extent old new f → norm f + n ≤ m → HasRoom extent new n
room-after extent old new f m n room added fits = record {
  at = λ word is.
      omega (
        arith,
        fits,
        room.at word is,
        ap unsigned_abs (added.added word is),
        abs-add (get_or old (place extent word) (pos 0)) (coefficient_at f word),
        coefficient_at-le f word,
      );
}

room-less : (extent : Extent) (sums : List ℤ) (m n : ℕ) → HasRoom extent sums m → n ≤ m → HasRoom extent sums n
room-less extent sums m n room less = record { at = λ word is. omega (arith, room.at word is, less) }

-- a room is at most the limit
pub room-limit : (extent : Extent) (sums : List ℤ) (m : ℕ) → HasRoom extent sums m → m ≤ limit
room-limit extent sums m room = omega (arith, room.at [] (record { short = omega arith; letters = All-nil (IsLetter extent.width) }))

-- a table of zeros has room for whatever is in range
pub room-zeros : (extent : Extent) (sums : List ℤ) (m : ℕ) → ((i : ℕ) → get_or sums i (pos 0) ≡ pos 0) → m ≤ limit → HasRoom extent sums m
room-zeros extent sums m zeros fits = record { at = λ word is. omega (arith, fits, ap unsigned_abs (zeros (place extent word))) }

zero-at : (n i : ℕ) → get_or (replicate n (pos 0)) i (pos 0) ≡ pos 0
zero-at n i =
    elim (cases_lt i n) [
      | inl low ↦ get_or-replicate n i (pos 0) (pos 0) low
      | inr high ↦ get_or_past (replicate n (pos 0)) i (pos 0) (omega (arith, length-replicate n (pos 0)))
    ]

-- each number of a list of zeros is 0, past its end too
pub zeros-at : (sums : List ℤ) (n : ℕ) → sums ≡ replicate n (pos 0) → (i : ℕ) → get_or sums i (pos 0) ≡ pos 0
zeros-at sums n e i = ap (λ (xs : List ℤ). get_or xs i (pos 0)) e ∙ zero-at n i

-- ---- prefixes
number-append : (width : ℕ) (u v : List ℕ) → number width (u ++ v) ≡ number width u * width ^ length v + number width v
number-append width [] v = omega arith
number-append width (a ∷ u) v =
    omega (
      arith,
      number-append width u v,
      ap (λ (n : ℕ). (a - 1) * width ^ n) (length-append u v),
      ap (λ (n : ℕ). (a - 1) * n) (pow-add width (length u) (length v)),
    )

-- the place of a word by its prefix
pub place-behind : (extent : Extent) (start index : ℕ) (p v : List ℕ) → IsPrefix extent start index (length v) p → place extent (p ++ v) ≡ start + index * extent.width ^ length v + number extent.width v
place-behind extent start index p v is =
    omega (
      arith,
      number-append extent.width p v,
      ap (shorter extent.width) (length-append p v),
      ap (λ (n : ℕ). n * extent.width ^ length v) is.index_is,
      is.start_is,
    )

-- a prefix with letters behind it is a word
pub word-behind : (extent : Extent) (start index : ℕ) (p v : List ℕ) → IsPrefix extent start index (length v) p → All (IsLetter extent.width) v → IsWord extent (p ++ v)
word-behind extent start index p v is letters = record {
  short = omega (arith, is.short, length-append p v);
  letters = All-append (IsLetter extent.width) p v is.letters letters;
}

-- and stands at a place of the table
pub behind-bound : (extent : Extent) (start index : ℕ) (v : List ℕ) → (p : List ℕ) × IsPrefix extent start index (length v) p → All (IsLetter extent.width) v
    → start + index * extent.width ^ length v + number extent.width v < shorter extent.width (suc extent.depth)
behind-bound extent start index v before letters =
    let is : IsWord extent (before.0 ++ v) = word-behind extent start index before.0 v before.1 letters in
    omega (arith, place-behind extent start index before.0 v before.1, place-lt extent.width extent.depth (before.0 ++ v) is.letters is.short)

-- the index of a prefix is less than the number of words
pub index-bound : (extent : Extent) (start index last : ℕ) (p : List ℕ) → IsPrefix extent start index last p → index ≤ 2000
index-bound extent start index last p is =
    omega (arith, place-lt extent.width extent.depth p is.letters (omega (arith, is.short)), is.index_is, is.shape.within_words)

-- so many letters behind a prefix, written in two ways
pub prefix-same : (extent : Extent) (start index m n : ℕ) (p : List ℕ) → IsPrefix extent start index m p → m ≡ n → IsPrefix extent start index n p
prefix-same extent start index m n p is e = subst (λ (k : ℕ). IsPrefix extent start index k p) e is

-- one letter more
prefix-longer : (extent : Extent) (start index last n longer letter : ℕ) (p : List ℕ) → IsPrefix extent start index n p → n ≡ suc last → IsLetter extent.width letter → longer ≡ extent.width * index + (letter - 1)
    → IsPrefix extent start longer last (p ++ letter ∷ [])
prefix-longer extent start index last n longer letter p is one letter_is e =
    let more : length (p ++ letter ∷ []) ≡ suc (length p) = omega (arith, length-append p (letter ∷ [])) in
    let all : length p + n ≡ length (p ++ letter ∷ []) + last = omega (arith, more) in
    record {
      shape = is.shape;
      letters = All-append (IsLetter extent.width) p (letter ∷ []) is.letters (All-cons (IsLetter extent.width) letter [] letter_is (All-nil (IsLetter extent.width)));
      short = omega (arith, is.short, all);
      index_is = omega (arith, number-push extent.width p letter, ap (λ (k : ℕ). extent.width * k) is.index_is, e);
      start_is = is.start_is ∙ ap (shorter extent.width) all;
    }

-- the first of a word's letters
pub first-letter : (width : ℕ) (u rest : List ℕ) (a : ℕ) → u ≡ a ∷ rest → All (IsLetter width) u → IsLetter width a
first-letter width u rest a e letters = All-head (IsLetter width) a rest (subst (λ (w : List ℕ). All (IsLetter width) w) e letters)

-- the others of a word's letters
pub other-letters : (width : ℕ) (u rest : List ℕ) (a : ℕ) → u ≡ a ∷ rest → All (IsLetter width) u → All (IsLetter width) rest
other-letters width u rest a e letters = All-tail (IsLetter width) a rest (subst (λ (w : List ℕ). All (IsLetter width) w) e letters)

-- the first letter of u goes over to the prefix
pub prefix-left : (extent : Extent) (start index longer : ℕ) (p u v rest : List ℕ) (a : ℕ) → IsPrefix extent start index (length u + length v) p → u ≡ a ∷ rest → All (IsLetter extent.width) u
    → longer ≡ extent.width * index + (a - 1) → IsPrefix extent start longer (length rest + length v) (p ++ a ∷ [])
prefix-left extent start index longer p u v rest a is e letters next =
    prefix-longer extent start index (length rest + length v) (length u + length v) longer a p is (omega (arith, ap (λ (w : List ℕ). length w) e)) (first-letter extent.width u rest a e letters) next

-- the first letter of v goes over to the prefix
pub prefix-right : (extent : Extent) (start index longer : ℕ) (p u v rest : List ℕ) (b : ℕ) → IsPrefix extent start index (length u + length v) p → v ≡ b ∷ rest → All (IsLetter extent.width) v
    → longer ≡ extent.width * index + (b - 1) → IsPrefix extent start longer (length u + length rest) (p ++ b ∷ [])
prefix-right extent start index longer p u v rest b is e letters next =
    prefix-longer extent start index (length u + length rest) (length u + length v) longer b p is (omega (arith, ap (λ (w : List ℕ). length w) e)) (first-letter extent.width v rest b e letters) next

-- ---- the shuffles of two words behind a prefix, by their first letters
-- the one shuffle of the empty word and a word
pub none-left : (u v : List ℕ) → length u ≡ 0 → shuffles u v ≡ v ∷ []
none-left [] v h = refl
none-left (a ∷ u) v h = absurd (omega arith)

-- the one shuffle of a word and the empty word
pub none-right : (u v : List ℕ) → length v ≡ 0 → shuffles u v ≡ u ∷ []
none-right [] [] h = refl
none-right (a ∷ u) [] h = refl
none-right u (b ∷ v) h = absurd (omega arith)

-- where there is one shuffle, it is added
pub one-added : (extent : Extent) (old new : List ℤ) (p u v w : List ℕ) (c d : ℤ) → shuffles u v ≡ w ∷ [] → d ≡ c → IsAdded extent old new (record { word = p ++ w; coefficient = d } ∷ []) → IsAdded extent old new (each_with c (behind p (shuffles u v)))
one-added extent old new p u v w c d e same added =
    subst (λ (terms : List WordTerm). IsAdded extent old new terms) (ap (λ (x : ℤ). record { word = p ++ w; coefficient = x } ∷ []) same ∙ sym (ap (λ (ws : List (List ℕ)). each_with c (behind p ws)) e)) added

halves : (p u v u' v' : List ℕ) (a b : ℕ) → u ≡ a ∷ u' → v ≡ b ∷ v' → behind p (shuffles u v) ≡ behind (p ++ a ∷ []) (shuffles u' v) ++ behind (p ++ b ∷ []) (shuffles u v')
halves p u v u' v' a b eu ev =
    ap₂ (λ (x y : List ℕ). behind p (shuffles x y)) eu ev
    ∙ behind-shuffles p a b u' v'
    ∙ sym (ap₂ (λ (x y : List ℕ). behind (p ++ a ∷ []) (shuffles u' y) ++ behind (p ++ b ∷ []) (shuffles x v')) eu ev)

-- the shuffles that begin with the one first letter, then those that begin with the other
pub both-added : (extent : Extent) (old mid new : List ℤ) (p u v u' v' : List ℕ) (a b : ℕ) (c d : ℤ) → u ≡ a ∷ u' → v ≡ b ∷ v' → d ≡ c
    → IsAdded extent old mid (each_with d (behind (p ++ a ∷ []) (shuffles u' v))) → IsAdded extent mid new (each_with d (behind (p ++ b ∷ []) (shuffles u v'))) → IsAdded extent old new (each_with c (behind p (shuffles u v)))
both-added extent old mid new p u v u' v' a b c d eu ev same first second =
    let left : List (List ℕ) = behind (p ++ a ∷ []) (shuffles u' v) in
    let right : List (List ℕ) = behind (p ++ b ∷ []) (shuffles u v') in
    subst (λ (terms : List WordTerm). IsAdded extent old new terms)
    (sym (map-append (λ w. record { word = w; coefficient = d }) left right) ∙ ap (λ (x : ℤ). each_with x (left ++ right)) same ∙ sym (ap (each_with c) (halves p u v u' v' a b eu ev)))
    (added-both extent old mid new (each_with d left) (each_with d right) first second)

count-halves : (u v u' v' : List ℕ) (a b : ℕ) → u ≡ a ∷ u' → v ≡ b ∷ v' → length (shuffles u v) ≡ length (shuffles u' v) + length (shuffles u v')
count-halves u v u' v' a b eu ev =
    omega (
      arith,
      ap (λ (ws : List (List ℕ)). length ws) (halves [] u v u' v' a b eu ev),
      length-append (behind (a ∷ []) (shuffles u' v)) (behind (b ∷ []) (shuffles u v')),
      length-map (shuffles u v) (λ w. [] ++ w),
      length-map (shuffles u' v) (λ w. (a ∷ []) ++ w),
      length-map (shuffles u v') (λ w. (b ∷ []) ++ w),
    )

-- the room for the shuffles that begin with the first letter of u
pub room-left : (extent : Extent) (sums : List ℤ) (u v u' v' : List ℕ) (a b : ℕ) (c d : ℤ) → u ≡ a ∷ u' → v ≡ b ∷ v' → d ≡ c → HasRoom extent sums (length (shuffles u v) * unsigned_abs c)
    → HasRoom extent sums (length (shuffles u' v) * unsigned_abs d)
room-left extent sums u v u' v' a b c d eu ev same room =
    room-less extent sums (length (shuffles u v) * unsigned_abs c) (length (shuffles u' v) * unsigned_abs d) room
    (omega (
      arith,
      ap (λ (n : ℕ). n * unsigned_abs c) (count-halves u v u' v' a b eu ev),
      ap (λ (x : ℤ). length (shuffles u' v) * unsigned_abs x) same,
    ))

-- and then for those that begin with the first letter of v
pub room-right : (extent : Extent) (old new : List ℤ) (p u v u' v' : List ℕ) (a b : ℕ) (c d : ℤ) → u ≡ a ∷ u' → v ≡ b ∷ v' → d ≡ c → HasRoom extent old (length (shuffles u v) * unsigned_abs c)
    → IsAdded extent old new (each_with d (behind (p ++ a ∷ []) (shuffles u' v))) → HasRoom extent new (length (shuffles u v') * unsigned_abs d)
room-right extent old new p u v u' v' a b c d eu ev same room added =
    room-after extent old new (each_with d (behind (p ++ a ∷ []) (shuffles u' v))) (length (shuffles u v) * unsigned_abs c) (length (shuffles u v') * unsigned_abs d) room added
    (omega (
      arith,
      ap (λ (n : ℕ). n * unsigned_abs c) (count-halves u v u' v' a b eu ev),
      ap (λ (x : ℤ). length (shuffles u v') * unsigned_abs x) same,
      ap (λ (x : ℤ). length (shuffles u' v) * unsigned_abs x) same,
      norm-each_with d (behind (p ++ a ∷ []) (shuffles u' v)),
      ap (λ (n : ℕ). n * unsigned_abs d) (length-map (shuffles u' v) (λ w. (p ++ a ∷ []) ++ w)),
    ))

-- ---- lists of shuffles
shuffles-some : (u v : List ℕ) → 1 ≤ length (shuffles u v)
shuffles-some [] v = omega arith
shuffles-some (a ∷ u) [] = omega arith
shuffles-some (a ∷ u) (b ∷ v) =
    omega (
      arith,
      length-append (map (λ w. a ∷ w) (shuffles u (b ∷ v))) (map (λ w. b ∷ w) (shuffles (a ∷ u) v)),
      length-map (shuffles u (b ∷ v)) (λ w. a ∷ w),
      shuffles-some u (b ∷ v),
    )

-- the coefficient of two terms is within the norm of their shuffles
pub pair-coefficient : (t r : WordTerm) → unsigned_abs (t.coefficient *ℤ r.coefficient) ≤ norm (shuffled_pair t r)
pair-coefficient t r =
    let c : ℕ = unsigned_abs (t.coefficient *ℤ r.coefficient) in
    let some : 1 * c ≤ length (shuffles t.word r.word) * c = mul-le-mul_right c (shuffles-some t.word r.word) in
    omega (arith, some, norm-each_with (t.coefficient *ℤ r.coefficient) (shuffles t.word r.word))

-- the shuffles of two terms begin behind no letter
pub prefix-none : (extent : Extent) (start last : ℕ) → IsShape extent → last ≤ extent.depth → start ≡ shorter extent.width last → IsPrefix extent start 0 last []
prefix-none extent start last shape short e = record {
  shape = shape;
  letters = All-nil (IsLetter extent.width);
  short = omega (arith, short);
  index_is = refl;
  start_is = e ∙ ap (shorter extent.width) (omega arith);
}

behind-none : (ws : List (List ℕ)) → behind [] ws ≡ ws
behind-none [] = refl
behind-none (w ∷ ws) = ap (λ (x : List (List ℕ)). w ∷ x) (behind-none ws)

-- the room for the shuffles of two terms, by their words and the product of their coefficients
pub pair-room : (extent : Extent) (sums : List ℤ) (t r : WordTerm) (u v : List ℕ) (c : ℤ) → u ≡ t.word → v ≡ r.word → c ≡ t.coefficient *ℤ r.coefficient → HasRoom extent sums (norm (shuffled_pair t r))
    → HasRoom extent sums (length (shuffles u v) * unsigned_abs c)
pair-room extent sums t r u v c eu ev ec room =
    room-less extent sums (norm (shuffled_pair t r)) (length (shuffles u v) * unsigned_abs c) room
    (omega (
      arith,
      norm-each_with (t.coefficient *ℤ r.coefficient) (shuffles t.word r.word),
      ap₂ (λ (x y : List ℕ). length (shuffles x y) * unsigned_abs c) eu ev,
      ap (λ (x : ℤ). length (shuffles t.word r.word) * unsigned_abs x) ec,
    ))

-- the shuffles of two terms, by their words and the product of their coefficients
pub pair-added : (extent : Extent) (old new : List ℤ) (t r : WordTerm) (u v : List ℕ) (c : ℤ) → u ≡ t.word → v ≡ r.word → c ≡ t.coefficient *ℤ r.coefficient
    → IsAdded extent old new (each_with c (behind [] (shuffles u v))) → IsAdded extent old new (shuffled_pair t r)
pair-added extent old new t r u v c eu ev ec added =
    subst (λ (terms : List WordTerm). IsAdded extent old new terms)
    (ap (each_with c) (behind-none (shuffles u v)) ∙ ap₂ (λ (x y : List ℕ). each_with c (shuffles x y)) eu ev ∙ ap (λ (x : ℤ). each_with x (shuffles t.word r.word)) ec) added

shuffled_by-append : (t : WordTerm) (g h : List WordTerm) → shuffled_by t (g ++ h) ≡ shuffled_by t g ++ shuffled_by t h
shuffled_by-append t [] h = refl
shuffled_by-append t (r ∷ g) h = ap (λ (x : List WordTerm). shuffled_pair t r ++ x) (shuffled_by-append t g h) ∙ sym (append_assoc (shuffled_pair t r) (shuffled_by t g) (shuffled_by t h))

shuffled-append : (f h g : List WordTerm) → shuffled (f ++ h) g ≡ shuffled f g ++ shuffled h g
shuffled-append [] h g = refl
shuffled-append (t ∷ f) h g = ap (λ (x : List WordTerm). shuffled_by t g ++ x) (shuffled-append f h g) ∙ sym (append_assoc (shuffled_by t g) (shuffled f g) (shuffled h g))

-- one pair more
pub shuffled_by-more : (t : WordTerm) (g : List WordTerm) (i : ℕ) (r : WordTerm) → i < length g → r ≡ get_or g i r → shuffled_by t (take (i + 1) g) ≡ shuffled_by t (take i g) ++ shuffled_pair t r
shuffled_by-more t g i r here is =
    ap (shuffled_by t) (take_more g i r here)
    ∙ shuffled_by-append t (take i g) (get_or g i r ∷ [])
    ∙ ap (λ (x : List WordTerm). shuffled_by t (take i g) ++ x) (append-nil (shuffled_pair t (get_or g i r)) ∙ ap (shuffled_pair t) (sym is))

-- one term more
pub shuffled-more : (f g : List WordTerm) (i : ℕ) (t : WordTerm) → i < length f → t ≡ get_or f i t → shuffled (take (i + 1) f) g ≡ shuffled (take i f) g ++ shuffled_by t g
shuffled-more f g i t here is =
    ap (λ (x : List WordTerm). shuffled x g) (take_more f i t here)
    ∙ shuffled-append (take i f) (get_or f i t ∷ []) g
    ∙ ap (λ (x : List WordTerm). shuffled (take i f) g ++ x) (append-nil (shuffled_by (get_or f i t) g) ∙ ap (λ (x : WordTerm). shuffled_by x g) (sym is))

-- what is left for the next pair, and for the next term
abbrev size_of : WordTerm → ℕ
size_of t = unsigned_abs t.coefficient

-- the pairs so far and the next one are a part of all
pub shuffled_by-part : (t : WordTerm) (g : List WordTerm) (i : ℕ) (r : WordTerm) → i < length g → r ≡ get_or g i r → norm (shuffled_by t (take i g)) + norm (shuffled_pair t r) ≤ norm (shuffled_by t g)
shuffled_by-part t g i r here is =
    let all : shuffled_by t (take (i + 1) g) ++ shuffled_by t (drop (i + 1) g) ≡ shuffled_by t g = sym (shuffled_by-append t (take (i + 1) g) (drop (i + 1) g)) ∙ ap (shuffled_by t) (take-append-drop (i + 1) g) in
    omega (
      arith,
      ap norm all,
      sum_by-append size_of (shuffled_by t (take (i + 1) g)) (shuffled_by t (drop (i + 1) g)),
      ap norm (shuffled_by-more t g i r here is),
      sum_by-append size_of (shuffled_by t (take i g)) (shuffled_pair t r),
    )

-- the terms so far and the next one, each with all of g, are a part of all
pub shuffled-part : (f g : List WordTerm) (i : ℕ) (t : WordTerm) → i < length f → t ≡ get_or f i t → norm (shuffled (take i f) g) + norm (shuffled_by t g) ≤ norm (shuffled f g)
shuffled-part f g i t here is =
    let all : shuffled (take (i + 1) f) g ++ shuffled (drop (i + 1) f) g ≡ shuffled f g = sym (shuffled-append (take (i + 1) f) (drop (i + 1) f) g) ∙ ap (λ (x : List WordTerm). shuffled x g) (take-append-drop (i + 1) f) in
    omega (
      arith,
      ap norm all,
      sum_by-append size_of (shuffled (take (i + 1) f) g) (shuffled (drop (i + 1) f) g),
      ap norm (shuffled-more f g i t here is),
      sum_by-append size_of (shuffled (take i f) g) (shuffled_by t g),
    )

-- ---- terms
word-reach : (terms : List WordTerm) (i : ℕ) (d : WordTerm) → i < length terms → length (get_or terms i d).word ≤ reach terms
word-reach [] i d here = absurd (omega arith)
word-reach (t ∷ terms) zero d here = le-max_left (length t.word) (reach terms)
word-reach (t ∷ terms) (suc i) d here = omega (arith, le-max_right (length t.word) (reach terms), word-reach terms i d (omega arith))

-- the word of a term has at most as many letters as the reach
pub reach-at : (terms : List WordTerm) (i : ℕ) (t : WordTerm) → i < length terms → t ≡ get_or terms i t → length t.word ≤ reach terms
reach-at terms i t here is = omega (arith, word-reach terms i t here, ap (λ (x : WordTerm). length x.word) is)
