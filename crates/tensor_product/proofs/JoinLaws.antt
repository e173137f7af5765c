-- The product in place: cut by cut in a level, level by level from the longest words down.
use Rattle.std.proofs.Common.{◌≡◌, ◌≢◌, ℕ, suc, ◌+◌, ◌*◌, ◌-◌, ◌≤◌, ◌<◌, ◌^◌, refl, sym, ap, ap₂, ◌∙◌, subst, arith, add-one, List, [], ◌∷◌, length, take, drop, length-take, length-drop, take_all, get_or, ℤ, pos, ◌+ℤ◌, ◌*ℤ◌, unsigned_abs, inl, inr}
use Rattle.std.proofs.Math.Nat.{one-le-pow, pow-zero, pow-suc, le_trans, pow-le-pow_left, pow-le-pow_right}
use Rattle.std.proofs.lemmas.Bool.{cases_lt}
use Rattle.std.proofs.lemmas.Int.{ints}
use Rattle.std.proofs.lemmas.List.{drop_all, get_or-take}
use Rattle.definitions.specs.Words.{Extent, IsWord, number, words_of, binom}
use Rattle.definitions.specs.Products.{unit, product_term, scaled_product}
use Rattle.definitions.specs.Sums.{sum_below, count_below}
use Rattle.definitions.proofs.Integers.{mul_assoc_ℤ, one-mul_ℤ, mul-one_ℤ, abs-add}
use Rattle.definitions.proofs.Binomials.{binom-all, binomial, binomial_term}
use Rattle.definitions.proofs.SumLaws.{count_below-le, count_below-part, abs-sum_below}
use Rattle.definitions.proofs.ProductBounds.{AreFactors, factors-bound, term-bound}
use Rattle.tensor_product.specs.Sigs.{IsBoundedBy}
use Rattle.tensor_product.proofs.SigLaws.{pow-within, prefixes-bounded}
use Rattle.tensor_product.proofs.LevelLaws.{ways-small}
use Rattle.definitions.proofs.WordLaws.{number-lt}
use Rattle.definitions.proofs.ProductLaws.{scaled_product-same, scaled_product-unit_left, scaled_product-unit_right}
use Rattle.scaled_tensor.specs.Tensors.{TensorValue, coefficient, outer_at, HasOuterRoomWithin}
use Rattle.scaled_tensor.proofs.CutLaws.{IsJoined, word-joined}
use Rattle.tensor_product.specs.Extension.{prefixes_of}
use Rattle.tensor_product.specs.Multiplication.{cut_value, cut_sum, HasJoinRoom, JoinsAt, IsProduct}
use Rattle.tensor_product.proofs.ExtendLaws.{word-take}
use Rattle.tensor_product.proofs.MultiplyLaws.{word-drop, suffixes-bounded, cut_sum-none, cut_sum-same, cut_sum-all, cut_sum-step}

-- the cuts after fewer than n letters are added at the words of k letters
pub record IsJoinedBelow (k n : ℕ) (b old now : TensorValue) : Type 0 where
  -- the extent stays the same
  pub same_extent : now.extent ≡ old.extent
  -- to each word of k letters these cuts are added
  pub added : (word : List ℕ) → IsWord old.extent word → length word ≡ k → coefficient now word ≡ coefficient old word +ℤ cut_sum (prefixes_of old word) (coefficient b) word n
  -- each word of another length has what it had
  pub others : (word : List ℕ) → IsWord old.extent word → length word ≢ k → coefficient now word ≡ coefficient old word

-- before the first cut nothing is added
pub joined-none : (k : ℕ) (b old : TensorValue) → IsJoinedBelow k 0 b old old
joined-none k b old = record {
  same_extent = refl;
  added = λ word is_word len. omega (arith, ints, cut_sum-none (prefixes_of old word) (coefficient b) word);
  others = λ word is_word differ. refl;
}

-- what a level of the tensor has while longer words are written
level-old : (k n cut : ℕ) (b old now : TensorValue) (level : List ℤ) → IsJoinedBelow k n b old now → cut < k
    → ((u : List ℕ) → IsWord now.extent u → length u ≡ cut → get_or level (number now.extent.width u) (pos 0) ≡ coefficient now u)
    → (u : List ℕ) → IsWord old.extent u → length u ≡ cut → get_or level (number old.extent.width u) (pos 0) ≡ coefficient old u
level-old k n cut b old now level progress here values u is_word len =
    subst (λ (e : Extent). get_or level (number e.width u) (pos 0) ≡ coefficient now u) progress.same_extent
    (values u (subst (λ (e : Extent). IsWord e u) (sym progress.same_extent) is_word) len)
    ∙ progress.others u is_word (λ same. omega arith)

-- a level can be multiplied by the binomial of its cut
pub scale-room : (most : ℕ) (k n cut ways : ℕ) (b old now : TensorValue) (level : List ℤ) → 1 ≤ old.extent.width → k ≤ old.extent.depth → cut < k → ways ≡ binom k cut → IsJoinedBelow k n b old now
    → length level ≡ now.extent.width ^ cut
    → ((u : List ℕ) → IsWord now.extent u → length u ≡ cut → get_or level (number now.extent.width u) (pos 0) ≡ coefficient now u)
    → ((word : List ℕ) → IsWord old.extent word → length word ≡ k → HasJoinRoom most (prefixes_of old word) (coefficient b) word)
    → (i : ℕ) → i < length level → unsigned_abs (pos ways *ℤ get_or level i (pos 0)) ≤ most
scale-room most k n cut ways b old now level some deep here ew progress len values room i h =
    let width : ℕ = old.extent.width in
    let word : List ℕ = get_or (words_of width (cut + (k - cut))) (i * width ^ (k - cut) + 0) [] in
    let below : i < width ^ cut = omega (arith, h, len, ap (λ (e : Extent). e.width ^ cut) progress.same_extent) in
    let its : IsJoined width cut (k - cut) i 0 word = word-joined width cut (k - cut) i 0 below (one-le-pow (k - cut) width some) in
    let long : length word ≡ k = omega (arith, its.len) in
    let is_word : IsWord old.extent word = record { short = omega (arith, long); letters = its.letters } in
    let value : get_or level i (pos 0) ≡ prefixes_of old word cut =
    ap (λ (m : ℕ). get_or level m (pos 0)) (sym its.head)
    ∙ level-old k n cut b old now level progress here values (take cut word) (word-take old.extent cut word is_word) (omega (arith, length-take cut word, long)) in
    subst (λ (z : ℤ). unsigned_abs z ≤ most) (ap₂ (λ (m : ℕ) (z : ℤ). pos m *ℤ z) (ap (λ (m : ℕ). binom m cut) long ∙ sym ew) (sym value)) ((room word is_word long).scaled cut (omega (arith, long)))

-- nor is the binomial, a coefficient of a prefix or one of a suffix greater than the bound
pub record AreWithin (most : ℕ) (ways : ℕ) (level right : List ℤ) : Type 0 where
  -- the binomial is at most the bound
  pub ways_in : ways ≤ most
  -- so is each coefficient of a prefix
  pub level_in : (i : ℕ) → i < length level → unsigned_abs (get_or level i (pos 0)) ≤ most
  -- so is each coefficient of a suffix
  pub right_in : (r : ℕ) → r < length right → unsigned_abs (get_or right r (pos 0)) ≤ most

-- the binomial of a cut and the coefficients of its parts are those of some word
pub all-within : (most : ℕ) (k n cut ways : ℕ) (b old now : TensorValue) (level right : List ℤ) → 1 ≤ old.extent.width → k ≤ old.extent.depth → cut < k → ways ≡ binom k cut → b.extent ≡ old.extent → IsJoinedBelow k n b old now
    → length level ≡ now.extent.width ^ cut
    → ((u : List ℕ) → IsWord now.extent u → length u ≡ cut → get_or level (number now.extent.width u) (pos 0) ≡ coefficient now u)
    → length right ≡ b.extent.width ^ (k - cut)
    → ((v : List ℕ) → IsWord b.extent v → length v ≡ k - cut → get_or right (number b.extent.width v) (pos 0) ≡ coefficient b v)
    → ((word : List ℕ) → IsWord old.extent word → length word ≡ k → HasJoinRoom most (prefixes_of old word) (coefficient b) word)
    → AreWithin most ways level right
all-within most k n cut ways b old now level right some deep here ew same progress len values right_len right_values room =
    let width : ℕ = old.extent.width in
    let none : 0 < width ^ cut = one-le-pow cut width some in
    let none' : 0 < width ^ (k - cut) = one-le-pow (k - cut) width some in
    record {
      ways_in =
          let its : IsJoined width cut (k - cut) 0 0 _ = word-joined width cut (k - cut) 0 0 none none' in
          let long : length _ ≡ k = omega (arith, its.len) in
          let is_word : IsWord old.extent _ = record { short = omega (arith, long); letters = its.letters } in
          subst (λ (m : ℕ). m ≤ most) (ap (λ (m : ℕ). binom m cut) long ∙ sym ew) ((room _ is_word long).ways cut (omega (arith, long)));
      level_in = λ i h.
          let below : i < width ^ cut = omega (arith, h, len, ap (λ (e : Extent). e.width ^ cut) progress.same_extent) in
          let its : IsJoined width cut (k - cut) i 0 (get_or (words_of width (cut + (k - cut))) (i * width ^ (k - cut) + 0) []) = word-joined width cut (k - cut) i 0 below none' in
          let word : List ℕ = get_or (words_of width (cut + (k - cut))) (i * width ^ (k - cut) + 0) [] in
          let long : length word ≡ k = omega (arith, its.len) in
          let is_word : IsWord old.extent word = record { short = omega (arith, long); letters = its.letters } in
          let value : get_or level i (pos 0) ≡ prefixes_of old word cut =
          ap (λ (m : ℕ). get_or level m (pos 0)) (sym its.head)
          ∙ level-old k n cut b old now level progress here values (take cut word) (word-take old.extent cut word is_word) (omega (arith, length-take cut word, long)) in
          subst (λ (z : ℤ). unsigned_abs z ≤ most) (sym value) ((room word is_word long).prefixes cut (omega (arith, long)));
      right_in = λ r h.
          let below : r < width ^ (k - cut) = omega (arith, h, right_len, ap (λ (e : Extent). e.width ^ (k - cut)) same) in
          let its : IsJoined width cut (k - cut) 0 r (get_or (words_of width (cut + (k - cut))) (0 * width ^ (k - cut) + r) []) = word-joined width cut (k - cut) 0 r none below in
          let word : List ℕ = get_or (words_of width (cut + (k - cut))) (0 * width ^ (k - cut) + r) [] in
          let long : length word ≡ k = omega (arith, its.len) in
          let is_word : IsWord old.extent word = record { short = omega (arith, long); letters = its.letters } in
          let value : get_or right (number width (drop cut word)) (pos 0) ≡ coefficient b (drop cut word) =
          subst (λ (e : Extent). get_or right (number e.width (drop cut word)) (pos 0) ≡ coefficient b (drop cut word)) same
          (right_values (drop cut word) (subst (λ (e : Extent). IsWord e (drop cut word)) (sym same) (word-drop old.extent cut word is_word)) (omega (arith, length-drop cut word, long))) in
          subst (λ (z : ℤ). unsigned_abs z ≤ most) (sym value ∙ ap (λ (m : ℕ). get_or right m (pos 0)) its.tail) ((room word is_word long).suffixes cut (omega (arith, long)));
    }

-- a level times a number
pub record AreScaled (old : TensorValue) (cut ways : ℕ) (left : List ℤ) : Type 0 where
  -- each word of the cut's length has the number times its coefficient
  pub scaled : (u : List ℕ) → IsWord old.extent u → length u ≡ cut → get_or left (number old.extent.width u) (pos 0) ≡ pos ways *ℤ coefficient old u

-- the multiples that are written stand for the prefixes
pub scaled-are : (k n cut ways count : ℕ) (b old now : TensorValue) (level scaled : List ℤ) → cut < k → IsJoinedBelow k n b old now → length level ≡ now.extent.width ^ cut → count ≡ length level
    → ((u : List ℕ) → IsWord now.extent u → length u ≡ cut → get_or level (number now.extent.width u) (pos 0) ≡ coefficient now u)
    → ((i : ℕ) → i < length level → get_or scaled i (pos 0) ≡ pos ways *ℤ get_or level i (pos 0))
    → AreScaled old cut ways (take count scaled)
scaled-are k n cut ways count b old now level scaled here progress len ec values multiples = record {
  scaled = λ u is_word long.
      let width : ℕ = old.extent.width in
      let below : number width u < width ^ cut = subst (λ (m : ℕ). number width u < width ^ m) long (number-lt width u is_word.letters) in
      let inside : number width u < length level = omega (arith, below, len, ap (λ (e : Extent). e.width ^ cut) progress.same_extent) in
      get_or-take count scaled (number width u) (pos 0) (omega (arith, inside, ec)) ∙ multiples (number width u) inside
      ∙ ap (λ (z : ℤ). pos ways *ℤ z) (level-old k n cut b old now level progress here values u is_word long);
}

-- the outer product is what the cut adds
outer-cut : (k cut ways : ℕ) (b old : TensorValue) (left right : List ℤ) (word : List ℕ) → cut < k → ways ≡ binom k cut → b.extent ≡ old.extent → AreScaled old cut ways left
    → ((v : List ℕ) → IsWord b.extent v → length v ≡ k - cut → get_or right (number b.extent.width v) (pos 0) ≡ coefficient b v)
    → IsWord old.extent word → length word ≡ k → outer_at old.extent.width cut left right word ≡ cut_value (prefixes_of old word) (coefficient b) word cut
outer-cut k cut ways b old left right word here ew same are values is_word len =
    let first : get_or left (number old.extent.width (take cut word)) (pos 0) ≡ pos ways *ℤ prefixes_of old word cut =
    are.scaled (take cut word) (word-take old.extent cut word is_word) (omega (arith, length-take cut word, len)) in
    let second : get_or right (number old.extent.width (drop cut word)) (pos 0) ≡ coefficient b (drop cut word) =
    subst (λ (e : Extent). get_or right (number e.width (drop cut word)) (pos 0) ≡ coefficient b (drop cut word)) same
    (values (drop cut word) (subst (λ (e : Extent). IsWord e (drop cut word)) (sym same) (word-drop old.extent cut word is_word)) (omega (arith, length-drop cut word, len))) in
    ap₂ ◌*ℤ◌ first second ∙ mul_assoc_ℤ (pos ways) (prefixes_of old word cut) (coefficient b (drop cut word))
    ∙ ap (λ (m : ℕ). pos m *ℤ (prefixes_of old word cut *ℤ coefficient b (drop cut word))) (ew ∙ ap (λ (m : ℕ). binom m cut) (sym len))

-- the sum with one cut more
cut-more : (k cut : ℕ) (b old now : TensorValue) (word : List ℕ) (z : ℤ) → IsJoinedBelow k cut b old now → IsWord old.extent word → length word ≡ k
    → z ≡ cut_value (prefixes_of old word) (coefficient b) word cut → coefficient now word +ℤ z ≡ coefficient old word +ℤ cut_sum (prefixes_of old word) (coefficient b) word (cut + 1)
cut-more k cut b old now word z progress is_word len ez =
    let next : cut_sum (prefixes_of old word) (coefficient b) word cut +ℤ z ≡ cut_sum (prefixes_of old word) (coefficient b) word (cut + 1) =
    cut_sum-step (prefixes_of old word) (coefficient b) word cut _ z refl ez in
    omega (arith, ints, progress.added word is_word len, next)

-- the outer product of a cut can be added
pub join-room : (most : ℕ) (k cut ways : ℕ) (b old now : TensorValue) (left right : List ℤ) → cut < k → ways ≡ binom k cut → b.extent ≡ old.extent → IsJoinedBelow k cut b old now → AreScaled old cut ways left
    → ((v : List ℕ) → IsWord b.extent v → length v ≡ k - cut → get_or right (number b.extent.width v) (pos 0) ≡ coefficient b v)
    → ((word : List ℕ) → IsWord old.extent word → length word ≡ k → HasJoinRoom most (prefixes_of old word) (coefficient b) word)
    → (word : List ℕ) → IsWord now.extent word → length word ≡ k → HasOuterRoomWithin most now cut left right word
join-room most k cut ways b old now left right here ew same progress are values room word is_now len =
    let is_word : IsWord old.extent word = subst (λ (e : Extent). IsWord e word) progress.same_extent is_now in
    let outer : outer_at now.extent.width cut left right word ≡ cut_value (prefixes_of old word) (coefficient b) word cut =
    ap (λ (e : Extent). outer_at e.width cut left right word) progress.same_extent ∙ outer-cut k cut ways b old left right word here ew same are values is_word len in
    let whole : prefixes_of old word (length word) ≡ coefficient old word = ap (coefficient old) (take_all (length word) word (omega arith)) in
    record {
      old = subst (λ (z : ℤ). unsigned_abs z ≤ most) (ap (λ (z : ℤ). z +ℤ cut_sum (prefixes_of old word) (coefficient b) word cut) whole ∙ sym (progress.added word is_word len)) ((room word is_word len).summed cut (omega (arith, len)));
      multiplied = subst (λ (z : ℤ). unsigned_abs z ≤ most) (sym outer) ((room word is_word len).weighted cut (omega (arith, len)));
      added = subst (λ (z : ℤ). unsigned_abs z ≤ most)
          (ap (λ (z : ℤ). z +ℤ cut_sum (prefixes_of old word) (coefficient b) word (cut + 1)) whole ∙ sym (cut-more k cut b old now word _ progress is_word len outer))
          ((room word is_word len).summed (cut + 1) (omega (arith, len)));
    }

-- one cut more
pub join-step : (k cut ways : ℕ) (b old now new : TensorValue) (left right : List ℤ) → cut < k → ways ≡ binom k cut → b.extent ≡ old.extent → IsJoinedBelow k cut b old now → AreScaled old cut ways left
    → ((v : List ℕ) → IsWord b.extent v → length v ≡ k - cut → get_or right (number b.extent.width v) (pos 0) ≡ coefficient b v)
    → new.extent ≡ now.extent
    → ((word : List ℕ) → IsWord now.extent word → length word ≡ k → coefficient new word ≡ coefficient now word +ℤ outer_at now.extent.width cut left right word)
    → ((word : List ℕ) → IsWord now.extent word → length word ≢ k → coefficient new word ≡ coefficient now word)
    → IsJoinedBelow k (cut + 1) b old new
join-step k cut ways b old now new left right here ew same progress are values extent added others = record {
  same_extent = extent ∙ progress.same_extent;
  added = λ word is_word len.
      let is_now : IsWord now.extent word = subst (λ (e : Extent). IsWord e word) (sym progress.same_extent) is_word in
      let outer : outer_at now.extent.width cut left right word ≡ cut_value (prefixes_of old word) (coefficient b) word cut =
      ap (λ (e : Extent). outer_at e.width cut left right word) progress.same_extent ∙ outer-cut k cut ways b old left right word here ew same are values is_word len in
      added word is_now len ∙ cut-more k cut b old now word _ progress is_word len outer;
  others = λ word is_word differ.
      others word (subst (λ (e : Extent). IsWord e word) (sym progress.same_extent) is_word) differ ∙ progress.others word is_word differ;
}

-- the cut after all letters
last-cut : (b old : TensorValue) (word : List ℕ) → coefficient b [] ≡ pos 1 → cut_value (prefixes_of old word) (coefficient b) word (length word) ≡ coefficient old word
last-cut b old word starts =
    let none : drop (length word) word ≡ [] = drop_all (length word) word (omega arith) in
    let whole : take (length word) word ≡ word = take_all (length word) word (omega arith) in
    ap₂ (λ (n : ℕ) (z : ℤ). pos n *ℤ z) (binom-all (length word)) (ap₂ ◌*ℤ◌ (ap (coefficient old) whole) (ap (coefficient b) none ∙ starts))
    ∙ one-mul_ℤ (coefficient old word *ℤ pos 1) ∙ mul-one_ℤ (coefficient old word)

-- with all cuts the level is that of the product
pub join-all-cuts : (k : ℕ) (b old now : TensorValue) → coefficient b [] ≡ pos 1 → IsJoinedBelow k k b old now → JoinsAt (λ w. length w ≡ k) (coefficient b) old now
join-all-cuts k b old now starts progress = record {
  same_extent = progress.same_extent;
  products = λ word is_word len.
      let p : ℕ → ℤ = prefixes_of old word in
      let last : cut_sum p (coefficient b) word (length word) +ℤ coefficient old word ≡ cut_sum p (coefficient b) word (length word + 1) =
      cut_sum-step p (coefficient b) word (length word) _ (coefficient old word) refl (sym (last-cut b old word starts)) in
      let all : cut_sum p (coefficient b) word (length word + 1) ≡ scaled_product (coefficient old) (coefficient b) word =
      ap (cut_sum p (coefficient b) word) (add-one (length word)) ∙ cut_sum-all (coefficient old) (coefficient b) word in
      let now_is : coefficient now word ≡ coefficient old word +ℤ cut_sum p (coefficient b) word (length word) =
      progress.added word is_word len ∙ ap (λ (n : ℕ). coefficient old word +ℤ cut_sum p (coefficient b) word n) (sym len) in
      omega (arith, ints, last, all, now_is);
  others = progress.others;
}

-- shorter words are as they were
kept : (k : ℕ) (b : List ℕ → ℤ) (old now : TensorValue) (word : List ℕ) → JoinsAt (λ w. k < length w) b old now → IsWord old.extent word → length word ≤ k
    → (i : ℕ) → i ≤ length word → coefficient now (take i word) ≡ coefficient old (take i word)
kept k b old now word progress is_word h i l =
    progress.others (take i word) (word-take old.extent i word is_word) (λ at. omega (arith, length-take i word))

HasJoinRoom-same : (most : ℕ) (p q : ℕ → ℤ) (b : List ℕ → ℤ) (word : List ℕ) → ((i : ℕ) → i ≤ length word → p i ≡ q i) → HasJoinRoom most p b word → HasJoinRoom most q b word
HasJoinRoom-same most p q b word same room = record {
  ways = room.ways;
  prefixes = λ i h. subst (λ (z : ℤ). unsigned_abs z ≤ most) (same i h) (room.prefixes i h);
  suffixes = room.suffixes;
  scaled = λ i h. subst (λ (z : ℤ). unsigned_abs (pos (binom (length word) i) *ℤ z) ≤ most) (same i (omega arith)) (room.scaled i h);
  weighted = λ i h. subst (λ (z : ℤ). unsigned_abs (pos (binom (length word) i) *ℤ (z *ℤ b (drop i word))) ≤ most) (same i (omega arith)) (room.weighted i h);
  summed = λ n h. subst (λ (z : ℤ). unsigned_abs z ≤ most) (ap₂ ◌+ℤ◌ (same (length word) (omega arith)) (cut_sum-same p q b word n (omega arith) same)) (room.summed n h);
}

-- the next level has the room that it had at the start
pub room-shorter : (most : ℕ) (k : ℕ) (b : List ℕ → ℤ) (old now : TensorValue) → JoinsAt (λ w. k < length w) b old now → ((word : List ℕ) → IsWord old.extent word → length word ≤ k → HasJoinRoom most (prefixes_of old word) b word)
    → (word : List ℕ) → IsWord now.extent word → length word ≡ k → HasJoinRoom most (prefixes_of now word) b word
room-shorter most k b old now progress room word is_now len =
    let is_old : IsWord old.extent word = subst (λ (e : Extent). IsWord e word) progress.same_extent is_now in
    HasJoinRoom-same most (prefixes_of old word) (prefixes_of now word) b word (λ i h. sym (kept k b old now word progress is_old (omega arith) i h)) (room word is_old (omega arith))

-- one level more
pub levels-step : (k j : ℕ) (b : List ℕ → ℤ) (old now new : TensorValue) → suc j ≡ k → JoinsAt (λ w. k < length w) b old now → JoinsAt (λ w. length w ≡ k) b now new → JoinsAt (λ w. j < length w) b old new
levels-step k j b old now new ej progress step =
    let moved : now.extent ≡ old.extent = progress.same_extent in
    record {
      same_extent = step.same_extent ∙ moved;
      products = λ word is_word at.
          let is_now : IsWord now.extent word = subst (λ (e : Extent). IsWord e word) (sym moved) is_word in
          elim (cases_lt k (length word)) [
            | inl above ↦ step.others word is_now (λ same. omega arith) ∙ progress.products word is_word above
            | inr upto ↦ step.products word is_now (omega arith) ∙ scaled_product-same (coefficient now) (coefficient old) b b word (kept k b old now word progress is_word upto) (λ i h. refl)
          ];
      others = λ word is_word not_at.
          let is_now : IsWord now.extent word = subst (λ (e : Extent). IsWord e word) (sym moved) is_word in
          step.others word is_now (λ same. not_at (omega arith)) ∙ progress.others word is_word (λ at. not_at (omega arith));
    }

product-none : (a b : List ℕ → ℤ) → b [] ≡ pos 1 → scaled_product a b [] ≡ a []
unfolding scaled_product product_term sum_below
product-none a b e = ap (λ (z : ℤ). pos 0 +ℤ pos 1 *ℤ (a [] *ℤ z)) e ∙ omega (arith, ints, mul-one_ℤ (a []), one-mul_ℤ (a [] *ℤ pos 1))

-- all levels are those of the product
pub levels-all : (b old now : TensorValue) → coefficient b [] ≡ pos 1 → JoinsAt (λ w. 0 < length w) (coefficient b) old now → IsProduct old b now
levels-all b old now starts progress = record {
  same_extent = progress.same_extent;
  products = λ word is_word. at_word word is_word;
}
  where
    at_word : (word : List ℕ) → IsWord old.extent word → coefficient now word ≡ scaled_product (coefficient old) (coefficient b) word
    at_word [] is_word = progress.others [] is_word (λ at. omega arith) ∙ sym (product-none (coefficient old) (coefficient b) starts)
    at_word (a ∷ word) is_word = progress.products (a ∷ word) is_word (omega arith)

-- the product by the unit
pub join-still : (b old : TensorValue) → ((word : List ℕ) → IsWord old.extent word → coefficient b word ≡ unit word) → IsProduct old b old
join-still b old still = record {
  same_extent = refl;
  products = λ word is_word.
      sym (scaled_product-same (coefficient old) (coefficient old) (coefficient b) unit word (λ i h. refl) (λ i h. still (drop i word) (word-drop old.extent i word is_word)) ∙ scaled_product-unit_right (coefficient old) word);
}

-- the product of the unit
pub join-first : (a b now : TensorValue) → b.extent ≡ a.extent → ((word : List ℕ) → IsWord a.extent word → coefficient a word ≡ unit word) → now ≡ b → IsProduct a b now
join-first a b now same is_unit e = record {
  same_extent = ap (λ (t : TensorValue). t.extent) e ∙ same;
  products = λ word is_word.
      ap (λ (t : TensorValue). coefficient t word) e
      ∙ sym (scaled_product-same (coefficient a) unit (coefficient b) (coefficient b) word (λ i h. is_unit (take i word) (word-take a.extent i word is_word)) (λ i h. refl) ∙ scaled_product-unit_left (coefficient b) word);
}

last-term : (m v k : ℕ) → binomial_term m v k k ≡ v ^ k
last-term m v k =
    let none : k - k ≡ 0 = omega arith in
    ap₂ (λ (n e : ℕ). n * (m ^ e * v ^ k)) (binom-all k) none ∙ ap (λ (n : ℕ). 1 * (n * v ^ k)) (pow-zero m) ∙ omega arith

-- the cut after all letters and the first n are no more than all
sum-and-last : (v m k n : ℕ) (p q : ℕ → ℤ) → AreFactors v m k p q → n ≤ k → unsigned_abs (p k +ℤ sum_below n (λ i. pos (binom k i) *ℤ (p i *ℤ q i))) ≤ (v + m) ^ k
unfolding count_below
sum-and-last v m k n p q bounds h =
    let each : count_below n (λ i. unsigned_abs (pos (binom k i) *ℤ (p i *ℤ q i))) ≤ count_below n (binomial_term m v k) =
    count_below-le n _ _ (λ i l. factors-bound v m k i p q bounds (omega arith)) in
    let all : count_below (suc k) (binomial_term m v k) ≡ (m + v) ^ k = binomial m v k in
    let swapped : (m + v) ^ k ≡ (v + m) ^ k = let e : m + v ≡ v + m = omega arith in ap (λ (s : ℕ). s ^ k) e in
    omega (
      arith,
      abs-add (p k) (sum_below n (λ i. pos (binom k i) *ℤ (p i *ℤ q i))),
      abs-sum_below n (λ i. pos (binom k i) *ℤ (p i *ℤ q i)),
      each,
      count_below-part k n (binomial_term m v k) h,
      last-term m v k,
      bounds.left k (let l : k ≤ k = omega arith in l),
      all,
      swapped,
    )

-- a smaller power is within the bound
power-within : (v m k i most : ℕ) → 1 ≤ m → i ≤ k → (v + m) ^ k ≤ most → v ^ i ≤ most
power-within v m k i most some h fits =
    let wider : v ^ i ≤ (v + m) ^ i = pow-le-pow_left (let l : v ≤ v + m = omega arith in l) i in
    let longer : (v + m) ^ i ≤ (v + m) ^ k = pow-le-pow_right (let l : 1 ≤ v + m = omega (arith, some) in l) h in
    omega (arith, wider, longer, fits)

join-room-by-factors : (most : ℕ) (p : ℕ → ℤ) (b : List ℕ → ℤ) (word : List ℕ) (v m : ℕ) → length word ≤ 8 → 256 ≤ most → 1 ≤ m → AreFactors v m (length word) p (λ i. b (drop i word)) → (v + m) ^ length word ≤ most → HasJoinRoom most p b word
unfolding cut_sum
join-room-by-factors most p b word v m short enough some factors fits =
    let k : ℕ = length word in
    let ones : AreFactors v m k p (λ i. pos 1) = record { left = factors.left; right = λ i h. one-le-pow (k - i) m some } in
    record {
      ways = λ i h. ways-small most k i short enough;
      prefixes = λ i h. le_trans (factors.left i h) (power-within v m k i most some h fits);
      suffixes = λ i h.
          let wider : m ^ (k - i) ≤ (m + v) ^ (k - i) = pow-le-pow_left (let l : m ≤ m + v = omega arith in l) (k - i) in
          let longer : (m + v) ^ (k - i) ≤ (m + v) ^ k = pow-le-pow_right (let l : 1 ≤ m + v = omega (arith, some) in l) (let l : k - i ≤ k = omega arith in l) in
          let swapped : (m + v) ^ k ≡ (v + m) ^ k = let e : m + v ≡ v + m = omega arith in ap (λ (s : ℕ). s ^ k) e in
          omega (arith, factors.right i h, wider, longer, swapped, fits);
      scaled = λ i h.
          subst (λ (z : ℤ). unsigned_abs (pos (binom k i) *ℤ z) ≤ most) (mul-one_ℤ (p i)) (le_trans (term-bound v m k i p (λ j. pos 1) ones (omega arith)) fits);
      weighted = λ i h. le_trans (term-bound v m k i p (λ j. b (drop j word)) factors (omega arith)) fits;
      summed = λ n h. le_trans (sum-and-last v m k n p (λ j. b (drop j word)) factors h) fits;
    }

-- weights whose sum is within a bound leave room within it
pub join-room-within : (most : ℕ) (a b : TensorValue) (v m n : ℕ) → a.extent.depth ≤ 8 → 256 ≤ most → 1 ≤ m → IsBoundedBy a v → IsBoundedBy b m → b.extent ≡ a.extent → (v + m) ^ n ≤ most
    → (word : List ℕ) → IsWord a.extent word → length word ≤ n → HasJoinRoom most (prefixes_of a word) (coefficient b) word
join-room-within most a b v m n deep enough some first second same fits word is_word few =
    let factors : AreFactors v m (length word) (prefixes_of a word) (λ i. coefficient b (drop i word)) =
    record {
      left = prefixes-bounded a v word first is_word;
      right = suffixes-bounded b m word second (subst (λ (e : Extent). IsWord e word) (sym same) is_word);
    } in
    join-room-by-factors most (prefixes_of a word) (coefficient b) word v m (omega (arith, is_word.short)) enough some factors
    (pow-within (v + m) (length word) n most (omega arith) few fits)

-- a tensor of weight 0 that begins as the unit is the unit
pub weightless : (b : TensorValue) (m : ℕ) → IsBoundedBy b m → coefficient b [] ≡ pos 1 → m ≡ 0 → (word : List ℕ) → IsWord b.extent word → coefficient b word ≡ unit word
weightless b m bounds starts none [] is_word = starts
weightless b m bounds starts none (a ∷ word) is_word =
    omega (arith, ints, bounds.bounded (a ∷ word) is_word, ap (λ (n : ℕ). n ^ suc (length word)) none, pow-suc 0 (length word))
