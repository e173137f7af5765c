-- Tensors on the way of Horner's rule: level by level in a step, and step by step.
use Rattle.std.proofs.Common.{◌≡◌, ◌≢◌, ℕ, suc, ◌+◌, ◌*◌, ◌-◌, ◌≤◌, ◌<◌, ◌^◌, refl, sym, ap, ◌∙◌, subst, arith, List, [], ◌∷◌, length, take, drop, length-take, take_all, ℤ, pos, ◌+ℤ◌, ◌*ℤ◌, unsigned_abs, inl, inr}
use Rattle.std.proofs.Math.Nat.{eq-or-lt_of_le}
use Rattle.std.proofs.lemmas.Bool.{cases_lt}
use Rattle.std.proofs.lemmas.Int.{ints}
use Rattle.definitions.specs.Words.{Extent, IsShape, IsWord, binom}
use Rattle.definitions.specs.Products.{scaled_product}
use Rattle.definitions.specs.Logarithm.{reduced, logarithm, log_bound}
use Rattle.definitions.proofs.SumLaws.{sum_below-same}
use Rattle.scaled_tensor.specs.Tensors.{TensorValue, coefficient}
use Rattle.tensor_product.specs.Extension.{prefixes_of}
use Rattle.tensor_product.specs.Multiplication.{cut_value, cut_sum, HasJoinRoom, JoinsAt}
use Rattle.tensor_product.specs.Sigs.{IsBoundedBy}
use Rattle.tensor_product.proofs.ExtendLaws.{word-take}
use Rattle.exp_log.specs.Powers.{log_factor}
use Rattle.exp_log.specs.Horner.{tail_from, IsTail, HasStepRoom, HasLogRoom}
use Rattle.exp_log.proofs.SeriesLaws.{words-closed, logarithm-empty}
use Rattle.exp_log.proofs.HornerSeries.{product-reduced, product-shorter, tail-longer, tail-empty, tail-log}
use Rattle.exp_log.proofs.HornerBounds.{step-room}

-- series with the same coefficients at the prefixes have the same room
HasStepRoom-same : (most : ℕ) (a a' b : List ℕ → ℤ) (word : List ℕ) → ((i : ℕ) → i < length word → a (take i word) ≡ a' (take i word)) → HasStepRoom most a b word → HasStepRoom most a' b word
unfolding cut_sum
HasStepRoom-same most a a' b word same room = record {
  ways = room.ways;
  prefixes = λ i h. subst (λ (z : ℤ). unsigned_abs z ≤ most) (same i h) (room.prefixes i h);
  suffixes = room.suffixes;
  scaled = λ i h. subst (λ (z : ℤ). unsigned_abs (pos (binom (length word) i) *ℤ z) ≤ most) (same i h) (room.scaled i h);
  weighted = λ i h. subst (λ (z : ℤ). unsigned_abs (pos (binom (length word) i) *ℤ (z *ℤ b (drop i word))) ≤ most) (same i h) (room.weighted i h);
  summed = λ n h.
      subst (λ (z : ℤ). unsigned_abs z ≤ most)
      (sum_below-same n (cut_value (λ j. a (take j word)) b word) (cut_value (λ j. a' (take j word)) b word) (λ i l. ap (λ (z : ℤ). pos (binom (length word) i) *ℤ (z *ℤ b (drop i word))) (same i (omega arith))))
      (room.summed n h);
}

-- the words of j letters have 0, and the others are as they were
pub record IsCleared (j : ℕ) (old now : TensorValue) : Type 0 where
  -- the extent stays the same
  pub same_extent : now.extent ≡ old.extent
  -- each word of j letters has 0
  pub cleared : (word : List ℕ) → IsWord old.extent word → length word ≡ j → coefficient now word ≡ pos 0
  -- each word of another length has what it had
  pub others : (word : List ℕ) → IsWord old.extent word → length word ≢ j → coefficient now word ≡ coefficient old word

-- shorter words are as they were
cleared-prefix : (j : ℕ) (old now : TensorValue) (word : List ℕ) → IsCleared j old now → IsWord old.extent word → length word ≡ j → (i : ℕ) → i < length word → coefficient now (take i word) ≡ coefficient old (take i word)
cleared-prefix j old now word clear is_word len i h =
    let count : length (take i word) ≡ i = omega (arith, length-take i word) in
    clear.others (take i word) (word-take old.extent i word is_word) (λ same. omega (arith, count, same, len, h))

cleared-last : (j : ℕ) (old now : TensorValue) (word : List ℕ) → IsCleared j old now → IsWord old.extent word → length word ≡ j → coefficient now (take (length word) word) ≡ pos 0
cleared-last j old now word clear is_word len = ap (coefficient now) (take_all (length word) word (omega arith)) ∙ clear.cleared word is_word len

-- with the level cleared there is room for the product in place
pub cleared-room : (most : ℕ) (j : ℕ) (b : List ℕ → ℤ) (old now : TensorValue) → IsCleared j old now
    → ((word : List ℕ) → IsWord old.extent word → length word ≡ j → HasStepRoom most (coefficient old) b word)
    → (word : List ℕ) → IsWord now.extent word → length word ≡ j → HasJoinRoom most (prefixes_of now word) b word
unfolding cut_sum
cleared-room most j b old now clear room word is_now len =
    let is_word : IsWord old.extent word = subst (λ (e : Extent). IsWord e word) clear.same_extent is_now in
    let last : prefixes_of now word (length word) ≡ pos 0 = cleared-last j old now word clear is_word len in
    let r : HasStepRoom most (coefficient now) b word =
    HasStepRoom-same most (coefficient old) (coefficient now) b word (λ i h. sym (cleared-prefix j old now word clear is_word len i h)) (room word is_word len) in
    record {
      ways = r.ways;
      prefixes = λ i h.
          elim (eq-or-lt_of_le h) [
            | inl same ↦ let zero_at : prefixes_of now word i ≡ pos 0 = ap (prefixes_of now word) same ∙ last in omega (arith, ints, ap unsigned_abs zero_at)
            | inr less ↦ r.prefixes i less
          ];
      suffixes = r.suffixes;
      scaled = r.scaled;
      weighted = r.weighted;
      summed = λ n h.
          subst (λ (z : ℤ). unsigned_abs z ≤ most)
          (let e : cut_sum (prefixes_of now word) b word n ≡ prefixes_of now word (length word) +ℤ cut_sum (prefixes_of now word) b word n = omega (arith, ints, last) in e)
          (r.summed n h);
    }

-- the level of the product
pub cleared-product : (j : ℕ) (b : List ℕ → ℤ) (old now new : TensorValue) → IsCleared j old now → JoinsAt (λ w. length w ≡ j) b now new
    → (word : List ℕ) → IsWord old.extent word → length word ≡ j → coefficient new word ≡ scaled_product (coefficient old) (reduced b) word
cleared-product j b old now new clear joined word is_word len =
    joined.products word (subst (λ (e : Extent). IsWord e word) (sym clear.same_extent) is_word) len
    ∙ product-reduced (coefficient now) (coefficient old) b word (cleared-prefix j old now word clear is_word len) (cleared-last j old now word clear is_word len)

-- one step of the rule, of which the words of more than j letters are written
pub record IsStepping (s : List ℕ → ℤ) (k m j : ℕ) (old now : TensorValue) : Type 0 where
  -- the step writes words of at most k - m + 1 letters, and j is no more than that
  pub within : j ≤ k - m + 1
  -- the extent stays the same
  pub same_extent : now.extent ≡ old.extent
  -- words of at most j letters, and at most k - m, still have the tail from m on
  pub shorter : (word : List ℕ) → IsWord old.extent word → length word ≤ j → length word ≤ k - m → coefficient now word ≡ tail_from s k m word
  -- longer ones of up to k - m + 1 letters have the product of this tail and the reduced series
  pub written : (word : List ℕ) → IsWord old.extent word → j < length word → length word ≤ k - m + 1 → coefficient now word ≡ scaled_product (tail_from s k m) (reduced s) word
  -- words of more than k - m + 1 letters have what they had
  pub longer : (word : List ℕ) → IsWord old.extent word → k - m + 1 < length word → coefficient now word ≡ coefficient old word

-- at the start no word of the step is written
pub stepping-none : (s : List ℕ → ℤ) (k m j : ℕ) (old : TensorValue) → j ≡ k - m + 1 → IsTail s k m old → IsStepping s k m j old old
stepping-none s k m j old e tail = record {
  within = omega (arith, e);
  same_extent = refl;
  shorter = λ word is_word h l. tail.values word is_word l;
  written = λ word is_word above below. absurd (omega (arith, e, above, below));
  longer = λ word is_word h. refl;
}

-- the prefixes of a word of the next level are those of the tail
prefix-is : (s : List ℕ → ℤ) (k m j : ℕ) (old now : TensorValue) (word : List ℕ) → IsStepping s k m j old now → IsWord old.extent word → length word ≡ j → (i : ℕ) → i < length word → coefficient now (take i word) ≡ tail_from s k m (take i word)
prefix-is s k m j old now word progress is_word len i h =
    let count : length (take i word) ≡ i = omega (arith, length-take i word) in
    progress.shorter (take i word) (word-take old.extent i word is_word) (omega (arith, count, len, h)) (omega (arith, count, len, h, progress.within))

-- the next level has room
pub stepping-room : (most : ℕ) (s : List ℕ → ℤ) (k m j : ℕ) (old now : TensorValue) → IsStepping s k m j old now → 1 ≤ m → m ≤ k → HasLogRoom most old.extent s k
    → (word : List ℕ) → IsWord now.extent word → length word ≡ j → HasStepRoom most (coefficient now) s word
stepping-room most s k m j old now progress some few room word is_now len =
    let is_word : IsWord old.extent word = subst (λ (e : Extent). IsWord e word) progress.same_extent is_now in
    HasStepRoom-same most (tail_from s k m) (coefficient now) s word (λ i h. sym (prefix-is s k m j old now word progress is_word len i h))
    (room.steps m some few word is_word (omega (arith, len, progress.within)))

-- one level more is written
pub stepping-next : (s : List ℕ → ℤ) (k m j i : ℕ) (old now new : TensorValue) → IsStepping s k m j old now → suc i ≡ j → new.extent ≡ now.extent
    → ((word : List ℕ) → IsWord now.extent word → length word ≡ j → coefficient new word ≡ scaled_product (coefficient now) (reduced s) word)
    → ((word : List ℕ) → IsWord now.extent word → length word ≢ j → coefficient new word ≡ coefficient now word)
    → IsStepping s k m i old new
stepping-next s k m j i old now new progress ej extent product others = record {
  within = omega (arith, progress.within);
  same_extent = extent ∙ progress.same_extent;
  shorter = λ word is_word h l. others word (now-word word is_word) (λ same. omega (arith, same, h, ej)) ∙ progress.shorter word is_word (omega (arith, h, ej)) l;
  written = λ word is_word above below.
      elim (cases_lt j (length word)) [
        | inl before ↦ others word (now-word word is_word) (λ same. omega (arith, same, before)) ∙ progress.written word is_word before below
        | inr upto ↦
            let len : length word ≡ j = omega (arith, above, upto, ej) in
            product word (now-word word is_word) len ∙ product-shorter (coefficient now) (tail_from s k m) s word (prefix-is s k m j old now word progress is_word len)
      ];
  longer = λ word is_word h. others word (now-word word is_word) (λ same. omega (arith, same, h, progress.within)) ∙ progress.longer word is_word h;
}
  where
    now-word : (word : List ℕ) → IsWord old.extent word → IsWord now.extent word
    now-word word is_word = subst (λ (e : Extent). IsWord e word) (sym progress.same_extent) is_word

-- all levels are written, and then the factor of one power more
pub stepping-all : (s : List ℕ → ℤ) (k m n j : ℕ) (old now new : TensorValue) (z : ℤ) → IsStepping s k m j old now → j ≡ 0 → suc n ≡ m → m ≤ k → new.extent ≡ now.extent → z ≡ log_factor n k
    → coefficient new [] ≡ z → ((word : List ℕ) → IsWord now.extent word → word ≢ [] → coefficient new word ≡ coefficient now word) → IsTail s k n new
stepping-all s k m n j old now new z progress ej en few extent ez at_empty others = record {
  values = λ word is_new h. at word (subst (λ (e : Extent). IsWord e word) extent is_new) h;
}
  where
    at : (word : List ℕ) → IsWord now.extent word → length word ≤ k - n → coefficient new word ≡ tail_from s k n word
    at [] is_now h = at_empty ∙ ez ∙ sym (tail-empty s k n (omega (arith, en, few)))
    at (a ∷ word) is_now h =
        let is_word : IsWord old.extent (a ∷ word) = subst (λ (e : Extent). IsWord e (a ∷ word)) progress.same_extent is_now in
        others (a ∷ word) is_now (λ same. omega (arith, ap length same))
        ∙ progress.written (a ∷ word) is_word (omega (arith, ej)) (omega (arith, h, en, few))
        ∙ ap (λ (x : ℕ). scaled_product (tail_from s k x) (reduced s) (a ∷ word)) (sym en)
        ∙ sym (tail-longer s k n (a ∷ word) (omega (arith, en, few)) (omega arith))

-- the last power alone
pub tail-start : (s : List ℕ → ℤ) (k : ℕ) (t : TensorValue) (z : ℤ) → z ≡ log_factor k k → coefficient t [] ≡ z → IsTail s k k t
tail-start s k t z ez at_empty = record { values = λ word is_word h. at word h }
  where
    at : (word : List ℕ) → length word ≤ k - k → coefficient t word ≡ tail_from s k k word
    at [] h = at_empty ∙ ez ∙ sym (tail-empty s k k (omega arith))
    at (a ∷ word) h = absurd (omega (arith, h))

-- the prefixes of the words of k letters are those of the tail from 1 on
tail-prefix : (s : List ℕ → ℤ) (k : ℕ) (t : TensorValue) (word : List ℕ) → IsTail s k 1 t → IsWord t.extent word → length word ≡ k → (i : ℕ) → i < length word → coefficient t (take i word) ≡ tail_from s k 1 (take i word)
tail-prefix s k t word tail is_word len i h =
    let count : length (take i word) ≡ i = omega (arith, length-take i word) in
    tail.values (take i word) (word-take t.extent i word is_word) (omega (arith, count, len, h))

-- the level of k letters has room, where the tail from 1 on stands at shorter words
pub last-room : (most : ℕ) (s : List ℕ → ℤ) (k : ℕ) (old t : TensorValue) → 1 ≤ k → t.extent ≡ old.extent → IsTail s k 1 t → HasLogRoom most old.extent s k
    → (word : List ℕ) → IsWord t.extent word → length word ≡ k → HasStepRoom most (coefficient t) s word
last-room most s k old t some same tail room word is_word len =
    HasStepRoom-same most (tail_from s k 1) (coefficient t) s word (λ i h. sym (tail-prefix s k t word tail is_word len i h))
    (room.steps 1 (omega arith) some word (subst (λ (e : Extent). IsWord e word) same is_word) (omega (arith, len)))

-- its product is the logarithm
pub last-step : (s : List ℕ → ℤ) (k : ℕ) (t : TensorValue) (word : List ℕ) (z : ℤ) → 1 ≤ k → IsTail s k 1 t → IsWord t.extent word → length word ≡ k → z ≡ scaled_product (coefficient t) (reduced s) word → z ≡ logarithm s word
last-step s k t word z some tail is_word len ez =
    ez ∙ product-shorter (coefficient t) (tail_from s k 1) s word (tail-prefix s k t word tail is_word len) ∙ tail-log s k word some len

-- a weight whose power fits leaves room for all steps
pub log-room : (most : ℕ) (s : TensorValue) (extent : Extent) (v k : ℕ) → 256 ≤ most → IsShape extent → s.extent ≡ extent → IsBoundedBy s v → 1 ≤ v → k ≤ extent.depth → v ^ k * log_bound k ≤ most → HasLogRoom most extent (coefficient s) k
log-room most s extent v k enough shape same bounds positive deep fits = record {
  steps = λ m some few word is_word short.
      step-room most (IsWord extent) (coefficient s) v (words-closed extent) (λ w is. bounds.bounded w (subst (λ (e : Extent). IsWord e w) (sym same) is)) positive enough k m (omega (arith, deep, shape.within_depth)) some few fits word is_word short;
}

-- the words of more than k letters have their logarithm
pub record IsLogAbove (s : List ℕ → ℤ) (k : ℕ) (old now : TensorValue) : Type 0 where
  -- the extent stays the same
  pub same_extent : now.extent ≡ old.extent
  -- each word of more than k letters has its logarithm
  pub logs : (word : List ℕ) → IsWord old.extent word → k < length word → coefficient now word ≡ logarithm s word

-- one level more has its logarithm
pub above-next : (s : List ℕ → ℤ) (k j : ℕ) (old now new : TensorValue) → IsLogAbove s k old now → suc j ≡ k → new.extent ≡ now.extent
    → ((word : List ℕ) → IsWord now.extent word → length word ≡ k → coefficient new word ≡ logarithm s word)
    → ((word : List ℕ) → IsWord now.extent word → k < length word → coefficient new word ≡ coefficient now word)
    → IsLogAbove s j old new
above-next s k j old now new progress ej extent level longer = record {
  same_extent = extent ∙ progress.same_extent;
  logs = λ word is_word h.
      let is_now : IsWord now.extent word = subst (λ (e : Extent). IsWord e word) (sym progress.same_extent) is_word in
      elim (cases_lt k (length word)) [
        | inl above ↦ longer word is_now above ∙ progress.logs word is_word above
        | inr upto ↦ level word is_now (omega (arith, h, upto, ej))
      ];
}

-- with the empty word set to 0 all words have their logarithm
pub above-all : (s : List ℕ → ℤ) (k : ℕ) (old now new : TensorValue) → IsLogAbove s k old now → k ≡ 0 → coefficient new [] ≡ pos 0
    → ((word : List ℕ) → IsWord now.extent word → word ≢ [] → coefficient new word ≡ coefficient now word)
    → (word : List ℕ) → IsWord old.extent word → coefficient new word ≡ logarithm s word
above-all s k old now new progress ek at_empty others [] is_word = at_empty ∙ sym (logarithm-empty s)
above-all s k old now new progress ek at_empty others (a ∷ word) is_word =
    others (a ∷ word) (subst (λ (e : Extent). IsWord e (a ∷ word)) (sym progress.same_extent) is_word) (λ same. omega (arith, ap length same))
    ∙ progress.logs (a ∷ word) is_word (omega (arith, ek))
