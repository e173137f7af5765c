-- Products of the series of parts, from left to right, and the signature of the whole.
use Rattle.std.proofs.Common.{◌≡◌, ℕ, zero, suc, ◌+◌, ◌≤◌, ◌<◌, ◌^◌, refl, sym, ap, ap₂, ◌∙◌, subst, arith, ℤ, pos, ◌+ℤ◌, ◌*ℤ◌, unsigned_abs, List, [], ◌∷◌, ◌++◌, length, take, drop, append_assoc}
use Rattle.std.specs.Prelude.{fold, flat_map}
use Rattle.std.proofs.Math.Nat.{le_trans, pow-le-pow_left}
use Rattle.std.proofs.lemmas.List.{append-nil}
use Rattle.std.proofs.lemmas.List.Sums.{fold_more, sum_by_more, sum_by_more_le}
use Rattle.definitions.specs.Words.{Extent, IsShape, IsWord}
use Rattle.definitions.specs.Moves.{Parts}
use Rattle.definitions.specs.Sums.{sum_below}
use Rattle.definitions.specs.Products.{unit, scaled_product, product_term}
use Rattle.definitions.specs.Signature.{signature, limit}
use Rattle.definitions.proofs.ProductLaws.{scaled_product-same}
use Rattle.definitions.proofs.ProductBounds.{product-bound}
use Rattle.definitions.proofs.SignatureLaws.{signature-none, signature-append}
use Rattle.scaled_tensor.specs.Tensors.{TensorValue, coefficient}
use Rattle.tensor_product.specs.Sigs.{IsBoundedBy}
use Rattle.tensor_product.specs.Multiplication.{IsProduct}
use Rattle.tensor_product.proofs.ExtendLaws.{word-take}
use Rattle.tensor_product.proofs.MultiplyLaws.{word-drop, suffixes-bounded, product-starts}
use Rattle.tensor_product.proofs.SigLaws.{prefixes-bounded, empty-word}
use Rattle.lie_bracket.specs.declared.term.Term.{Term}
use Rattle.piecewise.specs.Series.{series_of, product_of, AreCoordinates}
use Rattle.piecewise.specs.Faults.{IsUnfoldFault}
use Rattle.piecewise.specs.Placed.{IsSeriesOf}
use Rattle.piecewise.specs.Wholes.{part_at, total_weight, AreCoordinatesOfEach, IsWholeFault, IsWantOfRoomInWhole, IsRefusal}
use Rattle.piecewise.specs.declared.fault.UnfoldFault.{UnfoldFault}
use Rattle.piecewise.specs.declared.fault.UnfoldFault.TheVariants.{Overflow as TooHeavy, Expand, Split, Log, Whole, Size, Memory as NoMemory}
use Rattle.piecewise.specs.declared.fault.WholeFault.{WholeFault}
use Rattle.piecewise.specs.declared.fault.WholeFault.TheVariants.{Part, Overflow, Memory}
use Rattle.piecewise.proofs.LevelSteps.{AgreeOn, unit-within}
use Rattle.piecewise.proofs.Signatures.{series-is, only-room}

-- series that agree at the words of an extent have products that agree there
pub products-agree : (extent : Extent) (a a' b b' : List ℕ → ℤ) → AgreeOn extent a a' → AgreeOn extent b b' → AgreeOn extent (scaled_product a b) (scaled_product a' b')
products-agree extent a a' b b' left right word is_word =
    scaled_product-same a a' b b' word (λ i h. left (take i word) (word-take extent i word is_word)) (λ i h. right (drop i word) (word-drop extent i word is_word))

-- no parts
pub product-none : (extent : Extent) (word : List ℕ) → product_of extent [] word ≡ unit word
unfolding product_of
product-none extent word = refl

-- one part more
pub product-more : (extent : Extent) (parts : List (List Term × ℕ)) (i : ℕ) → i < length parts
    → (word : List ℕ) → product_of extent (take (i + 1) parts) word ≡ scaled_product (product_of extent (take i parts)) (series_of extent (part_at parts i).0) word
unfolding product_of
product-more extent parts i here word =
    ap (λ (s : List ℕ → ℤ). s word) (fold_more (λ (series : List ℕ → ℤ) (part : List Term × ℕ). scaled_product series (series_of extent part.0)) unit parts i ([], 0) here)

-- the product of bounded tensors is bounded by the sum
pub product-bounded : (a b product : TensorValue) (v w : ℕ) → b.extent ≡ a.extent → IsBoundedBy a v → IsBoundedBy b w → IsProduct a b product → IsBoundedBy product (v + w)
product-bounded a b product v w same left right is = record {
  bounded = λ word is_product_word.
      let is_word : IsWord a.extent word = subst (λ (e : Extent). IsWord e word) is.same_extent is_product_word in
      subst (λ (z : ℤ). unsigned_abs z ≤ (v + w) ^ length word) (sym (is.products word is_word))
      (product-bound (coefficient a) (coefficient b) v w word
      (record {
        left = prefixes-bounded a v word left is_word;
        right = suffixes-bounded b w word right (subst (λ (e : Extent). IsWord e word) (sym same) is_word);
      }));
}

-- ---- part after part
-- the product of the series of the first n parts, with the sum of their weights
pub record IsPartialProduct (extent : Extent) (parts : List (List Term × ℕ)) (n bound : ℕ) (t : TensorValue) : Type 0 where
  -- it has this shape
  pub same_extent : t.extent ≡ extent
  -- it is 1 at the empty word
  pub starts : coefficient t [] ≡ pos 1
  -- it is the product of the first n parts
  pub values : (word : List ℕ) → IsWord extent word → coefficient t word ≡ product_of extent (take n parts) word
  -- the bound is the sum of their weights
  pub sum : bound ≡ total_weight (take n parts)
  -- and bounds it
  pub bounded : IsBoundedBy t bound

-- before the first part
pub partial-none : (extent : Extent) (parts : List (List Term × ℕ)) (t : TensorValue) → t.extent ≡ extent → AgreeOn extent (coefficient t) unit → IsPartialProduct extent parts 0 0 t
partial-none extent parts t same is = record {
  same_extent = same;
  starts = is [] (empty-word extent);
  values = λ word is_word. is word is_word ∙ sym (product-none extent word);
  sum = refl;
  bounded = record {
    bounded = λ word is_word. subst (λ (x : ℤ). unsigned_abs x ≤ 0 ^ length word) (sym (is word (subst (λ (e : Extent). IsWord e word) same is_word))) (unit-within 0 word);
  };
}

-- one part more
pub partial-next : (extent : Extent) (parts : List (List Term × ℕ)) (n bound : ℕ) (old series new : TensorValue) → n < length parts → IsPartialProduct extent parts n bound old
    → IsSeriesOf extent (part_at parts n).0 (part_at parts n).1 series → IsProduct old series new → IsPartialProduct extent parts (n + 1) (bound + (part_at parts n).1) new
partial-next extent parts n bound old series new here before is product =
    let word_of : (word : List ℕ) → IsWord extent word → IsWord old.extent word = λ word. subst (λ (e : Extent). IsWord e word) (sym before.same_extent) in
    record {
      same_extent = product.same_extent ∙ before.same_extent;
      starts = product.products [] (empty-word old.extent) ∙ product-starts (coefficient old) (coefficient series) before.starts is.starts;
      values = λ word is_word.
          product.products word (word_of word is_word)
          ∙ products-agree extent (coefficient old) (product_of extent (take n parts)) (coefficient series) (series_of extent (part_at parts n).0) before.values is.values word is_word
          ∙ sym (product-more extent parts n here word);
      sum = ap (λ (m : ℕ). m + (part_at parts n).1) before.sum ∙ sym (sum_by_more (λ (part : List Term × ℕ). part.1) parts n ([], 0) here);
      bounded = product-bounded old series new bound (part_at parts n).1 (is.same_extent ∙ sym before.same_extent) before.bounded is.bounded product;
    }

-- they are within the whole sum
pub partial-within : (parts : List (List Term × ℕ)) (n bound : ℕ) → n < length parts → bound ≡ total_weight (take n parts) → bound + (part_at parts n).1 ≤ total_weight parts
partial-within parts n bound here sum = omega (arith, sum, sum_by_more_le (λ (part : List Term × ℕ). part.1) parts n ([], 0) here)

-- the partial sums of weights that fit, fit
pub partial-fits : (parts : List (List Term × ℕ)) (n bound depth : ℕ) → n < length parts → bound ≡ total_weight (take n parts) → total_weight parts ^ depth ≤ limit
    → (bound + (part_at parts n).1) ^ depth ≤ limit
partial-fits parts n bound depth here sum fits =
    le_trans (pow-le-pow_left (partial-within parts n bound here sum) depth) fits

-- ---- the signature of the whole
-- parts after a series that agrees with a signature
fold-is : (extent : Extent) (shape : IsShape extent) (lists : List (List Parts)) (parts : List (List Term × ℕ)) (s : List ℕ → ℤ) (before : List Parts)
    → AreCoordinatesOfEach extent lists parts → AgreeOn extent s (signature before)
    → AgreeOn extent (fold (λ (series : List ℕ → ℤ) (part : List Term × ℕ). scaled_product series (series_of extent part.0)) s parts) (signature (before ++ flat_map (λ moves. moves) lists))
fold-is extent shape [] [] s before are agrees word is_word = agrees word is_word ∙ ap (λ (moves : List Parts). signature moves word) (sym (append-nil before))
fold-is extent shape [] (part ∷ parts) s before are agrees word is_word = absurd are
fold-is extent shape (moves ∷ lists) [] s before are agrees word is_word = absurd are
fold-is extent shape (moves ∷ lists) (part ∷ parts) s before are agrees word is_word =
    fold-is extent shape lists parts (scaled_product s (series_of extent part.0)) (before ++ moves) are.1
    (λ w is. products-agree extent s (signature before) (series_of extent part.0) (signature moves) agrees (series-is extent shape moves part.0 part.1 are.0) w is
    ∙ sym (signature-append before moves w)) word is_word
    ∙ ap (λ (all : List Parts). signature all word) (append_assoc before moves (flat_map (λ (m : List Parts). m) lists))

-- the product of the parts is the signature of all the moves
pub product-is : (extent : Extent) (shape : IsShape extent) (lists : List (List Parts)) (parts : List (List Term × ℕ)) → AreCoordinatesOfEach extent lists parts
    → AgreeOn extent (product_of extent parts) (signature (flat_map (λ moves. moves) lists))
unfolding product_of
product-is extent shape lists parts are = fold-is extent shape lists parts unit [] are (λ word is_word. sym (signature-none word))

-- ---- refusals
part-coordinates : (extent : Extent) (lists : List (List Parts)) (parts : List (List Term × ℕ)) (i : ℕ) → AreCoordinatesOfEach extent lists parts → i < length parts
    → (moves : List Parts) × AreCoordinates extent moves (part_at parts i).0 (part_at parts i).1
part-coordinates extent [] [] i are here = absurd (omega arith)
part-coordinates extent [] (part ∷ parts) i are here = absurd are
part-coordinates extent (moves ∷ lists) [] i are here = absurd are
part-coordinates extent (moves ∷ lists) (part ∷ parts) zero are here = (moves, are.0)
part-coordinates extent (moves ∷ lists) (part ∷ parts) (suc i) are here = part-coordinates extent lists parts i are.1 (omega arith)

refusal-is : (extent : Extent) (z : List Term) (weight : ℕ) (fault : UnfoldFault) → IsRefusal extent z weight fault → IsUnfoldFault extent z weight fault
refusal-is extent z weight (TooHeavy w) h = h
refusal-is extent z weight (Expand k) h = h
refusal-is extent z weight (Split k) h = h
refusal-is extent z weight (Log k) h = h
refusal-is extent z weight (Whole k) h = h
refusal-is extent z weight (Size k) h = h
refusal-is extent z weight NoMemory h = absurd h

-- the parts of a signature are refused for want of room alone
pub only-room-in_whole : (extent : Extent) (shape : IsShape extent) (lists : List (List Parts)) (parts : List (List Term × ℕ)) (fault : WholeFault) → AreCoordinatesOfEach extent lists parts
    → IsWholeFault extent parts fault → IsWantOfRoomInWhole fault
only-room-in_whole extent shape lists parts (Part i f) are h =
    let at : (moves : List Parts) × AreCoordinates extent moves (part_at parts i).0 (part_at parts i).1 = part-coordinates extent lists parts i are h.0 in
    only-room extent shape at.0 (part_at parts i).0 (part_at parts i).1 at.1 f (refusal-is extent (part_at parts i).0 (part_at parts i).1 f h.2)
only-room-in_whole extent shape lists parts (Overflow w) are h = tt
only-room-in_whole extent shape lists parts Memory are h = tt
