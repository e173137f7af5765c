-- A new tree node of one key.
use Rattle.std.proofs.Common.{◌≡◌, ◌∙◌, ℕ, ◌<◌, ◌^◌, List, [], ◌∷◌, ◌++◌, length, get_or, take, refl, sym, ap, subst, arith, length-append}
use Rattle.std.specs.List.{All}
use Rattle.std.specs.Prelude.{Result, Ok, Err, IfOk, OnErr}
use Rattle.std.proofs.lemmas.List.{get_or_at}
use Rattle.std.proofs.lemmas.List.Elements.{All-nil, All-push}
use Rattle.definitions.specs.Moves.{move_weight}
use Rattle.definitions.specs.Rows.{RowValue, moves_of}
use Rattle.definitions.specs.Signature.{weight as weight_of}
use Rattle.timeline.specs.declared.span.Span.{Span}
use Rattle.timeline.specs.Keys.{key_of}
use Rattle.timeline.specs.Tries.{Leaf, rows_of, IsTrie}
use Rattle.timeline.specs.Stores.{Store, no_span, no_row, span_at, row_at, edit_key, label_at, Draws}
use Rattle.timeline.specs.Puts.{Keeps, GainsSpans, GainsRows, IsAppended, IsSpan, IsTip, IsFit, AreFit}
use Rattle.timeline.proofs.Growth.{Keeps-same, Keeps-push, Gains-appended, appended-at, appended-within}
use Rattle.timeline.proofs.Drawings.{trie-is, drawn-stands}

module _ (store : Store) (j r edit n w : ℕ) (rows : List RowValue) (within : j < length store.spans) (parts : IsSpan (span_at store j) 0 0 r edit n w) (made : edit < length store.keys)
    (there : 0 < n → r < length store.rows) (list : rows ≡ take n (row_at store r ∷ [])) (count : n ≡ length rows) (mass : w ≡ weight_of (moves_of rows)) (keyed : All (λ row. key_of row ≡ edit_key store edit) rows) where
  drawn : Draws store j (Leaf (label_at store j) rows)
  unfolding Draws
  drawn = (
    record { within = within; made = omega (arith, parts.edit, made); label = refl },
    record {
      within = λ some. omega (arith, parts.right, there (omega (arith, parts.count, some)));
      listed = list ∙ sym (ap (λ (k : ℕ). take k (row_at store (span_at store j).right ∷ [])) parts.count ∙ ap (λ (k : ℕ). take n (row_at store k ∷ [])) parts.right);
    },
  )

  is : IsTrie (Leaf (label_at store j) rows)
  unfolding IsTrie
  is = record {
    lowest = parts.height;
    keyed = subst (λ (e : ℕ). All (λ row. key_of row ≡ edit_key store e) rows) (sym parts.edit) keyed;
    counted = parts.count ∙ count;
    weighed = parts.weight ∙ mass;
  }

  -- a tree node of height 0 that counts and weighs these rows, all of the key of its edit, is one of this key
  pub new-tip : IsTip store edit rows j
  new-tip = record {
    stands = drawn-stands store j (Leaf (label_at store j) rows) drawn is (omega (arith, parts.height));
    lowest = parts.height;
    edit = parts.edit;
    rows = ap rows_of (trie-is store j (Leaf (label_at store j) rows) drawn is (omega (arith, parts.height)));
  }

-- a tree node without a row
pub bare-tip : (a b : Store) (j edit : ℕ) (span : Span) → IsAppended a b span j → IsSpan span 0 0 0 edit 0 0 → edit < length a.keys → IsTip b edit [] j
bare-tip a b j edit span appended parts made =
    new-tip b j 0 edit 0 0 [] (appended-within a b span j appended) (subst (λ (s : Span). IsSpan s 0 0 0 edit 0 0) (sym (appended-at a b span j appended)) parts) (omega (arith, made, ap length appended.keys))
    (λ h. absurd (omega (arith, h))) refl refl refl (All-nil (λ row. key_of row ≡ edit_key b edit))

-- a tree node with a new row
module _ (a mid b : Store) (edit place : ℕ) (row : RowValue) (place-is : place ≡ length a.rows) (spans : mid.spans ≡ a.spans) (rows : mid.rows ≡ a.rows ++ row ∷ []) (keys : mid.keys ≡ a.keys) where
  -- the new tree node is one of the key of this row, and has this row
  pub one-tip : (j w : ℕ) (span : Span) → IsAppended mid b span j → IsSpan span 0 0 place edit 1 w → edit < length a.keys → key_of row ≡ edit_key a edit → w ≡ move_weight row.x → IsTip b edit (row ∷ []) j
  one-tip j w span appended parts made keyed mass =
      let same-keys : b.keys ≡ a.keys = appended.keys ∙ keys in
      let same-rows : b.rows ≡ a.rows ++ row ∷ [] = appended.rows ∙ rows in
      let read : row_at b place ≡ row = ap (λ rs. get_or rs place no_row) same-rows ∙ get_or_at a.rows row [] no_row place (sym place-is) in
      let key : key_of row ≡ edit_key b edit = keyed ∙ sym (ap (λ ks. get_or ks edit 0) same-keys) in
      new-tip b j place edit 1 w (row ∷ []) (appended-within mid b span j appended) (subst (λ (s : Span). IsSpan s 0 0 place edit 1 w) (sym (appended-at mid b span j appended)) parts)
      (omega (arith, made, ap length same-keys)) (λ h. omega (arith, place-is, ap length same-rows, length-append a.rows (row ∷ []))) (ap (λ (r : RowValue). r ∷ []) (sym read)) refl (omega (arith, mass))
      (All-push (λ (r : RowValue). key_of r ≡ edit_key b edit) [] row (All-nil (λ (r : RowValue). key_of r ≡ edit_key b edit)) key)

  -- the store has gained a row, which has its bounds, and tree nodes
  pub one-gains : GainsSpans mid b → AreFit a → IsFit row → GainsRows a b
  one-gains gains fit here =
      let same-keys : b.keys ≡ a.keys = gains.keys ∙ keys in
      record {
        grows = record {
          spans = subst (λ (xs : List Span). Keeps no_span xs b.spans) spans gains.spans;
          rows = Keeps-push no_row a.rows b.rows row (gains.rows ∙ rows);
          keys = Keeps-same 0 a.keys b.keys same-keys;
        };
        keys = same-keys;
        fit = record {
          rows = subst (λ (rs : List RowValue). All IsFit rs) (sym (gains.rows ∙ rows)) (All-push IsFit a.rows row fit.rows here);
          keys = subst (λ (ks : List ℕ). All (λ (k : ℕ). k < 2 ^ 63) ks) (sym same-keys) fit.keys;
        };
      }

-- whether a tree node was appended or there was an error, the store has at most gained tree nodes
pub gained-either : (a b : Store) {E : Type 0} (span : Span) (r : Result ℕ E) → IfOk r (IsAppended a b span) → OnErr r (GainsSpans a b) → GainsSpans a b
gained-either a b span (Ok j) ok err = Gains-appended a b span j ok
gained-either a b span (Err e) ok err = err
