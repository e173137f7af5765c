-- What an edit makes of the edits and the entries.
use Rattle.std.proofs.Common.{◌≡◌, ◌∙◌, ℕ, ◌+◌, refl, sym, ap, subst, arith, Bool, true, false, T, cond, List, [], ◌∷◌, ◌++◌, length, inl, inr}
use Rattle.std.specs.Prelude.{All, filter, not, nat_lt, unwrap_or, slice_index_or}
use Rattle.std.proofs.lemmas.Bool.{cases_Bool}
use Rattle.std.proofs.lemmas.Bool.Decides.{nat_tests}
use Rattle.std.proofs.lemmas.List.{length-append}
use Rattle.std.proofs.lemmas.List.Elements.{All-filter, filter_passes}
use Rattle.definitions.specs.Words.{Extent}
use Rattle.definitions.specs.Rows.{RowValue, moves_of, rows_in}
use Rattle.dyadic.specs.Nodes.{low_of, high_of}
use Rattle.node_cache.specs.Entries.{Entry}
use Rattle.tensor_product.specs.Sigs.{StandsFor}
use Rattle.versions.specs.declared.edit.Edit.{Edit}
use Rattle.versions.specs.declared.edit.Edit.TheVariants.{Append, Correct, Remove}
use Rattle.versions.specs.declared.edit.EditReply.{EditReply}
use Rattle.versions.specs.declared.edit.EditReply.TheVariants.{Done, NameTaken, NoRow}
use Rattle.versions.specs.declared.log.Accepted.{Accepted}
use Rattle.versions.specs.Versions.{accepts, current_rows, edited_tick, edit_reply, after_edit, refusal}
use Rattle.versions.proofs.Replays.{rows_at-append}
use Rattle.book.specs.Walks.{Pair}
use Rattle.book.specs.Play.{is_past, recent, pairs_after_edit}
use Rattle.book.specs.Books.{Keeps, held}
use Rattle.book.proofs.HeldLaws.{held-filter}
use Rattle.book.proofs.SinceLaws.{since-append}

-- ---- accepted or refused
abbrev is_done : EditReply → Bool
is_done (Done v) = true
is_done (NameTaken v) = false
is_done (NoRow v) = false

refusal-undone : (e : Edit) (v : ℕ) → is_done (refusal e v) ≡ false
refusal-undone (Append name tick x) v = refl
refusal-undone (Correct name x) v = refl
refusal-undone (Remove name) v = refl

module _ (edits : List Accepted) (e : Edit) where
  -- the edit as it is accepted, with the tick of its row
  abbrev pub taken : Accepted
  taken = record { edit = e; tick = unwrap_or (edited_tick (current_rows edits) e) 0 }

  -- the reply `done` says that the edit was accepted
  pub done-accepted : (v : ℕ) → edit_reply edits e ≡ Done v → accepts (current_rows edits) e ≡ true
  done-accepted v is =
      elim (cases_Bool (accepts (current_rows edits) e)) [
        | inl accepted ↦ accepted
        | inr refused ↦ (
            let undone : edit_reply edits e ≡ refusal e (length edits) = ap (λ t. cond t (Done (length edits + 1)) (refusal e (length edits))) refused in
            absurd (subst T (ap is_done (sym is ∙ undone) ∙ refusal-undone e (length edits)) tt))
      ]

  -- any other reply says that it wasn't
  pub undone-refused : ((v : ℕ) → edit_reply edits e ≡ Done v → ⊥) → accepts (current_rows edits) e ≡ false
  undone-refused undone =
      elim (cases_Bool (accepts (current_rows edits) e)) [
        | inl accepted ↦ absurd (undone (length edits + 1) (ap (λ t. cond t (Done (length edits + 1)) (refusal e (length edits))) accepted))
        | inr refused ↦ refused
      ]

  -- an accepted edit is the next one
  pub after-accepted : accepts (current_rows edits) e ≡ true → after_edit edits e ≡ edits ++ taken ∷ []
  after-accepted accepted = ap (λ t. cond t (edits ++ taken ∷ []) edits) accepted

  -- a refused edit adds nothing
  pub after-refused : accepts (current_rows edits) e ≡ false → after_edit edits e ≡ edits
  after-refused refused = ap (λ t. cond t (edits ++ taken ∷ []) edits) refused

-- ---- the entries after it
-- where there is no edit more, no pair goes
pub pairs-refused : (edits : List Accepted) (pairs : List Pair) → pairs_after_edit edits edits pairs ≡ pairs
pairs-refused edits pairs =
    let test : nat_lt (length edits) (length edits) ≡ false = grind (arith, nat_tests) in
    ap (λ t. cond t (recent edits pairs) pairs) test

-- after an accepted edit the pairs stay whose versions didn't end long ago
pub pairs-accepted : (edits : List Accepted) (last : Accepted) (entries : List Entry)
    → held (filter (λ e. not (is_past (edits ++ last ∷ []) e.node e.since)) entries) ≡ pairs_after_edit edits (edits ++ last ∷ []) (held entries)
pairs-accepted edits last entries =
    let more : List Accepted = edits ++ last ∷ [] in
    let longer : length more ≡ length edits + 1 = length-append edits (last ∷ []) in
    let test : nat_lt (length edits) (length more) ≡ true = grind (arith, nat_tests, longer) in
    held-filter (λ (pair : Pair). not (is_past more pair.node pair.since)) entries ∙ sym (ap (λ t. cond t (recent more (held entries)) (held entries)) test)

not-true : (b : Bool) → not b ≡ true → b ≡ false
not-true true is = sym is
not-true false is = refl

-- what was kept and isn't past is still true
keeps-after : (extent : Extent) (edits : List Accepted) (last : Accepted) (e : Entry) → Keeps extent edits e → is_past (edits ++ last ∷ []) e.node e.since ≡ false → Keeps extent (edits ++ last ∷ []) e
keeps-after extent edits last e keeps still = record {
  is_node = keeps.is_node;
  back = omega (arith, keeps.back, length-append edits (last ∷ []));
  latest = since-append (low_of e.node) (high_of e.node) edits (last ∷ []) e.since keeps.back ∙ keeps.latest;
  recent = still;
  signature = record {
    extent_is = keeps.signature.extent_is;
    stands = subst (λ (rows : List RowValue). StandsFor e.sig (moves_of (rows_in (low_of e.node) (high_of e.node) rows))) (sym (rows_at-append edits (last ∷ []) e.since keeps.back)) keeps.signature.stands;
  };
}

-- an entry that stays keeps its signature: an edit changes no earlier version
pub kept-after : (extent : Extent) (edits : List Accepted) (last : Accepted) (entries : List Entry) → All (Keeps extent edits) entries
    → All (Keeps extent (edits ++ last ∷ [])) (filter (λ e. not (is_past (edits ++ last ∷ []) e.node e.since)) entries)
kept-after extent edits last entries kept k d within =
    let test : Entry → Bool = λ e. not (is_past (edits ++ last ∷ []) e.node e.since) in
    let e : Entry = slice_index_or (filter test entries) k d in
    keeps-after extent edits last e (All-filter test (Keeps extent edits) entries kept k d within) (not-true (is_past (edits ++ last ∷ []) e.node e.since) (filter_passes test entries k d within))
