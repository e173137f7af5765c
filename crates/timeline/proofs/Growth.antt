-- Lists and stores that grow.
use Rattle.std.proofs.Common.{◌≡◌, ◌∙◌, ℕ, suc, ◌<◌, ◌≤◌, List, [], ◌∷◌, ◌++◌, length, get_or, take, refl, sym, ap, arith, length-append}
use Rattle.std.proofs.lemmas.List.{get_or_append_left, get_or_at}
use Rattle.definitions.specs.Rows.{RowValue}
use Rattle.timeline.specs.declared.span.Span.{Span}
use Rattle.timeline.specs.Stores.{Store, no_span, no_row, span_at}
use Rattle.timeline.specs.Puts.{Keeps, Grows, GainsSpans, IsAppended}

-- a list that is the same keeps its elements where they are
pub Keeps-same : {A : Type 0} (d : A) (xs ys : List A) → ys ≡ xs → Keeps d xs ys
Keeps-same d xs ys e = record { longer = omega (arith, ap length e); same = λ i h. ap (λ zs. get_or zs i d) e }

-- a list with one more at its end keeps the others where they are
pub Keeps-push : {A : Type 0} (d : A) (xs ys : List A) (x : A) → ys ≡ xs ++ x ∷ [] → Keeps d xs ys
Keeps-push d xs ys x e = record {
  longer = omega (arith, ap length e, length-append xs (x ∷ []));
  same = λ i h. ap (λ zs. get_or zs i d) e ∙ get_or_append_left xs (x ∷ []) d i h;
}

-- if ys keeps the elements of xs, and zs those of ys, then zs keeps those of xs
pub Keeps-more : {A : Type 0} (d : A) (xs ys zs : List A) → Keeps d xs ys → Keeps d ys zs → Keeps d xs zs
Keeps-more d xs ys zs p q = record { longer = omega (arith, p.longer, q.longer); same = λ i h. q.same i (omega (arith, p.longer)) ∙ p.same i h }

-- the first elements of a list that has grown
kept-take : {A : Type 0} (d : A) (xs ys : List A) → length xs ≤ length ys → ((i : ℕ) → i < length xs → get_or ys i d ≡ get_or xs i d) → take (length xs) ys ≡ xs
kept-take d [] ys longer same = refl
kept-take d (x ∷ xs) [] longer same = absurd (omega arith)
kept-take d (x ∷ xs) (y ∷ ys) longer same =
    ap (λ z. z ∷ take (length xs) ys) (same 0 (omega arith)) ∙ ap (λ zs. x ∷ zs) (kept-take d xs ys (omega arith) (λ i h. same (suc i) (omega (arith, h))))

-- a list that keeps the elements of xs begins with xs
pub Keeps-take : {A : Type 0} (d : A) (xs ys : List A) → Keeps d xs ys → take (length xs) ys ≡ xs
Keeps-take d xs ys k = kept-take d xs ys k.longer k.same

-- ---- stores
-- a store that grows twice has grown from what it was at first
pub Grows-more : (a b c : Store) → Grows a b → Grows b c → Grows a c
Grows-more a b c p q = record {
  spans = Keeps-more no_span a.spans b.spans c.spans p.spans q.spans;
  rows = Keeps-more no_row a.rows b.rows c.rows p.rows q.rows;
  keys = Keeps-more 0 a.keys b.keys c.keys p.keys q.keys;
}

-- a store that gains tree nodes grows
pub Grows-gained : (a b : Store) → GainsSpans a b → Grows a b
Grows-gained a b g = record { spans = g.spans; rows = Keeps-same no_row a.rows b.rows g.rows; keys = Keeps-same 0 a.keys b.keys g.keys }

-- a store that stays as it is gains tree nodes, namely none
pub Gains-none : (a : Store) → GainsSpans a a
Gains-none a = record { spans = Keeps-same no_span a.spans a.spans refl; rows = refl; keys = refl }

-- two gains of tree nodes, one after the other, are one
pub Gains-more : (a b c : Store) → GainsSpans a b → GainsSpans b c → GainsSpans a c
Gains-more a b c p q = record { spans = Keeps-more no_span a.spans b.spans c.spans p.spans q.spans; rows = q.rows ∙ p.rows; keys = q.keys ∙ p.keys }

-- a store with one more tree node gains tree nodes
pub Gains-appended : (a b : Store) (span : Span) (j : ℕ) → IsAppended a b span j → GainsSpans a b
Gains-appended a b span j p = record { spans = Keeps-push no_span a.spans b.spans span p.spans; rows = p.rows; keys = p.keys }

-- the new tree node is at its place
pub appended-at : (a b : Store) (span : Span) (j : ℕ) → IsAppended a b span j → span_at b j ≡ span
appended-at a b span j p =
    ap (λ ys. get_or ys j no_span) p.spans ∙ get_or_at a.spans span [] no_span j (sym p.place)

-- this place is one of the new store
pub appended-within : (a b : Store) (span : Span) (j : ℕ) → IsAppended a b span j → j < length b.spans
appended-within a b span j p = omega (arith, p.place, ap length p.spans, length-append a.spans (span ∷ []))

abbrev store-with : List Span → List RowValue → List ℕ → Store
store-with xs ys zs = record { spans = xs; rows = ys; keys = zs }

-- stores with the same tree nodes, rows and keys are the same
pub same-store : (a b : Store) → b.spans ≡ a.spans → b.rows ≡ a.rows → b.keys ≡ a.keys → b ≡ a
same-store a b spans rows keys =
    ap (λ (xs : List Span). store-with xs b.rows b.keys) spans ∙ ap (λ (xs : List RowValue). store-with a.spans xs b.keys) rows ∙ ap (λ (xs : List ℕ). store-with a.spans a.rows xs) keys
