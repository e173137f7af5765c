-- The pairs that are held after a call of the cache.
use Rattle.std.proofs.Common.{◌≡◌, Bool, ◌∙◌, ℕ, refl, sym, ap, List, [], ◌∷◌, take, cond, not, true, false}
use Rattle.std.specs.Prelude.{filter}
use Rattle.std.proofs.lemmas.List.{take-map}
use Rattle.std.proofs.lemmas.List.Elements.{All-take, All-cons, All-filter}
use Rattle.dyadic.specs.Nodes.{NodeValue}
use Rattle.tensor_product.specs.Sigs.{SigValue}
use Rattle.node_cache.specs.Entries.{Entry, is_of, without_pair, kept}
use Rattle.versions.specs.Versions.{LogValue}
use Rattle.book.specs.Walks.{Pair, is_pair}
use Rattle.book.specs.Play.{to_front}
use Rattle.book.specs.Books.{Keeps, AreKept, pair_of, held}

-- a test on pairs, of entries and of the pairs that they hold
pub held-filter : (test : Pair → Bool) (entries : List Entry) → held (filter (λ e. test (pair_of e)) entries) ≡ filter test (held entries)
held-filter test [] = refl
held-filter test (e ∷ entries) =
    elim (test (pair_of e)) as (λ t. held (cond t (e ∷ filter (λ f. test (pair_of f)) entries) (filter (λ f. test (pair_of f)) entries)) ≡ cond t (pair_of e ∷ filter test (held entries)) (filter test (held entries))) [
      | true ↦ ap (λ ps. pair_of e ∷ ps) (held-filter test entries)
      | false ↦ held-filter test entries
    ]

module _ (node : NodeValue) (since : ℕ) where
  -- an entry that is kept goes to the front
  pub held-kept : (sig : SigValue) (capacity : ℕ) (entries : List Entry) → held (kept node since sig capacity entries) ≡ take capacity (to_front (record { node = node; since = since }) (held entries))
  held-kept sig capacity entries =
      sym (take-map pair_of capacity (record { node = node; since = since; sig = sig } ∷ without_pair node since entries))
      ∙ ap (λ (ps : List Pair). take capacity (record { node = node; since = since } ∷ ps)) (held-filter (λ other. not (is_pair (record { node = node; since = since }) other)) entries)

-- an entry with the signature of its rows may be put into a cache of such entries
pub kept-kept : (log : LogValue) (node : NodeValue) (since : ℕ) (sig : SigValue) (capacity : ℕ) (entries : List Entry) → Keeps log.extent log.edits (record { node = node; since = since; sig = sig })
    → AreKept log entries → AreKept log (kept node since sig capacity entries)
kept-kept log node since sig capacity entries keeps are =
    let Is : Entry → Type 0 = Keeps log.extent log.edits in
    let e : Entry = record { node = node; since = since; sig = sig } in
    All-take Is capacity (e ∷ without_pair node since entries) (All-cons Is e (without_pair node since entries) keeps (All-filter (λ f. not (is_of node since f)) Is entries are))
