-- Nodes whose pairs are kept.
use Rattle.std.specs.Prelude.{◌≡◌, ℕ, List, All, true}
use Rattle.dyadic.specs.Nodes.{NodeValue}
use Rattle.node_cache.specs.Entries.{Entry}
use Rattle.versions.specs.declared.log.Accepted.{Accepted}
use Rattle.book.specs.Walks.{pair_at, is_kept}
use Rattle.book.specs.Books.{held}

-- the pair of each node at version v is kept
abbrev pub AllHeld : List Accepted → ℕ → List NodeValue → List Entry → Type 0
AllHeld edits v nodes entries = All (λ node. is_kept (pair_at edits v node) (held entries) ≡ true) nodes
