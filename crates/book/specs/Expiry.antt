-- Entries whose versions an edit ended.
use Rattle.std.specs.Prelude.{◌≡◌, ℕ, ◌+◌, ◌-◌, Bool, true, ◌&&◌, nat_eq, List}
use Rattle.dyadic.specs.Nodes.{NodeValue, low_of, high_of, LiesWithin}
use Rattle.node_cache.specs.Entries.{Entry}
use Rattle.versions.specs.declared.log.Accepted.{Accepted}
use Rattle.versions.specs.Versions.{touched, since}

-- the edit that makes version t touches the node of the entry, and none between the entry's version and t does
abbrev pub is_ended : List Accepted → ℕ → Entry → Bool
is_ended edits t e = touched (low_of e.node) (high_of e.node) edits t && nat_eq e.since (since (low_of e.node) (high_of e.node) edits (t - 1))

-- a half of the node that the edit touches too
pub record IsTouchedHalf (edits : List Accepted) (t : ℕ) (node half : NodeValue) : Type 0 where
  pub shorter : half.height + 1 ≡ node.height
  pub inside : LiesWithin (low_of node) (high_of node) half
  pub touches : touched (low_of half) (high_of half) edits t ≡ true
