-- Pairs whose versions ended long ago.
use Rattle.std.proofs.Common.{◌≡◌, ℕ, ◌-◌, ◌≤◌, subst, arith, false, List, length, inl, inr}
use Rattle.std.specs.Prelude.{nat_lt}
use Rattle.std.proofs.lemmas.Bool.{cases_lt, le-ltb, ltb-false}
use Rattle.definitions.specs.Rows.{RowValue, moves_of}
use Rattle.dyadic.specs.Nodes.{NodeValue, IsNode, low_of, high_of}
use Rattle.tensor_product.specs.Sigs.{SigValue, StandsFor}
use Rattle.versions.specs.declared.log.Accepted.{Accepted}
use Rattle.versions.specs.Versions.{LogValue, IsLog, since}
use Rattle.versions.proofs.Untouched.{untouched-since}
use Rattle.book.specs.Play.{is_past}
use Rattle.book.specs.Plans.{HasSignature}
use Rattle.book.specs.Books.{Keeps}
use Rattle.book.proofs.SinceLaws.{since-le, since-latest, since-touched, since-reaches}

module _ (a b : ℕ) (edits : List Accepted) (v : ℕ) where
  -- what isn't touched long ago after v isn't after the last touch up to v
  pub past-since : nat_lt v (since a b edits (length edits - 64)) ≡ false → nat_lt (since a b edits v) (since a b edits (length edits - 64)) ≡ false
  past-since recent =
      let last : ℕ = since a b edits (length edits - 64) in
      let le : last ≤ v = ltb-false v last recent in
      le-ltb (since a b edits v) last (elim (cases_lt 0 last) [
        | inl some ↦ since-reaches a b edits v last (since-touched a b edits (length edits - 64) some) some le
        | inr none ↦ omega arith
      ])

-- an entry that is kept for a version that didn't end long ago
pub keeps-settled : (log : LogValue) (v : ℕ) (node : NodeValue) (sig : SigValue) → IsLog log → v ≤ length log.edits → IsNode node → is_past log.edits node v ≡ false
    → HasSignature log.extent log.edits v node sig → Keeps log.extent log.edits (record { node = node; since = since (low_of node) (high_of node) log.edits v; sig = sig })
keeps-settled log v node sig is within is_node recent has =
    let a : ℕ = low_of node in
    let b : ℕ = high_of node in
    record {
      is_node = is_node;
      back = omega (arith, since-le a b log.edits v);
      latest = since-latest a b log.edits v;
      recent = past-since a b log.edits v recent;
      signature = record {
        extent_is = has.extent_is;
        stands = subst (λ (rows : List RowValue). StandsFor sig (moves_of rows)) (untouched-since a b log is v within) has.stands;
      };
    }
