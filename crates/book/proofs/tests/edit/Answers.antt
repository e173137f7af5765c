use Rattle.std.proofs.Common.{◌≡◌, ◌∙◌, ℕ, ◌≤◌, ◌+◌, arith, subst, sym, Bool, true, false, cond, List, [], ◌∷◌, ◌++◌, length, length-append, Option, Some, None}
use Rattle.std.specs.Prelude.{All, unwrap_or, slice_index_or}
use Rattle.std.specs.Arc.{arc_value}
use Rattle.definitions.specs.Words.{Extent}
use Rattle.definitions.specs.Rows.{RowValue, rows_in, moves_of}
use Rattle.dyadic.specs.Nodes.{low_of, high_of}
use Rattle.tensor_product.specs.Sigs.{StandsFor}
use Rattle.versions.specs.declared.edit.Edit.{Edit}
use Rattle.versions.specs.declared.log.Accepted.{Accepted}
use Rattle.versions.specs.Versions.{accepts, current_rows, edited_tick, after_edit}
use Rattle.versions.proofs.Replays.{rows_at-append}
use Rattle.solve.specs.declared.solution.SolvedNode.{SolvedNode}
use Rattle.book.specs.Play.{State, PendingLook, pending_of, after_editing, Editing}
use Rattle.book.specs.Plans.{HasSignature, IsSettlement}
use Rattle.book.specs.Books.{BookValue, IsSettledBy, IsPendingOr, state_of, log_of, with_request}
use Rattle.book.proofs.StateLaws.{state-push}
use Rattle.book.proofs.tests.edit.Goals as goal

module _ (extent : Extent) (solved : List SolvedNode) where
  -- these nodes settle a look that is pending after these edits
  abbrev Settles : List Accepted → Option PendingLook → Type 0
  Settles edits look = IsSettledBy (record { extent = extent; edits = edits }) look solved × IsPendingOr edits look

  signed : (edits more : List Accepted) (v : ℕ) (s : SolvedNode) → v ≤ length edits → HasSignature extent edits v s.node (arc_value s.sig) → HasSignature extent (edits ++ more) v s.node (arc_value s.sig)
  signed edits more v s within is = record {
    extent_is = is.extent_is;
    stands = subst (λ (rows : List RowValue). StandsFor (arc_value s.sig) (moves_of (rows_in (low_of s.node) (high_of s.node) rows))) (sym (rows_at-append edits more v within)) is.stands;
  }

  later : (edits : List Accepted) (last : Accepted) (look : Option PendingLook) → Settles edits look → Settles (edits ++ last ∷ []) look
  later edits last None is = absurd is.0
  later edits last (Some look) is = (
    record {
      nodes_are = is.0.nodes_are;
      signatures = λ k d here. signed edits (last ∷ []) look.version (slice_index_or solved k d) is.1.version (is.0.signatures k d here);
    },
    record { version = omega (arith, is.1.version, length-append edits (last ∷ [])); nodes = is.1.nodes },
  )

  edited-settles : (edits : List Accepted) (e : Edit) (look : Option PendingLook) → Settles edits look → Settles (after_edit edits e) look
  edited-settles edits e look is =
      let taken : Accepted = record { edit = e; tick = unwrap_or (edited_tick (current_rows edits) e) 0 } in
      elim (accepts (current_rows edits) e) as (λ t. Settles (cond t (edits ++ taken ∷ []) edits) look) [
        | true ↦ later edits taken look is
        | false ↦ is
      ]

pub edit-settles : (book : BookValue) (e : Edit) (session : ℕ) (solved : List SolvedNode)
    → Settles book.extent solved (state_of book).edits (pending_of 1 (state_of book).pending)
    → Settles book.extent solved (state_of (with_request (Editing session e) book)).edits (pending_of 1 (state_of (with_request (Editing session e) book)).pending)
edit-settles book e session solved is =
    subst (λ (state : State). Settles book.extent solved state.edits (pending_of 1 state.pending)) (sym (state-push book (Editing session e)))
    (edited-settles book.extent solved (state_of book).edits e (pending_of 1 (state_of book).pending) is)
