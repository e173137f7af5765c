-- Whether a session has anything to do.
use Rattle.std.proofs.Common.{◌≡◌, ◌∙◌, ℕ, zero, suc, ◌-◌, ◌<◌, ◌≤◌, refl, sym, ap, arith, true, false, List, [], ◌∷◌, length, ◌⊎◌, inl, inr, Option, Some, None}
use Rattle.std.specs.Prelude.{is_some, nat_lt, slice_index_or}
use Rattle.std.proofs.lemmas.Bool.Decides.{nat_tests}
use Rattle.std.proofs.lemmas.List.{length-drop, get_or_past}
use Rattle.definitions.specs.Words.{Extent}
use Rattle.script_reader.specs.declared.command.Command.{Command}
use Rattle.script_reader.specs.Script.{ScriptValue}
use Rattle.book.specs.Play.{State, Request, PendingLook, pending_of}
use Rattle.book.specs.Books.{IsSession, state_of}
use Rattle.session.specs.declared.run.Run.{Run as TheRun}
use Rattle.session.specs.Play.{has_next, next_of, of_session}
use Rattle.session.specs.Runs.{IsRun, run_of}
use Rattle.session.proofs.PendingLaws.{pending-length}
use Rattle.session.proofs.RunLaws.{next-is}

some-left : (extent : Extent) (session : ℕ) (look : Option PendingLook) (left : List Command) → is_some look ≡ false → is_some (next_of extent session look left) ≡ nat_lt 0 (length left)
some-left extent session (Some look) left none = absurd (cc)
some-left extent session None [] none = refl
some-left extent session None (command ∷ left) none = let some : nat_lt 0 (length (command ∷ left)) ≡ true = grind (arith, nat_tests) in sym some

module _ (script : ScriptValue) (run : TheRun) (session : ℕ) (is : IsRun script run) where
  -- there is no session of this number
  pub has_next-none : (session < 1) ⊎ (length script.sessions < session) → has_next script.extent (run_of script run.book) session ≡ false
  has_next-none past =
      elim (zero-or session) [
        | inl none ↦ ap (has_next script.extent (run_of script run.book)) none
        | inr some ↦ (
            let looks : length (run_of script run.book).state.pending ≡ length script.sessions =
            ap (λ (s : State). length s.pending) is.state ∙ pending-length run.book ∙ is.sessions in
            let beyond : length script.sessions ≤ session - 1 = elim past [ inl low ↦ omega arith | inr high ↦ omega arith ] in
            let none : pending_of session (run_of script run.book).state.pending ≡ None = get_or_past (run_of script run.book).state.pending (session - 1) None (omega arith) in
            let empty : of_session session (run_of script run.book).left ≡ [] = get_or_past (run_of script run.book).left (session - 1) [] (omega (arith, is.left_of)) in
            ap (λ (o : Option Request). is_some o) (next-is script.extent session (run_of script run.book) some)
            ∙ ap (λ (o : Option PendingLook). is_some (next_of script.extent session o (of_session session (run_of script run.book).left))) none
            ∙ ap (λ (left : List Command). is_some (next_of script.extent session None left)) empty)
      ]
    where
      zero-or : (n : ℕ) → (n ≡ 0) ⊎ (1 ≤ n)
      zero-or zero = inl refl
      zero-or (suc n) = inr (omega arith)

  asked : 1 ≤ session → has_next script.extent (run_of script run.book) session
      ≡ is_some (next_of script.extent session (pending_of session (state_of run.book).pending) (of_session session (run_of script run.book).left))
  asked some =
      ap (λ (o : Option Request). is_some o) (next-is script.extent session (run_of script run.book) some)
      ∙ ap (λ (s : State). is_some (next_of script.extent session (pending_of session s.pending) (of_session session (run_of script run.book).left))) is.state

  -- without a pending look it has what is left
  pub has_next-left : IsSession (length script.sessions) session → is_some (pending_of session (state_of run.book).pending) ≡ false
      → has_next script.extent (run_of script run.book) session ≡ nat_lt (slice_index_or run.taken.items (session - 1) 0) (length (of_session session script.sessions))
  has_next-left here none =
      let t : ℕ = slice_index_or run.taken.items (session - 1) 0 in
      let count : length (of_session session (run_of script run.book).left) ≡ length (of_session session script.sessions) - t =
      ap length (is.each session here).left ∙ length-drop t (of_session session script.sessions) in
      let same : nat_lt 0 (length (of_session session script.sessions) - t) ≡ nat_lt t (length (of_session session script.sessions)) = grind (arith, nat_tests) in
      asked here.some ∙ some-left script.extent session (pending_of session (state_of run.book).pending) (of_session session (run_of script run.book).left) none
      ∙ ap (nat_lt 0) count ∙ same
