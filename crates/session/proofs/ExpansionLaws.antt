-- The due Hall coordinates expand to the logarithm.
use Rattle.std.proofs.Common.{◌≡◌, ℕ, zero, suc, ◌≤◌, ap, subst, List, [], ◌∷◌, Option, Some, None, get_or}
use Rattle.std.specs.Prelude.{ℤ}
use Rattle.definitions.specs.Words.{Extent}
use Rattle.definitions.specs.Signature.{signature}
use Rattle.definitions.specs.Logarithm.{logarithm}
use Rattle.definitions.specs.Rows.{RowValue, moves_of}
use Rattle.dynkin_map.proofs.LogarithmsInCoordinates.{logarithm-expands}
use Rattle.script_reader.specs.declared.command.Command.{Command}
use Rattle.script_reader.specs.declared.command.Command.TheVariants as commands
use Rattle.script_reader.specs.Script.{ScriptValue, IsScript}
use Rattle.book.specs.declared.query.Query.{Query}
use Rattle.book.specs.declared.step.LookReply.{LookReply}
use Rattle.book.specs.Play.{State, PendingLook, pending_of, found, look_refusal, looked_rows}
use Rattle.session.specs.declared.asked.Wanted.{Wanted}
use Rattle.session.specs.declared.asked.Wanted.TheVariants.{Signature, Logarithm}
use Rattle.session.specs.Play.{Due, Logged, Run, wanted_by, asked_by, query_for, valued, unless, looked, next_of, next_request, of_session, stepped, opening_run}
use Rattle.session.specs.Logarithms.{ExpandsTo, IsExpanded, AreExpanded, ExpandIn}

-- what holds of an answer, whether or not it is a logarithm
abbrev Expands : Extent → (List ℕ → ℤ) → Due → Type 0
Expands extent series (Logged reply terms) = ExpandsTo extent terms series
Expands extent series _ = Unit {0}

valued-expands : (extent : Extent) (wanted : Wanted) (reply : LookReply) (rows : List RowValue) → extent.depth ≤ 8 → Expands extent (logarithm (signature (moves_of rows))) (valued extent wanted reply rows)
valued-expands extent Signature reply rows small = tt
valued-expands extent Logarithm reply rows small = record { expands = logarithm-expands extent (moves_of rows) small }

unless-expands : (extent : Extent) (series : List ℕ → ℤ) (refusal : Option LookReply) (due : Due) → Expands extent series due → Expands extent series (unless refusal due)
unless-expands extent series None due expands = expands
unless-expands extent series (Some reply) due expands = tt

looked-expands : (extent : Extent) (state : State) (wanted : Wanted) (q : Query) → extent.depth ≤ 8 → Expands extent (logarithm (signature (moves_of (looked_rows state.edits q)))) (looked extent state wanted q)
looked-expands extent state wanted q small =
    unless-expands extent _ (look_refusal state.edits q) _ (valued-expands extent wanted (found state q) (looked_rows state.edits q) small)

only-is : (due other : Due) → due ∷ [] ≡ other ∷ [] → due ≡ other
only-is due other same = ap (λ (dues : List Due). get_or dues 0 due) same

request-expands : (extent : Extent) (state : State) (session : ℕ) (look : Option PendingLook) (left : List Command) → extent.depth ≤ 8
    → IsExpanded extent state left (next_of extent session look left)
request-expands extent state session (Some look) left small = tt
request-expands extent state session None [] small = tt
request-expands extent state session None (commands.Edit edit ∷ left) small = tt
request-expands extent state session None (commands.Ask ask ∷ left) small = λ reply terms is.
    let q : Query = query_for extent (asked_by ask) in
    subst (Expands extent (logarithm (signature (moves_of (looked_rows state.edits q))))) (only-is (looked extent state (wanted_by ask.kind) q) (Logged reply terms) is)
    (looked-expands extent state (wanted_by ask.kind) q small)

session-expands : (extent : Extent) (session : ℕ) (run : Run) → extent.depth ≤ 8 → IsExpanded extent run.state (of_session session run.left) (next_request extent session run)
session-expands extent zero run small = tt
session-expands extent (suc n) run small = request-expands extent run.state (suc n) (pending_of (suc n) run.state.pending) (of_session (suc n) run.left) small

-- each logarithm that is due in an order expands to the logarithm of its rows, for shapes whose words have at most 8 letters
order-expands : (capacity : ℕ) (extent : Extent) (order : List ℕ) (run : Run) → extent.depth ≤ 8 → AreExpanded capacity extent order run
order-expands capacity extent [] run small = tt
order-expands capacity extent (session ∷ order) run small = (
  session-expands extent session run small,
  order-expands capacity extent order (stepped capacity extent session run) small,
)

-- so it is along every order of a script
pub expand-in : (script : ScriptValue) → IsScript script → (capacity : ℕ) (order : List ℕ) → ExpandIn capacity script order
expand-in script is capacity order = order-expands capacity script.extent order (opening_run script) is.shape.within_depth
