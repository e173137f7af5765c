-- What a run is due: a status and a text, from what the command line wishes and the bytes of the source.
use Rattle.std.specs.Prelude.{◌≡◌, ◌⊎◌, ℕ, Bool, true, false, List, [], ◌++◌, codes, Option, Some, None, Result, Ok, Err}
use Rattle.std.specs.Fmt.{decimal}
use Rattle.definitions.specs.Words.{Extent}
use Rattle.command_line.specs.declared.wish.Form.{Form}
use Rattle.command_line.specs.declared.wish.Form.TheVariants as forms
use Rattle.command_line.specs.declared.wish.Wish.{Wish}
use Rattle.command_line.specs.declared.wish.Wish.TheVariants as wishes
use Rattle.script_reader.specs.declared.fault.Reason.{Reason}
use Rattle.script_reader.specs.declared.fault.Reason.TheVariants.{Byte, Keyword, Place, Fields, Name, Time, Number, Width, Depth, Words, Session, Interval, Resolution, Watches, Commands, Load, Answers, End}
use Rattle.script_reader.specs.declared.fault.ScriptFault.{ScriptFault}
use Rattle.script_reader.specs.declared.fault.ScriptFault.TheVariants.{Size, Line, Memory}
use Rattle.script_reader.specs.Script.{ScriptValue, parse}
use Rattle.cbh_calc.specs.Elements.{Elements, moves_in}
use Rattle.session.specs.Play.{DueOutcome, due_outcome, illegal_place, round_order}
use Rattle.answers.specs.Text.{outcome_text}
use Rattle.answers.specs.Json.{json_text}
use Rattle.answers.specs.Generator.{generated, summary_text}
use Rattle.rough_main.specs.Elements.{list_text}

-- what is due: the status, and the bytes that are written
pub record DueReply : Type 0 where
  pub status : ℕ
  pub text : List ℕ

-- the word of a reason
abbrev pub reason_text : Reason → List ℕ
reason_text Byte = codes "byte"
reason_text Keyword = codes "keyword"
reason_text Place = codes "place"
reason_text Fields = codes "fields"
reason_text Name = codes "name"
reason_text Time = codes "time"
reason_text Number = codes "number"
reason_text Width = codes "width"
reason_text Depth = codes "depth"
reason_text Words = codes "words"
reason_text Session = codes "session"
reason_text Interval = codes "interval"
reason_text Resolution = codes "resolution"
reason_text Watches = codes "watches"
reason_text Commands = codes "commands"
reason_text Load = codes "load"
reason_text Answers = codes "answers"
reason_text End = codes "end"

-- the fault of a line, whose number counts from 1
abbrev pub line_text : ℕ → Reason → List ℕ
line_text n reason = codes "fault line " ++ decimal n ++ codes " " ++ reason_text reason ++ codes "\n"

-- want of memory has no text
abbrev pub fault_text : ScriptFault → List ℕ
fault_text Size = codes "fault size\n"
fault_text (Line n reason) = line_text n reason
fault_text Memory = []

-- the outcome of a script as text, or as JSON
abbrev pub written : Form → ScriptValue → DueOutcome → List ℕ
written forms.Text script outcome = outcome_text script.extent script.watches outcome
written forms.Json script outcome = json_text script.extent script.watches outcome

-- the answers of a script whose sessions take their steps in this order
abbrev pub answered : Form → ℕ → ScriptValue → List ℕ → DueReply
answered form capacity script order = record { status = 0; text = written form script (due_outcome capacity script order) }

-- the fault of an order, whose places count from 1
abbrev pub place_text : ℕ → List ℕ
place_text place = codes "fault order place " ++ decimal place ++ codes "\n"

-- unless the order is illegal at a place
abbrev pub unless_illegal : Option ℕ → DueReply → DueReply
unless_illegal None reply = reply
unless_illegal (Some place) reply = record { status = 3; text = place_text place }

-- the answers in this order, or the place at which it is illegal
abbrev pub ordered : Form → ℕ → ScriptValue → List ℕ → DueReply
ordered form capacity script order = unless_illegal (illegal_place capacity script order) (answered form capacity script order)

-- why bytes are refused
abbrev pub fault_reply : ScriptFault → DueReply
fault_reply fault = record { status = 3; text = fault_text fault }

-- the answers of an accepted script whose sessions take their steps in this order, or why it is refused
abbrev pub script_reply : Form → ℕ → List ℕ → Result ScriptValue ScriptFault → DueReply
script_reply form capacity order (Ok script) = ordered form capacity script order
script_reply form capacity order (Err fault) = fault_reply fault

-- the logarithm of the product of the exponentials of an accepted list of elements, or why it is refused
abbrev pub elements_reply : Result Elements ScriptFault → DueReply
elements_reply (Ok list) = record { status = 0; text = list_text list }
elements_reply (Err fault) = fault_reply fault

-- the summary of the generated script of n commands, whose sessions take one step each in turn
abbrev pub generated_reply : ℕ → ℕ → DueReply
generated_reply n capacity =
    let script : ScriptValue = generated n in
    record { status = 0; text = summary_text n script.extent (due_outcome capacity script (round_order capacity script)) }

-- the order is legal for a script that is accepted
abbrev pub IsLegalFor : ℕ → List ℕ → Result ScriptValue ScriptFault → Type 0
IsLegalFor capacity order (Ok script) = illegal_place capacity script order ≡ None
IsLegalFor capacity order (Err fault) = Unit {0}

-- ---- wishes
-- the words are refused
abbrev pub words_reply : DueReply
words_reply = record { status = 2; text = codes "fault words\n" }

-- what is due to a wish and the bytes of the source, where threads take their steps in this order
abbrev pub due_reply : Wish → List ℕ → List ℕ → DueReply
due_reply wishes.Refused bytes order = words_reply
due_reply (wishes.Gen n capacity) bytes order = generated_reply n capacity
due_reply wishes.Cbh bytes order = elements_reply (moves_in bytes)
due_reply (wishes.Given given capacity form) bytes order = script_reply form capacity given (parse bytes)
due_reply (wishes.Threads capacity form) bytes order = script_reply form capacity order (parse bytes)

-- the reply to a wish for which nothing is read: the words are refused, or the script is generated
abbrev pub unread_reply : Wish → Option DueReply
unread_reply wishes.Refused = Some words_reply
unread_reply (wishes.Gen n capacity) = Some (generated_reply n capacity)
unread_reply _ = None

-- what is read is a script
abbrev pub reads_script : Wish → Bool
reads_script (wishes.Threads capacity form) = true
reads_script (wishes.Given order capacity form) = true
reads_script _ = false

-- how many nodes the cache keeps at most
abbrev pub capacity_of : Wish → ℕ
capacity_of (wishes.Threads capacity form) = capacity
capacity_of (wishes.Given order capacity form) = capacity
capacity_of (wishes.Gen n capacity) = capacity
capacity_of _ = 4096

-- the sessions run on threads
abbrev pub is_threaded : Wish → Bool
is_threaded (wishes.Threads capacity form) = true
is_threaded _ = false

-- a status and a text are the ones that are due
abbrev pub IsReply : ℕ → List ℕ → DueReply → Type 0
IsReply status text due = (status ≡ due.status) × (text ≡ due.text)

-- the statuses with which a whole reply is written
abbrev pub IsAnswer : ℕ → Type 0
IsAnswer status = (status ≡ 0) ⊎ (status ≡ 2) ⊎ (status ≡ 3)
