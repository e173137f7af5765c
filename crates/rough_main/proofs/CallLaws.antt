-- How a reply is made, and what a call did once it was written.
use Rattle.std.proofs.Common.{◌≡◌, ◌⊎◌, ◌+◌, ◌<◌, ◌≤◌, ℕ, List, [], length, refl, sym, ap, ◌∙◌, subst, arith, Option, Some, None, true, false, Result, Ok, Err, IfOk, OnOk, IfErr, IsNone, inl, inr}
use Rattle.std.specs.Io.KnownBytes.{Appends}
use Rattle.std.proofs.KnownBytes.{Keeps-refl, Consumes-nil}
use Rattle.std.proofs.lemmas.Bool.{lt-ltb, cases_lt}
use Rattle.rough_io.specs.Counts.{Rose}
use Rattle.rough_io.specs.Transfers.{AddsPrefix, TakesAtMost}
use Rattle.rough_io.specs.declared.source.ReceiveFault.{ReceiveFault}
use Rattle.rough_io.specs.declared.source.ReceiveFault.TheVariants.{Failed, Memory}
use Rattle.command_line.specs.declared.wish.Form.{Form}
use Rattle.command_line.specs.declared.wish.Wish.{Wish}
use Rattle.command_line.specs.declared.wish.Wish.TheVariants as wishes
use Rattle.script_reader.specs.declared.fault.ScriptFault.{ScriptFault}
use Rattle.script_reader.specs.declared.fault.ScriptFault.TheVariants.{Size}
use Rattle.script_reader.specs.Script.{ScriptValue, parse, most_bytes}
use Rattle.cbh_calc.specs.Elements.{Elements, moves_in}
use Rattle.session.specs.Logarithms.{LogarithmsExpand}
use Rattle.session.specs.Versions.{VersionsNeverFall}
use Rattle.session.specs.Play.{illegal_place}
use Rattle.rough_main.specs.declared.reply.Reply.{Reply}
use Rattle.rough_main.specs.Statuses.{code_of}
use Rattle.rough_main.specs.Elements.{ProductExpands}
use Rattle.rough_main.specs.Due.{DueReply, answered, unless_illegal, fault_reply, script_reply, elements_reply, generated_reply, words_reply, due_reply, unread_reply, reads_script, is_threaded, IsReply, IsAnswer}
use Rattle.rough_main.specs.Calls.{Port, IsCall, read_failed, write_failed, no_memory}
use Rattle.rough_main.specs.Made.{Decides, IsReceived, IsLawful, IsMade}

-- ---- statuses

-- the statuses of answers are those below 4
pub answer-is_small : (status : ℕ) → IsAnswer status → status < 4
answer-is_small status (inl zero) = omega arith
answer-is_small status (inr (inl two)) = omega arith
answer-is_small status (inr (inr three)) = omega arith

-- a status of a fault is no answer
pub fault-is_no_answer : (status : ℕ) → 4 ≤ status → IsAnswer status → ⊥
fault-is_no_answer status fault answer = omega (arith, answer-is_small status answer)

-- ---- wishes
-- where sessions run on threads, the source is read
pub threaded-is_read : (wish : Wish) → is_threaded wish ≡ true → unread_reply wish ≡ None
threaded-is_read (wishes.Threads capacity form) threaded = refl
threaded-is_read (wishes.Given order capacity form) threaded = absurd (cc)
threaded-is_read (wishes.Gen n capacity) threaded = absurd (cc)
threaded-is_read wishes.Cbh threaded = absurd (cc)
threaded-is_read wishes.Refused threaded = absurd (cc)

-- a reply for which nothing is read refuses the words, or is a summary
abbrev IsUnread : Wish → ℕ → Type 0
IsUnread wish status = (status ≡ 0) ⊎ ((status ≡ 2) × (wish ≡ wishes.Refused))

unread-status : (wish : Wish) (due : DueReply) → unread_reply wish ≡ Some due → IsUnread wish due.status
unread-status (wishes.Threads capacity form) due unread = absurd (cc)
unread-status (wishes.Given order capacity form) due unread = absurd (cc)
unread-status (wishes.Gen n capacity) due unread = let same : generated_reply n capacity ≡ due = cc in inl (sym (ap (λ (d : DueReply). d.status) same))
unread-status wishes.Cbh due unread = absurd (cc)
unread-status wishes.Refused due unread = let same : due.status ≡ 2 = cc in inr (same, refl)

-- it is the one that is due, whatever the source has
unread-due : (wish : Wish) (order bytes : List ℕ) (due : DueReply) → unread_reply wish ≡ Some due → due ≡ due_reply wish bytes order
unread-due (wishes.Threads capacity form) order bytes due unread = absurd (cc)
unread-due (wishes.Given given capacity form) order bytes due unread = absurd (cc)
unread-due (wishes.Gen n capacity) order bytes due unread = let same : due ≡ generated_reply n capacity = cc in same
unread-due wishes.Cbh order bytes due unread = absurd (cc)
unread-due wishes.Refused order bytes due unread = let same : due ≡ words_reply = cc in same

-- and has no laws
unread-lawful : (wish : Wish) (due : DueReply) → unread_reply wish ≡ Some due → (bytes : List ℕ) → IsLawful wish bytes
unread-lawful (wishes.Threads capacity form) due unread bytes = absurd (cc)
unread-lawful (wishes.Given order capacity form) due unread bytes = absurd (cc)
unread-lawful (wishes.Gen n capacity) due unread bytes = record { logarithms = λ reads. absurd (cc); versions = λ reads. absurd (cc); product = λ same. absurd (cc) }
unread-lawful wishes.Cbh due unread bytes = absurd (cc)
unread-lawful wishes.Refused due unread bytes = record { logarithms = λ reads. absurd (cc); versions = λ reads. absurd (cc); product = λ same. absurd (cc) }

-- ---- what is read
-- more bytes than are allowed spell nothing
parse-long : (bytes : List ℕ) → most_bytes < length bytes → parse bytes ≡ Err Size
parse-long bytes long = let test = lt-ltb most_bytes (length bytes) long in rw test refl

moves-long : (bytes : List ℕ) → most_bytes < length bytes → moves_in bytes ≡ Err Size
moves-long bytes long = let test = lt-ltb most_bytes (length bytes) long in rw test refl

-- the bytes that were received spell what all bytes do
pub decided-parse : (bytes received : List ℕ) → Decides bytes received → parse bytes ≡ parse received
decided-parse bytes received decides =
    elim (cases_lt most_bytes (length received)) [
      | inl long ↦ parse-long bytes (decides.1 long) ∙ sym (parse-long received long)
      | inr short ↦ ap parse (decides.0 short)
    ]

-- what is due to more bytes than are allowed
long-due : (wish : Wish) (order bytes : List ℕ) → unread_reply wish ≡ None → most_bytes < length bytes → due_reply wish bytes order ≡ fault_reply Size
long-due (wishes.Threads capacity form) order bytes read long = ap (script_reply form capacity order) (parse-long bytes long)
long-due (wishes.Given given capacity form) order bytes read long = ap (script_reply form capacity given) (parse-long bytes long)
long-due (wishes.Gen n capacity) order bytes read long = absurd (cc)
long-due wishes.Cbh order bytes read long = ap elements_reply (moves-long bytes long)
long-due wishes.Refused order bytes read long = absurd (cc)

decided-due : (wish : Wish) (order bytes received : List ℕ) → unread_reply wish ≡ None → Decides bytes received → due_reply wish received order ≡ due_reply wish bytes order
decided-due wish order bytes received read decides =
    elim (cases_lt most_bytes (length received)) [
      | inl long ↦ long-due wish order received read long ∙ sym (long-due wish order bytes read (decides.1 long))
      | inr short ↦ ap (λ (xs : List ℕ). due_reply wish xs order) (sym (decides.0 short))
    ]

-- only bytes that are few enough are answered
answered-is_short : (wish : Wish) (order received : List ℕ) → unread_reply wish ≡ None → (due_reply wish received order).status ≡ 0 → length received ≤ most_bytes
answered-is_short wish order received read zero =
    elim (cases_lt most_bytes (length received)) [
      | inl long ↦ let three : (due_reply wish received order).status ≡ 3 = ap (λ (d : DueReply). d.status) (long-due wish order received read long) in absurd (omega arith)
      | inr short ↦ short
    ]

-- no law speaks of more bytes than are allowed
long-lawful : (wish : Wish) (bytes : List ℕ) → most_bytes < length bytes → IsLawful wish bytes
long-lawful wish bytes long = record {
  logarithms = λ reads. subst LogarithmsExpand (sym (parse-long bytes long)) tt;
  versions = λ reads. subst VersionsNeverFall (sym (parse-long bytes long)) tt;
  product = λ same. subst ProductExpands (sym (moves-long bytes long)) tt;
}

decided-lawful : (wish : Wish) (bytes received : List ℕ) → Decides bytes received → IsLawful wish received → IsLawful wish bytes
decided-lawful wish bytes received decides lawful =
    elim (cases_lt most_bytes (length received)) [
      | inl long ↦ long-lawful wish bytes (decides.1 long)
      | inr short ↦ subst (IsLawful wish) (sym (decides.0 short)) lawful
    ]

-- the laws of what is due to a script
pub script-lawful : (wish : Wish) (bytes : List ℕ) → reads_script wish ≡ true → LogarithmsExpand (parse bytes) → VersionsNeverFall (parse bytes) → IsLawful wish bytes
script-lawful wish bytes script logarithms versions = record {
  logarithms = λ reads. logarithms;
  versions = λ reads. versions;
  product = λ same. let clash : false ≡ true = subst (λ (w : Wish). reads_script w ≡ true) same script in absurd (cc);
}

-- and to a list of elements
pub elements-lawful : (wish : Wish) (bytes : List ℕ) → wish ≡ wishes.Cbh → ProductExpands (moves_in bytes) → IsLawful wish bytes
elements-lawful wish bytes is product = record {
  logarithms = λ reads. let clash : false ≡ true = subst (λ (w : Wish). reads_script w ≡ true) is reads in absurd (cc);
  versions = λ reads. let clash : false ≡ true = subst (λ (w : Wish). reads_script w ≡ true) is reads in absurd (cc);
  product = λ same. product;
}

-- an answer, or an order that is illegal
unless_illegal-status : (place : Option ℕ) (reply : DueReply) → reply.status ≡ 0 → ((unless_illegal place reply).status ≡ 0) ⊎ ((unless_illegal place reply).status ≡ 3)
unless_illegal-status None reply zero = inl zero
unless_illegal-status (Some place) reply zero = inr refl

script_reply-status : (form : Form) (capacity : ℕ) (order : List ℕ) (spelled : Result ScriptValue ScriptFault) → let status = (script_reply form capacity order spelled).status in (status ≡ 0) ⊎ (status ≡ 3)
script_reply-status form capacity order (Ok script) = unless_illegal-status (illegal_place capacity script order) (answered form capacity script order) refl
script_reply-status form capacity order (Err fault) = inr refl

elements_reply-status : (spelled : Result Elements ScriptFault) → let status = (elements_reply spelled).status in (status ≡ 0) ⊎ (status ≡ 3)
elements_reply-status (Ok list) = inl refl
elements_reply-status (Err fault) = inr refl

-- what is read is answered or refused
read-status : (wish : Wish) (order received : List ℕ) → unread_reply wish ≡ None → let status = (due_reply wish received order).status in (status ≡ 0) ⊎ (status ≡ 3)
read-status (wishes.Threads capacity form) order received read = script_reply-status form capacity order (parse received)
read-status (wishes.Given given capacity form) order received read = script_reply-status form capacity given (parse received)
read-status (wishes.Gen n capacity) order received read = absurd (cc)
read-status wishes.Cbh order received read = elements_reply-status (moves_in received)
read-status wishes.Refused order received read = absurd (cc)

-- ---- replies

takes-nothing : (most : ℕ) (told : Option (List ℕ)) → TakesAtMost most told told
takes-nothing most told = ([], omega arith, Consumes-nil told)

module _ (wish : Wish) (order : List ℕ) where
  -- memory was wanting before anything was read
  pub made-without_memory : (source : Port) → IsMade wish order (Err Memory) source source
  made-without_memory source = record {
    reply = λ bytes told. tt;
    laws = λ bytes told. tt;
    status = tt;
    refused = tt;
    whole = λ read. tt;
    size = λ bytes told long. tt;
    unread = λ due unread. (λ same. absurd (cc), Keeps-refl source.told, refl, tt);
    takes = takes-nothing (most_bytes + 1) source.told;
    failed = λ same. absurd (cc);
    memory = λ same. refl;
    ok = tt;
  }

  -- a reply for which nothing is read
  pub made-unread : (reply : Reply) (due : DueReply) (source : Port) → unread_reply wish ≡ Some due → IsReply (code_of reply.status) reply.text.items due → IsMade wish order (Ok reply) source source
  made-unread reply due source unread is =
      let status : IsUnread wish (code_of reply.status) = subst (IsUnread wish) (sym is.0) (unread-status wish due unread) in
      record {
        reply = λ bytes told. subst (IsReply (code_of reply.status) reply.text.items) (unread-due wish order bytes due unread) is;
        laws = λ bytes told. unread-lawful wish due unread bytes;
        status = elim status [ inl zero ↦ inl zero | inr refused ↦ inr (inl refused.0) ];
        refused = λ two. elim status [ inl zero ↦ absurd (omega arith) | inr refused ↦ refused.1 ];
        whole = λ read zero. absurd (cc);
        size = λ bytes told long three. absurd (elim status [ inl zero ↦ omega arith | inr refused ↦ omega (arith, refused.0) ]);
        unread = λ other same. (λ failed. absurd (cc), Keeps-refl source.told, refl, subst (IsReply (code_of reply.status) reply.text.items) (let both : due ≡ other = cc in both) is);
        takes = takes-nothing (most_bytes + 1) source.told;
        failed = λ same. absurd (cc);
        memory = λ same. absurd (cc);
        ok = refl;
      }

  -- ---- a wish for which the source is read
  -- without a reply, for want of memory or after a failed read, what is owed of it holds
  pub made-failed : (fault : ReceiveFault) (source taken : Port) → unread_reply wish ≡ None → TakesAtMost (most_bytes + 1) source.told taken.told
      → (fault ≡ Failed → Rose source.faults taken.faults) → (fault ≡ Memory → taken.faults ≡ source.faults) → IsMade wish order (Err fault) source taken
  made-failed fault source taken read takes rose kept = record {
    reply = λ bytes told. tt;
    laws = λ bytes told. tt;
    status = tt;
    refused = tt;
    whole = λ read. tt;
    size = λ bytes told long. tt;
    unread = λ due unread. absurd (cc);
    takes = takes;
    failed = λ same. rose (cc);
    memory = λ same. kept (cc);
    ok = tt;
  }

  -- memory was wanting after bytes were received
  pub made-short : (received : List ℕ) (source taken : Port) → unread_reply wish ≡ None → IsReceived received source taken → IsMade wish order (Err Memory) source taken
  made-short received source taken read receipt = made-failed Memory source taken read receipt.takes (λ same. absurd (cc)) (λ same. receipt.kept)

  -- the reply to the bytes that were received
  pub made-read : (reply : Reply) (received : List ℕ) (source taken : Port) → unread_reply wish ≡ None → IsReceived received source taken
      → IsReply (code_of reply.status) reply.text.items (due_reply wish received order) → IsLawful wish received → IsMade wish order (Ok reply) source taken
  made-read reply received source taken read receipt is lawful =
      let answer = read-status wish order received read in
      let status = is.0 in
      record {
        reply = λ bytes told. subst (IsReply (code_of reply.status) reply.text.items) (decided-due wish order bytes received read (receipt.decided bytes told)) is;
        laws = λ bytes told. decided-lawful wish bytes received (receipt.decided bytes told) lawful;
        status = elim answer [ inl zero ↦ inl (status ∙ zero) | inr three ↦ inr (inr (status ∙ three)) ];
        refused = λ two. absurd (elim answer [ inl zero ↦ omega arith | inr three ↦ omega arith ]);
        whole = λ read zero. receipt.whole (answered-is_short wish order received read (sym status ∙ zero));
        size = λ bytes told long three. receipt.size bytes told long;
        unread = λ due unread. absurd (cc);
        takes = receipt.takes;
        failed = λ same. absurd (cc);
        memory = λ same. absurd (cc);
        ok = receipt.kept;
      }

  -- ---- calls

  -- the call answers a failed read with status 4, and writes nothing
  pub call-read_failed : (source taken sink : Port) → IsMade wish order (Err Failed) source taken → IsCall wish order read_failed source taken sink sink
  call-read_failed source taken sink made = record {
    statuses = inr (inl refl);
    answered = λ answer. absurd (fault-is_no_answer 4 (omega arith) answer);
    logarithms = λ zero reads bytes told. absurd (omega arith);
    versions = λ zero reads bytes told. absurd (omega arith);
    product = λ zero same bytes told. absurd (omega arith);
    faultless = λ answer. absurd (fault-is_no_answer 4 (omega arith) answer);
    complete = λ still kept bytes told. absurd (still (made.failed refl));
    whole = λ zero read. absurd (omega arith);
    size = λ bytes told long three. absurd (omega arith);
    takes = made.takes;
    refused = λ two. absurd (omega arith);
    unread = λ due unread. absurd ((made.unread due unread).0 refl);
    source_failed = λ same. (made.failed refl, Keeps-refl sink.told, refl);
    sink_failed = λ five. absurd (omega arith);
    memory_wanting = λ six. absurd (omega arith);
  }

  -- it answers want of memory with status 6, and writes nothing
  pub call-without_memory : (source taken sink : Port) → IsMade wish order (Err Memory) source taken → IsCall wish order no_memory source taken sink sink
  call-without_memory source taken sink made = record {
    statuses = inr (inr (inr refl));
    answered = λ answer. absurd (fault-is_no_answer 6 (omega arith) answer);
    logarithms = λ zero reads bytes told. absurd (omega arith);
    versions = λ zero reads bytes told. absurd (omega arith);
    product = λ zero same bytes told. absurd (omega arith);
    faultless = λ answer. absurd (fault-is_no_answer 6 (omega arith) answer);
    complete = λ still kept bytes told. inr refl;
    whole = λ zero read. absurd (omega arith);
    size = λ bytes told long three. absurd (omega arith);
    takes = made.takes;
    refused = λ two. absurd (omega arith);
    unread = λ due unread. let made_unread = made.unread due unread in (made_unread.1, made_unread.2, inr (inr refl));
    source_failed = λ four. absurd (omega arith);
    sink_failed = λ five. absurd (omega arith);
    memory_wanting = λ same. (Keeps-refl sink.told, made.memory refl, refl);
  }

  -- once the reply is written, its status is that of the call
  pub call-written : (reply : Reply) (source taken sink given : Port) → IsMade wish order (Ok reply) source taken → Appends sink.told given.told reply.text.items
      → given.faults ≡ sink.faults → IsCall wish order (code_of reply.status) source taken sink given
  call-written reply source taken sink given made appends kept = record {
    statuses = inl made.status;
    answered = λ answer bytes told. let due = made.reply bytes told in (due.0, subst (Appends sink.told given.told) due.1 appends);
    logarithms = λ zero reads bytes told. (made.laws bytes told).logarithms reads;
    versions = λ zero reads bytes told. (made.laws bytes told).versions reads;
    product = λ zero same bytes told. (made.laws bytes told).product same;
    faultless = λ answer. (made.ok, kept);
    complete = λ still quiet bytes told. inl (made.reply bytes told).0;
    whole = λ zero read. made.whole read zero;
    size = λ bytes told long three. made.size bytes told long three;
    takes = made.takes;
    refused = made.refused;
    unread = λ due unread. let made_unread = made.unread due unread in let is = made_unread.3 in (made_unread.1, made_unread.2, inl (is.0, subst (Appends sink.told given.told) is.1 appends));
    source_failed = λ four. absurd (fault-is_no_answer (code_of reply.status) (omega arith) made.status);
    sink_failed = λ five. absurd (fault-is_no_answer (code_of reply.status) (omega arith) made.status);
    memory_wanting = λ six. absurd (fault-is_no_answer (code_of reply.status) (omega arith) made.status);
  }

  -- where writing failed, the call has status 5, and a part of the text from its start was added
  pub call-write_failed : (reply : Reply) (source taken sink given : Port) → IsMade wish order (Ok reply) source taken → AddsPrefix reply.text.items sink.told given.told
      → Rose sink.faults given.faults → IsCall wish order write_failed source taken sink given
  call-write_failed reply source taken sink given made prefix rose = record {
    statuses = inr (inr (inl refl));
    answered = λ answer. absurd (fault-is_no_answer 5 (omega arith) answer);
    logarithms = λ zero reads bytes told. absurd (omega arith);
    versions = λ zero reads bytes told. absurd (omega arith);
    product = λ zero same bytes told. absurd (omega arith);
    faultless = λ answer. absurd (fault-is_no_answer 5 (omega arith) answer);
    complete = λ still quiet bytes told. absurd (quiet rose);
    whole = λ zero read. absurd (omega arith);
    size = λ bytes told long three. absurd (omega arith);
    takes = made.takes;
    refused = λ two. absurd (omega arith);
    unread = λ due unread. let made_unread = made.unread due unread in (made_unread.1, made_unread.2, inr (inl (refl, subst (λ (text : List ℕ). AddsPrefix text sink.told given.told) made_unread.3.1 prefix)));
    source_failed = λ four. absurd (omega arith);
    sink_failed = λ same. (made.ok, rose, λ bytes told. subst (λ (text : List ℕ). AddsPrefix text sink.told given.told) (made.reply bytes told).1 prefix);
    memory_wanting = λ six. absurd (omega arith);
  }

-- ---- threads
-- where a wish is for threads, a plain call has an answer only for want of memory
pub threaded-memory : (status : ℕ) → IsNone (Some status) ⊎ (Some status ≡ Some no_memory) → IsAnswer status ⊎ (status ≡ write_failed) → ⊥
threaded-memory status (inl none) answered = absurd (cc)
threaded-memory status (inr same) answered =
    let six : status ≡ 6 = cc in
    elim answered [ inl answer ↦ fault-is_no_answer status (omega (arith, six)) answer | inr five ↦ absurd (omega (arith, six, five)) ]

-- what holds anyway holds of each success
pub on-success : {T E P : Type 0} (r : Result T E) → P → OnOk r P
on-success (Ok x) holds = holds
on-success (Err e) holds = tt

-- what follows from what each success is holds of it
pub of-each : {T E : Type 0} (r : Result T E) (P : T → Type 0) (Q : Type 0) → ((x : T) → P x → Q) → IfOk r P → OnOk r Q
of-each (Ok x) P Q follows is = follows x is
of-each (Err e) P Q follows is = tt

-- what holds of each success holds of the one that was
pub of-made : {T E : Type 0} (Q : Type 0) (r result : Result T E) (x : T) → r ≡ result → r ≡ Ok x → OnOk result Q → Q
of-made Q r result x same is holds = subst (λ (m : _). OnOk m Q) (sym same ∙ is) holds

-- what holds of each success holds where there is no failure
pub of-success : {T E P : Type 0} (r : Result T E) → OnOk r P → IfErr r (λ _. ⊥) → P
of-success (Ok x) holds none = holds
of-success (Err e) holds none = absurd none
