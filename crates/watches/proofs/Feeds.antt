-- The lists of the watches, with one edit more.
use Rattle.std.specs.declared.alloc.Global.{Global}
use Rattle.std.proofs.Common.{◌≡◌, ◌≢◌, ◌∙◌, ℕ, ◌+◌, ◌<◌, ◌≤◌, sym, ap, subst, arith, Bool, true, false, cond, List, [], ◌∷◌, ◌++◌, length, get_or, inl, inr, append-nil, Option, unwrap_or, Vec}
use Rattle.std.proofs.lemmas.Bool.{cases_lt, cases_Bool, false≢true}
use Rattle.std.proofs.lemmas.List.{get_or_append_left, get_or_push, length_push}
use Rattle.std.specs.List.{range_with_len, filter}
use Rattle.versions.specs.declared.edit.Edit.{Edit}
use Rattle.versions.specs.declared.log.Accepted.{Accepted}
use Rattle.versions.specs.declared.edit.EditReply.TheVariants.{Done}
use Rattle.versions.specs.Versions.{LogValue, IsAccepted, accepts, edit_reply, refusal, after_edit, edited_tick, current_rows, touched}
use Rattle.watches.specs.declared.interval.Interval.{Interval}
use Rattle.watches.specs.Lists.{AreSame, AreTold}
use Rattle.watches.specs.Spans.{interval_at, holds_at, AreHolders}
use Rattle.watches.specs.Watches.{touching, WatchesValue, IsInterval, AreWatches}
use Rattle.watches.proofs.Touching.{touching-pushed}

-- the log after an edit that the rows accept
pub after-accepted : (edits : List Accepted) (e : Edit) (tick : ℕ) → IsAccepted (current_rows edits) (record { edit = e; tick = tick })
    → after_edit edits e ≡ edits ++ (record { edit = e; tick = tick }) ∷ []
after-accepted edits e tick is =
    let at : Option ℕ → Accepted = λ o. record { edit = e; tick = unwrap_or o 0 } in
    ap (λ t. cond t (edits ++ at (edited_tick (current_rows edits) e) ∷ []) edits) is.accepted ∙ ap (λ o. edits ++ at o ∷ []) is.tick_is

-- the version of the reply to an edit that the rows accept
pub version-accepted : (edits : List Accepted) (e : Edit) (v : ℕ) → accepts (current_rows edits) e ≡ true → Done v ≡ edit_reply edits e → v ≡ length edits + 1
version-accepted edits e v accepted is =
    let reply : edit_reply edits e ≡ Done (length edits + 1) = ap (λ t. cond t (Done (length edits + 1)) (refusal e (length edits))) accepted in
    cc

-- lists with the same numbers
pub still-watches : (watches : WatchesValue) (lists after : List (Vec ℕ Global)) → AreWatches watches lists → AreSame lists after → AreWatches watches after
still-watches watches lists after are same = record {
  few = are.few;
  count = same.count ∙ are.count;
  intervals = are.intervals;
  listed = λ i d under. same.each i d ∙ are.listed i d under;
}

-- no version touches an interval where no edit was accepted
none-touch : (a b : ℕ) (edits : List Accepted) → length edits ≡ 0 → touching a b edits ≡ []
none-touch a b edits none = ap (λ n. filter (touched a b edits) (range_with_len 1 n)) none

module _ (log : LogValue) (intervals : List Interval) (lists : List (Vec ℕ Global)) (one : Interval) (list : Vec ℕ Global) where
  -- one watch more, before any edit
  pub added-watches : length log.edits ≡ 0 → length intervals < 64 → IsInterval one → list.items ≡ [] → AreWatches (record { log = log; intervals = intervals }) lists
      → AreWatches (record { log = log; intervals = intervals ++ one ∷ [] }) (lists ++ list ∷ [])
  added-watches unfed few is none are =
      let nothing : Interval = record { from = 0; to = 0 } in
      let all : List Interval = intervals ++ one ∷ [] in
      let more : length all ≡ length intervals + 1 = length_push intervals one in
      let front = λ (i : ℕ) (below : i < length intervals). get_or_append_left intervals (one ∷ []) nothing i below in
      let back = λ (i : ℕ) (last : length intervals ≡ i). get_or_push intervals one nothing i last in
      let Lists : Interval → Vec ℕ Global → Type 0 = λ x v. v.items ≡ touching x.from x.to log.edits in
      let as_many : length lists ≡ length intervals = are.count in
      record {
        few = omega arith;
        count = length_push lists list ∙ ap (λ n. n + 1) as_many ∙ sym more;
        intervals = λ i under. elim (cases_lt i (length intervals)) [
          | inl below ↦ subst IsInterval (sym (front i below)) (are.intervals i below)
          | inr above ↦ subst IsInterval (sym (back i (omega arith))) is
        ];
        listed = λ i d under. elim (cases_lt i (length intervals)) [
          | inl below ↦ (
              subst (λ x. Lists x (get_or (lists ++ list ∷ []) i d)) (sym (front i below))
              (subst (Lists (interval_at intervals i)) (sym (get_or_append_left lists (list ∷ []) d i (omega arith))) (are.listed i d below)))
          | inr above ↦ (
              subst (λ x. Lists x (get_or (lists ++ list ∷ []) i d)) (sym (back i (omega arith)))
              (subst (Lists one) (sym (get_or_push lists list d i (omega arith))) (none ∙ sym (none-touch one.from one.to log.edits unfed))))
        ];
      }

module _ (log : LogValue) (intervals : List Interval) (lists after : List (Vec ℕ Global)) (e : Accepted) (holders : List ℕ) where
  -- the version of one edit more stands in the lists of the intervals that hold its tick
  pub fed-watches : AreHolders intervals e.tick holders → AreTold lists after holders (length log.edits + 1) → AreWatches (record { log = log; intervals = intervals }) lists
      → AreWatches (record { log = record { extent = log.extent; edits = log.edits ++ e ∷ [] }; intervals = intervals }) after
  fed-watches hold told are = record {
    few = are.few;
    count = told.count ∙ are.count;
    intervals = are.intervals;
    listed = λ i d under.
        let x : Interval = interval_at intervals i in
        let more : touching x.from x.to (log.edits ++ e ∷ []) ≡ touching x.from x.to log.edits ++ cond (holds_at intervals i e.tick) ((length log.edits + 1) ∷ []) [] =
        touching-pushed x.from x.to log.edits e in
        let before : (get_or lists i d).items ≡ touching x.from x.to log.edits = are.listed i d under in
        elim (cases_Bool (holds_at intervals i e.tick)) [
          | inl holds ↦ (
              let at = hold.each i under holds in
              ap (λ j. (get_or after j d).items) (sym at.2) ∙ told.told at.0 d at.1
              ∙ ap (λ j. (get_or lists j d).items ++ (length log.edits + 1) ∷ []) at.2 ∙ ap (λ l. l ++ (length log.edits + 1) ∷ []) before
              ∙ ap (λ t. touching x.from x.to log.edits ++ cond t ((length log.edits + 1) ∷ []) []) (sym holds) ∙ sym more)
          | inr passes ↦ (
              told.others i d (λ p within same. false≢true (sym passes ∙ ap (λ j. holds_at intervals j e.tick) (sym same) ∙ hold.hold p within))
              ∙ before ∙ sym (append-nil (touching x.from x.to log.edits))
              ∙ ap (λ t. touching x.from x.to log.edits ++ cond t ((length log.edits + 1) ∷ []) []) (sym passes) ∙ sym more)
        ];
  }
