use Rattle.std.proofs.Common.{◌≡◌, ◌∙◌, ◌++◌, ◌∷◌, [], List, sym, ap, subst, true, false}
use Rattle.std.specs.Prelude.{All, filter, not}
use Rattle.std.proofs.lemmas.List.{same_from_push}
use Rattle.node_cache.specs.Entries.{CacheValue, Entry}
use Rattle.versions.specs.declared.log.Accepted.{Accepted}
use Rattle.versions.specs.Versions.{LogValue, accepts, current_rows, after_edit}
use Rattle.book.specs.Play.{pairs_after_edit, is_past}
use Rattle.book.specs.Books.{AreKept, Keeps, held}
use Rattle.book.proofs.EditLaws.{taken, done-accepted, undone-refused, after-accepted, after-refused, pairs-accepted, pairs-refused, kept-after}
use Rattle.book.proofs.edit_step.edit.Goals.{in-Done, in_default}
use Rattle.book.proofs.edit_step.edit.Goals as goal

pub drop_past-requires : goal.drop_past-requires
drop_past-requires c before last is =
    let stream = c.args.stream.now in let e = c.args.e.now in
    let accepted : accepts (current_rows stream.edits) e ≡ true = done-accepted stream.edits e c.in-Done.field-0 (sym c.in_ok-reply.ensures.reply ∙ c.in-Done.is) in
    let log : c.log.result.now ≡ record { extent = stream.extent; edits = after_edit stream.edits e } = c.log.ensures ∙ c.in_ok-reply.ensures.after in
    let pushed : before ++ last ∷ [] ≡ stream.edits ++ taken stream.edits e ∷ [] = sym is ∙ ap (λ (l : LogValue). l.edits) log ∙ after-accepted stream.edits e accepted in
    let same : before ≡ stream.edits = (same_from_push before stream.edits last (taken stream.edits e) pushed).0 in
    subst (λ (l : LogValue). All (Keeps l.extent before) c.args.cache.now.entries) (sym log)
    (subst (λ (edits : List Accepted). All (Keeps stream.extent edits) c.args.cache.now.entries) (sym same) c.requires.kept)

pub returns-clause-pairs : goal.returns-clause-pairs
returns-clause-pairs c =
    let stream = c.args.stream.now in let e = c.args.e.now in let entries = c.args.cache.now.entries in
    elim c.match-reply.branch [
      | in-Done w ↦ (
          let accepted : accepts (current_rows stream.edits) e ≡ true = done-accepted stream.edits e w.in-Done.field-0 (sym c.in_ok-reply.ensures.reply ∙ w.in-Done.is) in
          let edits : w.log.result.now.edits ≡ stream.edits ++ taken stream.edits e ∷ [] = ap (λ (l : LogValue). l.edits) (w.log.ensures ∙ c.in_ok-reply.ensures.after) ∙ after-accepted stream.edits e accepted in
          ap (λ (cache : CacheValue). held cache.entries) (w.cache-is ∙ w.drop_past.ensures)
          ∙ ap (λ (es : List Accepted). held (filter (λ (x : Entry). not (is_past es x.node x.since)) entries)) edits
          ∙ pairs-accepted stream.edits (taken stream.edits e) entries
          ∙ ap (λ (es : List Accepted). pairs_after_edit stream.edits es (held entries)) (sym (after-accepted stream.edits e accepted)))
      | in_default w ↦ (
          let refused : accepts (current_rows stream.edits) e ≡ false = undone-refused stream.edits e (λ v is. w.in_default.not-Done v (c.in_ok-reply.ensures.reply ∙ is)) in
          ap (λ (cache : CacheValue). held cache.entries) w.cache-is ∙ sym (pairs-refused stream.edits (held entries))
          ∙ ap (λ (es : List Accepted). pairs_after_edit stream.edits es (held entries)) (sym (after-refused stream.edits e refused)))
    ]

pub returns-clause-kept : goal.returns-clause-kept
returns-clause-kept c =
    let stream = c.args.stream.now in let e = c.args.e.now in let entries = c.args.cache.now.entries in
    let with_edits : List Accepted → LogValue = λ edits. record { extent = stream.extent; edits = edits } in
    elim c.match-reply.branch [
      | in-Done w ↦ (
          let accepted : accepts (current_rows stream.edits) e ≡ true = done-accepted stream.edits e w.in-Done.field-0 (sym c.in_ok-reply.ensures.reply ∙ w.in-Done.is) in
          let edits : w.log.result.now.edits ≡ stream.edits ++ taken stream.edits e ∷ [] = ap (λ (l : LogValue). l.edits) (w.log.ensures ∙ c.in_ok-reply.ensures.after) ∙ after-accepted stream.edits e accepted in
          let new : c.edit.new.self ≡ record { extent = stream.extent; edits = stream.edits ++ taken stream.edits e ∷ [] } =
          c.in_ok-reply.ensures.after ∙ ap with_edits (after-accepted stream.edits e accepted) in
          let left : c.match-reply.cache.entries ≡ filter (λ (x : Entry). not (is_past (stream.edits ++ taken stream.edits e ∷ []) x.node x.since)) entries = ap (λ (cache : CacheValue). cache.entries) (w.cache-is ∙ w.drop_past.ensures)
          ∙ ap (λ (es : List Accepted). filter (λ (x : Entry). not (is_past es x.node x.since)) entries) edits in
          subst (λ (l : LogValue). AreKept l c.match-reply.cache.entries) (sym new)
          (subst (λ (es : List Entry). All (Keeps stream.extent (stream.edits ++ taken stream.edits e ∷ [])) es) (sym left) (kept-after stream.extent stream.edits (taken stream.edits e) entries c.requires.kept)))
      | in_default w ↦ (
          let refused : accepts (current_rows stream.edits) e ≡ false = undone-refused stream.edits e (λ v is. w.in_default.not-Done v (c.in_ok-reply.ensures.reply ∙ is)) in
          let new : c.edit.new.self ≡ stream = c.in_ok-reply.ensures.after ∙ ap with_edits (after-refused stream.edits e refused) in
          subst (λ (l : LogValue). AreKept l c.match-reply.cache.entries) (sym new)
          (subst (λ (cache : CacheValue). AreKept stream cache.entries) (sym w.cache-is) c.requires.kept))
    ]
