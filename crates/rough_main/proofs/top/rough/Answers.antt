use Rattle.std.proofs.Common.{◌≡◌, ◌∙◌, ℕ, List, [], Some, map, string_bytes, Global, inl, inr, arith, refl, sym, ap, subst}
use Rattle.command_line.specs.declared.wish.Wish.{Wish}
use Rattle.command_line.specs.Wishes.{wish_of}
use Rattle.script_reader.specs.Script.{parse}
use Rattle.rough_main.specs.Due.{IsLegalFor, capacity_of}
use Rattle.rough_main.specs.Calls.{IsCall, no_memory}
use Rattle.rough_main.proofs.CallLaws.{made-without_memory, call-without_memory, threaded-memory, fault-is_no_answer, of-success}
use Rattle.rough_main.proofs.top.rough.Goals as goal

pub returns-in-Some : goal.returns-in-Some
returns-in-Some g c = record {
  call = (
    [],
    (λ threaded answered bytes told. absurd (threaded-memory c.in-Some.status (c.in-Some.ensures.threads threaded) answered)),
    c.in-Some.ensures.call [],
  );
}

pub returns-in_default-read_words : goal.returns-in_default-read_words
returns-in_default-read_words g c =
    let wish : Wish = wish_of (map (string_bytes {Z = Global}) c.args.words.now) in
    let plain = c.in_default.ensures.none refl in
    record {
      call = (
        [],
        (λ threaded answered bytes told. absurd (elim answered [ inl answer ↦ fault-is_no_answer c.code.result (omega (arith, c.code.ensures)) answer | inr five ↦ omega (arith, c.code.ensures) ])),
        subst
            (λ (status : ℕ). IsCall wish [] status (record { told = g.S.Source.left c.args.source.now; faults = g.S.Source.faults c.args.source.now })
            (record { told = g.S.Source.left c.rough_plain.new.source; faults = g.S.Source.faults c.rough_plain.new.source })
            (record { told = g.O.Sink.written c.args.sink.now; faults = g.O.Sink.faults c.args.sink.now })
            (record { told = g.O.Sink.written c.rough_plain.new.sink; faults = g.O.Sink.faults c.rough_plain.new.sink })) (sym c.code.ensures)
            (subst
            (λ (s : _). IsCall wish [] no_memory (record { told = g.S.Source.left c.args.source.now; faults = g.S.Source.faults c.args.source.now })
            (record { told = g.S.Source.left s; faults = g.S.Source.faults s })
            (record { told = g.O.Sink.written c.args.sink.now; faults = g.O.Sink.faults c.args.sink.now })
            (record { told = g.O.Sink.written c.rough_plain.new.sink; faults = g.O.Sink.faults c.rough_plain.new.sink })) (sym plain.1)
            (subst
            (λ (k : _). IsCall wish [] no_memory (record { told = g.S.Source.left c.args.source.now; faults = g.S.Source.faults c.args.source.now })
            (record { told = g.S.Source.left c.args.source.now; faults = g.S.Source.faults c.args.source.now })
            (record { told = g.O.Sink.written c.args.sink.now; faults = g.O.Sink.faults c.args.sink.now })
            (record { told = g.O.Sink.written k; faults = g.O.Sink.faults k })) (sym plain.2)
            (call-without_memory wish [] (record { told = g.S.Source.left c.args.source.now; faults = g.S.Source.faults c.args.source.now })
            (record { told = g.S.Source.left c.args.source.now; faults = g.S.Source.faults c.args.source.now })
            (record { told = g.O.Sink.written c.args.sink.now; faults = g.O.Sink.faults c.args.sink.now })
            (made-without_memory wish [] (record { told = g.S.Source.left c.args.source.now; faults = g.S.Source.faults c.args.source.now }))))),
      );
    }

pub returns : goal.returns
returns g c =
    let plain = c.in_default.ensures.none refl in
    let made = c.reply_threaded.ensures in
    let order : List ℕ = made.0 in
    let wish_is = c.in-Ok.ensures.wish in
    record {
      call = (
        order,
        (λ threaded answered bytes told.
            subst (λ (w : Wish). IsLegalFor (capacity_of w) order (parse bytes)) wish_is
            (of-success c.reply_threaded.result (made.1 bytes (ap (λ (s : _). g.S.Source.left s) plain.1 ∙ told)) (c.write_reply.ensures.replied answered))),
        subst
            (λ (w : Wish). IsCall w order c.write_reply.result (record { told = g.S.Source.left c.args.source.now; faults = g.S.Source.faults c.args.source.now })
            (record { told = g.S.Source.left c.reply_threaded.new.source; faults = g.S.Source.faults c.reply_threaded.new.source })
            (record { told = g.O.Sink.written c.args.sink.now; faults = g.O.Sink.faults c.args.sink.now })
            (record { told = g.O.Sink.written c.write_reply.new.sink; faults = g.O.Sink.faults c.write_reply.new.sink })) wish_is
            (subst
            (λ (s : _). IsCall c.in-Ok.wish order c.write_reply.result (record { told = g.S.Source.left s; faults = g.S.Source.faults s })
            (record { told = g.S.Source.left c.reply_threaded.new.source; faults = g.S.Source.faults c.reply_threaded.new.source })
            (record { told = g.O.Sink.written c.args.sink.now; faults = g.O.Sink.faults c.args.sink.now })
            (record { told = g.O.Sink.written c.write_reply.new.sink; faults = g.O.Sink.faults c.write_reply.new.sink })) plain.1
            (subst
            (λ (k : _). IsCall c.in-Ok.wish order c.write_reply.result
            (record { told = g.S.Source.left c.rough_plain.new.source; faults = g.S.Source.faults c.rough_plain.new.source })
            (record { told = g.S.Source.left c.reply_threaded.new.source; faults = g.S.Source.faults c.reply_threaded.new.source })
            (record { told = g.O.Sink.written k; faults = g.O.Sink.faults k })
            (record { told = g.O.Sink.written c.write_reply.new.sink; faults = g.O.Sink.faults c.write_reply.new.sink })) plain.2
            (c.write_reply.ensures.call c.in-Ok.wish order _ _ made.2))),
      );
    }
