use Rattle.std.proofs.Common.{◌≡◌, ◌∙◌, ℕ, sym, ap, arith, List, length, vec_len}
use Rattle.rough_main.specs.Calls.{Port}
use Rattle.rough_main.proofs.Received.{is-received}
use Rattle.rough_main.proofs.top.read_source.Goals as goal

pub returns-clause-received : goal.returns-clause-received
returns-clause-received g c =
    let received : List ℕ = c.in_ok-bytes.bytes.items in
    let source : Port = record { told = g.S.Source.left c.args.source.now; faults = g.S.Source.faults c.args.source.now } in
    let taken : Port = record { told = g.S.Source.left c.receive.new.source; faults = g.S.Source.faults c.receive.new.source } in
    let count : length received ≡ vec_len c.in_ok-bytes.bytes = sym (ap length c.as_slice-slice.ensures.value) ∙ c.as_slice-slice.ensures.len in
    is-received received source taken c.in_ok-bytes.ensures.bytes (omega (arith, count, c.in_ok-bytes.ensures.bound)) (λ short. c.in_ok-bytes.ensures.end (omega (arith, count, short))) c.in_ok-bytes.ensures.ok
