use Rattle.std.proofs.Common.{◌≡◌, ◌∙◌, ◌+◌, ◌*◌, ◌%◌, ℕ, suc, add-one, List, [], sym, ap, ap₂, subst, arith, rules}
use Rattle.definitions.specs.Words.{Extent}
use Rattle.script_reader.specs.declared.command.Command.{Command}
use Rattle.script_reader.specs.Script.{ScriptValue, IsScript}
use Rattle.watches.specs.declared.interval.Interval.{Interval}
use Rattle.answers.specs.Generator.{draw, command_from, command_at, generated}
use Rattle.answers.proofs.Generated.{draw-small, command-taken, command-passed, sessions-whole, generated-within, generated_extent}
use Rattle.answers.proofs.generator.gen_script.Goals as goal
use Rattle.answers.proofs.generator.gen_script.Goals.{in-0+in_ok-push-in-0, in-1+in_ok-push-in-1, in-2+in_ok-push-in-2, in_default-2+in_ok-push-in_default-2}

pub drawn_after-z-requires : goal.drawn_after-z-requires
drawn_after-z-requires c = omega (arith, draw-small c.args.n c.loop-i.i (omega arith))

pub loop-i-preserved : goal.loop-i-preserved
loop-i-preserved c =
    let n : ℕ = c.args.n in
    let i : ℕ = c.loop-i.i in
    let next : c.drawn_after-z.result ≡ draw n (suc i) = c.drawn_after-z.ensures.value ∙ ap (λ z. (75 * z + 74) % 65537) c.loop-i.invariant.drawn in
    let drawn : c.drawn_after-z.result ≡ draw n (i + 1) = next ∙ ap (draw n) (sym (add-one i)) in
    let its : c.in_ok-command.command ≡ command_at n i = c.in_ok-command.ensures ∙ ap (λ z. command_from z i) next in
    elim c.match-i-rem4.branch [
      | in-0+in_ok-push-in-0 w ↦ record {
        drawn = drawn;
        first = command-taken n i 0 c.loop-i.first.items c.match-i-rem4.first.items c.in_ok-command.command (omega arith) c.loop-i.invariant.first its (search rules);
        second = command-passed n i 1 c.loop-i.second.items c.match-i-rem4.second.items (omega arith) c.loop-i.invariant.second (search rules);
        third = command-passed n i 2 c.loop-i.third.items c.match-i-rem4.third.items (omega arith) c.loop-i.invariant.third (search rules);
        fourth = command-passed n i 3 c.loop-i.fourth.items c.match-i-rem4.fourth.items (omega arith) c.loop-i.invariant.fourth (search rules);
      }
      | in-1+in_ok-push-in-1 w ↦ record {
        drawn = drawn;
        first = command-passed n i 0 c.loop-i.first.items c.match-i-rem4.first.items (omega arith) c.loop-i.invariant.first (search rules);
        second = command-taken n i 1 c.loop-i.second.items c.match-i-rem4.second.items c.in_ok-command.command (omega arith) c.loop-i.invariant.second its (search rules);
        third = command-passed n i 2 c.loop-i.third.items c.match-i-rem4.third.items (omega arith) c.loop-i.invariant.third (search rules);
        fourth = command-passed n i 3 c.loop-i.fourth.items c.match-i-rem4.fourth.items (omega arith) c.loop-i.invariant.fourth (search rules);
      }
      | in-2+in_ok-push-in-2 w ↦ record {
        drawn = drawn;
        first = command-passed n i 0 c.loop-i.first.items c.match-i-rem4.first.items (omega arith) c.loop-i.invariant.first (search rules);
        second = command-passed n i 1 c.loop-i.second.items c.match-i-rem4.second.items (omega arith) c.loop-i.invariant.second (search rules);
        third = command-taken n i 2 c.loop-i.third.items c.match-i-rem4.third.items c.in_ok-command.command (omega arith) c.loop-i.invariant.third its (search rules);
        fourth = command-passed n i 3 c.loop-i.fourth.items c.match-i-rem4.fourth.items (omega arith) c.loop-i.invariant.fourth (search rules);
      }
      | in_default-2+in_ok-push-in_default-2 w ↦ record {
        drawn = drawn;
        first = command-passed n i 0 c.loop-i.first.items c.match-i-rem4.first.items (omega arith) c.loop-i.invariant.first (search rules);
        second = command-passed n i 1 c.loop-i.second.items c.match-i-rem4.second.items (omega arith) c.loop-i.invariant.second (search rules);
        third = command-passed n i 2 c.loop-i.third.items c.match-i-rem4.third.items (omega arith) c.loop-i.invariant.third (search rules);
        fourth = command-taken n i 3 c.loop-i.fourth.items c.match-i-rem4.fourth.items c.in_ok-command.command (omega arith) c.loop-i.invariant.fourth its (search rules);
      }
    ]

pub of-requires-5 : goal.of-requires-5
of-requires-5 c =
    let last : c.loop-i.i ≡ c.args.n = omega arith in
    let sessions : c.in_ok-sessions.sessions.items ≡ (generated c.args.n).sessions =
    (let items = c.in_ok-sessions.ensures.items in
    let whole = sessions-whole c.args.n c.loop-i.i c.loop-i.first.items c.loop-i.second.items c.loop-i.third.items c.loop-i.fourth.items last c.loop-i.invariant.first c.loop-i.invariant.second c.loop-i.invariant.third c.loop-i.invariant.fourth in
    cc) in
    let shape : c.in-Ok.shape ≡ generated_extent = search rules in
    let none : c.new-2.result.items ≡ [] = search rules in
    let script : Extent → List (List Command) → List Interval → ScriptValue = λ extent sessions watches. record { extent = extent; sessions = sessions; watches = watches } in
    subst IsScript (sym (ap₂ (λ e s. script e s c.new-2.result.items) shape sessions ∙ ap (script generated_extent (generated c.args.n).sessions) none)) (generated-within c.args.n c.requires.within)
