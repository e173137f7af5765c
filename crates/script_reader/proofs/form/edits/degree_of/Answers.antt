use Rattle.std.proofs.Common.{◌≡◌, ◌-◌, map, drop, length, Some, true, false, MatchOption, ap, sym, ◌∙◌, ◌<◌, subst, length-drop}
use Rattle.std.proofs.lemmas.List.{length-map}
use Rattle.script_reader.specs.Coordinates.{degree_with, is_count}
use Rattle.script_reader.proofs.Degrees.{degree_at}
use Rattle.script_reader.proofs.form.edits.degree_of.Goals as goal

pub returns : goal.returns
returns c =
    let words = map (λ w. w.now) c.args.words.now in
    let long : length (drop c.args.place words) ≡ length c.args.words.now - c.args.place = length-drop c.args.place words ∙ ap (λ n. n - c.args.place) (length-map c.args.words.now (λ w. w.now)) in
    subst (λ n. MatchOption c.degree_with.result (is_count c.args.shape n ≡ false) (λ q. (is_count c.args.shape n ≡ true) × (degree_with c.args.shape n ≡ Some q) × (c.args.place < length c.args.words.now))) (sym long)
    (degree_at c.args.shape c.args.place (length c.args.words.now) c.saturating_sub.result c.degree_with.result c.saturating_sub.ensures c.degree_with.ensures.value c.degree_with.ensures.some)
