use Rattle.std.proofs.Common.{◌≡◌, ◌≢◌, ◌∙◌, List, [], ◌∷◌, length, refl, sym, ap, ap₂, arith}
use Rattle.std.specs.Prelude.{map, codes}
use Rattle.std.proofs.lemmas.Bool.Decides.{nat_tests}
use Rattle.serde_json.specs.Data.{Data, object, Members, no_members, member, put}
use Rattle.serde_json.specs.View.{view}
use Rattle.serde_json.specs.declared.value.Value.{Value}
use Rattle.serde_json.proofs.Views.{view-Array, view-Object}
use Rattle.answers.specs.Json.{list, parts_json, watches_member}
use Rattle.answers.proofs.json_text.parts_value.Goals as goal

-- some watches are a member
some-watches : (watches : List Value) → length watches ≢ 0 → watches_member (map view watches) ≡ member (codes "watches") (list (map view watches)) no_members
some-watches [] some = absurd (some refl)
some-watches (watch ∷ watches) some = refl

pub returns : goal.returns
returns c =
    let some : length c.args.watches.items ≢ 0 = grind (arith, nat_tests) in
    view-Object c.put.new.map
    ∙ ap (λ (ms : Members). object ms)
    (c.in_ok-put.ensures.ok
    ∙ ap₂ (λ (d : Data) (ms : Members). put (codes "watches") d ms) (view-Array c.args.watches) c.in_ok-parts.ensures
    ∙ ap (parts_json (map view c.args.order.items) (map view c.args.sessions.items) c.args.shape c.args.versions) (sym (some-watches c.args.watches.items some)))
