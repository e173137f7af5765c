-- Rows by their ticks, and by their keys.
use Rattle.std.proofs.Common.{◌≡◌, ◌∙◌, ℕ, suc, ◌+◌, ◌-◌, ◌*◌, ◌<◌, ◌≤◌, ◌^◌, List, [], ◌∷◌, length, get_or, refl, sym, ap, arith, cond}
use Rattle.std.specs.Prelude.{map}
use Rattle.std.specs.List.{All}
use Rattle.std.proofs.lemmas.List.{length-map}
use Rattle.std.proofs.lemmas.List.Elements.{All-head, All-tail}
use Rattle.std.proofs.lemmas.Bool.Decides.{nat_tests}
use Rattle.definitions.specs.Rows.{RowValue, lies_in, rows_in}
use Rattle.timeline.specs.Keys.{key_at, tick_of, keyed_in}
use Rattle.timeline.specs.Moments.{since}
use Rattle.timeline.specs.Pasts.{rows_at}
use Rattle.timeline.specs.Tries.{last_in}
use Rattle.timeline.specs.Stores.{Store, trie}
use Rattle.timeline.specs.Puts.{IsFit}
use Rattle.timeline.specs.Timelines.{IsRoot, IsTimeline, past_in, rows_below}
use Rattle.timeline.proofs.Touches.{since-ticks, since-none}
use Rattle.timeline.proofs.Joins.{all-fit}
use Rattle.timeline.proofs.Timelines.{version-rows}

row-in : (a b tick birth : ℕ) → birth < 2 ^ 31 → lies_in (a * 2 ^ 31 + 0) (b * 2 ^ 31 + 0) (tick * 2 ^ 31 + birth) ≡ lies_in a b tick
row-in a b tick birth h = grind (arith, nat_tests)

-- the rows with keys from those of tick a on and below those of tick b are those with ticks in [a, b)
pub keyed-ticks : (a b : ℕ) (rows : List RowValue) → All IsFit rows → keyed_in (key_at a 0) (key_at b 0) rows ≡ rows_in a b rows
keyed-ticks a b [] fit = refl
keyed-ticks a b (r ∷ rows) fit =
    let here : IsFit r = All-head IsFit r rows fit in
    ap (λ t. cond t (r ∷ keyed_in (key_at a 0) (key_at b 0) rows) (keyed_in (key_at a 0) (key_at b 0) rows)) (row-in a b r.tick r.birth here.young)
    ∙ ap (λ (rs : List RowValue). cond (lies_in a b r.tick) (r ∷ rs) rs) (keyed-ticks a b rows (All-tail IsFit r rows fit))

module _ (store : Store) (roots : List ℕ) (is : IsTimeline store roots) (a b v : ℕ) where
  -- version 0
  pub none-at : v ≡ 0 → rows_at (past_in store roots) v ≡ []
  none-at e = ap (rows_at (past_in store roots)) e

  -- no version has touched [a, b) by then
  pub none-since : v ≡ 0 → 0 ≡ since a b (past_in store roots).ticks v
  none-since e = sym (ap (since a b (past_in store roots).ticks) e ∙ since-none a b (past_in store roots).ticks)

  -- a later version
  module _ (some : v ≡ 0 → ⊥) (within : v ≤ length (past_in store roots).ticks) where
    abbrev edit : ℕ
    edit = v - 1

    version-is : v ≡ suc edit
    version-is = omega (arith, some)

    made : v ≤ length store.keys
    made = omega (arith, within, length-map store.keys tick_of)

    -- the version has a root
    pub root-there : edit < length roots
    root-there = omega (arith, made, version-is, is.versions)

    -- this is the root of the version
    pub root-is : IsRoot store edit (get_or roots edit 0)
    root-is = is.each edit root-there

    -- the version has the rows of its root
    pub rows-here : rows_at (past_in store roots) v ≡ rows_below store (get_or roots edit 0)
    rows-here = ap (rows_at (past_in store roots)) version-is ∙ version-rows store roots edit root-there

    -- it has fewer than 2 ^ 32 rows
    pub root-few : length (rows_below store (get_or roots edit 0)) < 2 ^ 32
    root-few = omega (arith, root-is.few, version-is, made, is.bound)

    -- its rows with keys from those of tick a on and below those of tick b are the version's with ticks in [a, b)
    pub keyed-here : keyed_in (key_at a 0) (key_at b 0) (rows_below store (get_or roots edit 0)) ≡ rows_in a b (rows_at (past_in store roots) v)
    keyed-here = keyed-ticks a b (rows_below store (get_or roots edit 0)) (all-fit store (get_or roots edit 0) is.fit root-is.stands) ∙ ap (rows_in a b) (sym rows-here)

    -- the last version in its tree that touched one of these keys is the last one up to v that touches [a, b)
    pub since-here : last_in (key_at a 0) (key_at b 0) (trie store (get_or roots edit 0)) ≡ since a b (past_in store roots).ticks v
    since-here = root-is.touched (key_at a 0) (key_at b 0) ∙ since-ticks a b store.keys (suc edit) (omega (arith, version-is, made)) ∙ ap (since a b (map tick_of store.keys)) (sym version-is)
