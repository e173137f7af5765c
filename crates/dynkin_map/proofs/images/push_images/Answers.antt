use Rattle.std.proofs.Common.{◌≡◌, ◌≤◌, ◌<◌, ◌+◌, ◌^◌, ◌++◌, ◌∷◌, [], ◌∙◌, ℕ, List, ap, sym, subst, arith, length, get_or, take, map}
use Rattle.std.specs.Prelude.{All}
use Rattle.std.proofs.lemmas.List.{get_or_append_left, take_all}
use Rattle.definitions.specs.Words.{Extent, words_of}
use Rattle.definitions.proofs.WordLists.{IsNumbered, word-numbered, length-words_of}
use Rattle.definitions.specs.Hall.{InHall}
use Rattle.lie_bracket.specs.declared.term.Term.{Term}
use Rattle.lie_bracket.specs.Entries.{sizes}
use Rattle.dynkin_map.specs.Table.{row_of}
use Rattle.dynkin_map.proofs.CoordinateSteps.{members_of, word_at, row-Numbers}
use Rattle.dynkin_map.proofs.LongerWords.{numbers-inside, row-sizes}
use Rattle.dynkin_map.proofs.WordRows.{row-pushed}
use Rattle.dynkin_map.proofs.images.push_images.Goals as goal

-- a row that stands among the old ones
old-row : (extent : Extent) (k from i : ℕ) (old more rows : List (List Term)) (row : List Term) → from + extent.width ^ k ≤ length old
    → ((j : ℕ) → j < extent.width ^ k → get_or old (from + j) [] ≡ row_of extent (get_or (words_of extent.width k) j [])) → rows ≡ old ++ more → row ≡ get_or rows (from + i) [] → i < extent.width ^ k → row ≡ row_of extent (word_at extent k i)
old-row extent k from i old more rows row inside each er e lt = e ∙ ap (λ (rs : List (List Term)). get_or rs (from + i) []) er ∙ get_or_append_left old more [] (from + i) (omega arith) ∙ each i lt

pub image_with-requires-clause-members : goal.image_with-requires-clause-members
image_with-requires-clause-members c =
    let extent : Extent = c.args.table.now in
    let lt : c.loop-i.i < extent.width ^ c.args.k = omega (arith, c.loop-i-test.true, c.count-i-end.ensures, ap (λ (e : Extent). e.width ^ c.args.k) c.shape.ensures.value) in
    let row : c.row.result.now ≡ row_of extent (word_at extent c.args.k c.loop-i.i) = old-row extent c.args.k c.args.from c.loop-i.i c.args.rows.now _ c.loop-i.rows c.row.result.now c.requires.inside c.requires.rows c.loop-i.invariant c.row.ensures lt in
    subst (λ (ts : List Term). All (λ t. InHall (members_of extent) t.number) ts) (sym row) (numbers-inside (members_of extent) _ (row-Numbers extent (word_at extent c.args.k c.loop-i.i)))

pub image_with-requires-clause-sizes : goal.image_with-requires-clause-sizes
image_with-requires-clause-sizes c =
    let extent : Extent = c.args.table.now in
    let lt : c.loop-i.i < extent.width ^ c.args.k = omega (arith, c.loop-i-test.true, c.count-i-end.ensures, ap (λ (e : Extent). e.width ^ c.args.k) c.shape.ensures.value) in
    let row : c.row.result.now ≡ row_of extent (word_at extent c.args.k c.loop-i.i) = old-row extent c.args.k c.args.from c.loop-i.i c.args.rows.now _ c.loop-i.rows c.row.result.now c.requires.inside c.requires.rows c.loop-i.invariant c.row.ensures lt in
    let its : IsNumbered extent.width c.args.k c.loop-i.i (word_at extent c.args.k c.loop-i.i) = word-numbered extent.width c.args.k c.loop-i.i lt in
    subst (λ (ts : List Term). sizes ts ≤ 2 ^ 50) (sym row) (row-sizes extent c.args.k (word_at extent c.args.k c.loop-i.i) c.requires.shape its.letters its.len c.requires.small)

pub loop-i-preserved : goal.loop-i-preserved
loop-i-preserved c =
    let extent : Extent = c.args.table.now in
    let lt : c.loop-i.i < extent.width ^ c.args.k = omega (arith, c.loop-i-test.true, c.count-i-end.ensures, ap (λ (e : Extent). e.width ^ c.args.k) c.shape.ensures.value) in
    let row : c.row.result.now ≡ row_of extent (word_at extent c.args.k c.loop-i.i) = old-row extent c.args.k c.args.from c.loop-i.i c.args.rows.now _ c.loop-i.rows c.row.result.now c.requires.inside c.requires.rows c.loop-i.invariant c.row.ensures lt in
    let its : IsNumbered extent.width c.args.k c.loop-i.i (word_at extent c.args.k c.loop-i.i) = word-numbered extent.width c.args.k c.loop-i.i lt in
    row-pushed (row_of extent) (λ word. c.args.a ∷ word) (words_of extent.width c.args.k) c.loop-i.i c.args.rows.now c.loop-i.rows c.push.new.self c.terms.result.now (omega (arith, length-words_of extent.width c.args.k)) c.loop-i.invariant
    c.in_ok-push.ensures.pushed (c.terms.ensures.value ∙ c.in_ok-image.ensures (word_at extent c.args.k c.loop-i.i) its.letters its.len row)

pub returns : goal.returns
returns c =
    let extent : Extent = c.args.table.now in
    let all : take c.loop-i.i (words_of extent.width c.args.k) ≡ words_of extent.width c.args.k =
    take_all c.loop-i.i (words_of extent.width c.args.k) (omega (arith, length-words_of extent.width c.args.k, c.loop-i-test.false, c.count-i-end.ensures, ap (λ (e : Extent). e.width ^ c.args.k) c.shape.ensures.value)) in
    c.loop-i.invariant ∙ ap (λ (ws : List (List ℕ)). c.args.rows.now ++ map (row_of extent) (map (λ word. c.args.a ∷ word) ws)) all
