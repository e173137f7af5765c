-- How many members the Hall lists of all shapes have at most, by computing them.
use Rattle.std.proofs.Common.{◌≡◌, ℕ, suc, ◌≤◌, refl, sym, ap, ap₂, ◌∙◌, arith, length}
use Rattle.std.specs.Prelude.{Bool, true, false, ◌&&◌, leb}
use Rattle.std.proofs.lemmas.Bool.{leb-true, le-leb, agree_below, agree_below_at}
use Rattle.definitions.specs.Words.{Extent, IsShape, shorter}
use Rattle.definitions.specs.Hall.{hall_list}

-- the depth and the count of words are those of a shape
abbrev is_served : ℕ → ℕ → Bool
is_served width depth = leb 1 depth && leb (shorter width (suc depth)) 2000

-- the test is made only where it is wanted
abbrev where_served : Bool → (ℕ → Bool) → Bool
where_served false test = true
where_served true test = test 0

-- the list of such a shape has at most 1024 members
abbrev is_short : ℕ → ℕ → Bool
is_short width depth = where_served (is_served width depth) (λ x. leb (length (hall_list width depth)) 1024)

-- so do those of all depths of a width
abbrev are_short : ℕ → Bool
are_short width = agree_below (is_short width) (λ depth. true) 9

-- computed for all widths and depths
all-short : agree_below are_short (λ width. true) 13 ≡ true
all-short = refl

-- no Hall list of a shape has more than 1024 members
pub hall_list-short : (extent : Extent) → IsShape extent → length (hall_list extent.width extent.depth) ≤ 1024
hall_list-short extent shape =
    let served : is_served extent.width extent.depth ≡ true = ap₂ ◌&&◌ (le-leb 1 extent.depth shape.some_depth) (le-leb (shorter extent.width (suc extent.depth)) 2000 shape.within_words) in
    let row : are_short extent.width ≡ true = agree_below_at are_short (λ width. true) 13 extent.width all-short (omega (arith, shape.within_width)) in
    let entry : is_short extent.width extent.depth ≡ true = agree_below_at (is_short extent.width) (λ depth. true) 9 extent.depth row (omega (arith, shape.within_depth)) in
    leb-true (length (hall_list extent.width extent.depth)) 1024
    (sym (ap (λ (b : Bool). where_served b (λ x. leb (length (hall_list extent.width extent.depth)) 1024)) served) ∙ entry)
