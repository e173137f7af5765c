-- The lines of the watches: which versions touched each interval.
use Rattle.std.specs.Prelude.{ℕ, suc, List, [], ◌∷◌, ◌++◌, map, codes}
use Rattle.std.specs.List.{join_with_byte}
use Rattle.std.specs.Fmt.{decimal}
use Rattle.versions.specs.declared.log.Accepted.{Accepted}
use Rattle.watches.specs.declared.interval.Interval.{Interval}
use Rattle.watches.specs.Watches.{touching}

-- texts with commas between; `none` where there are none
abbrev pub listed : List (List ℕ) → List ℕ
listed [] = codes "none"
listed (text ∷ texts) = join_with_byte 44 (text ∷ texts)

-- numbers with commas between; `none` where there are none
abbrev pub numbers_text : List ℕ → List ℕ
numbers_text numbers = listed (map decimal numbers)

-- the versions that touched the interval of watch i, where these edits were accepted
abbrev pub watch_text : List Accepted → ℕ → Interval → List ℕ
watch_text edits i watch = codes "watch " ++ decimal i ++ codes " versions " ++ numbers_text (touching watch.from watch.to edits) ++ codes "\n"

-- watches that are numbered from i
abbrev pub watches_text : List Accepted → ℕ → List Interval → List ℕ
watches_text edits i [] = []
watches_text edits i (watch ∷ watches) = watch_text edits i watch ++ watches_text edits (suc i) watches
