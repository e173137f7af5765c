-- The order of the steps can be read back from the text and from the JSON.
use Rattle.std.proofs.Common.{◌≡◌, ◌≢◌, ℕ, suc, ◌^◌, ◌<◌, true, false, refl, sym, ap, subst, ◌∙◌, arith, List, [], ◌∷◌, ◌++◌, length, drop, append_assoc}
use Rattle.std.specs.Prelude.{All, map, codes}
use Rattle.std.specs.Fmt.{decimal}
use Rattle.std.specs.List.{join_with_byte}
use Rattle.std.proofs.lemmas.List.{append_cancel_left, append_cancel_right}
use Rattle.std.proofs.lemmas.List.Elements.{All-from_recursion}
use Rattle.serde_json.specs.Data.{Data, string, object, Members, no_members, member}
use Rattle.serde_json.specs.View.{items_of}
use Rattle.serde_json.specs.Written.{compact_text, items_text, members_text}
use Rattle.versions.specs.declared.log.Accepted.{Accepted}
use Rattle.watches.specs.declared.interval.Interval.{Interval}
use Rattle.watches.specs.Watches.{touching}
use Rattle.session.specs.Play.{DueOutcome}
use Rattle.answers.specs.Watched.{numbers_text, watch_text, watches_text}
use Rattle.answers.specs.Text.{sessions_text, outcome_text}
use Rattle.answers.specs.Json.{natural, list, outcome_json, json_text}
use Rattle.answers.specs.Told.{TellsOrder}
use Rattle.answers.proofs.Cuts.{is_mark, Lacks, first-cut, last-cut}
use Rattle.answers.proofs.JoinedNumbers.{decimal-lacks, joined-lacks, joined-tells}

-- ---- the text
numbers-lack : (numbers : List ℕ) → Lacks 32 (numbers_text numbers)
numbers-lack [] = All-from_recursion (λ byte. is_mark 32 byte ≡ false) (codes "none") (refl, (refl, (refl, (refl, tt))))
numbers-lack (n ∷ numbers) = joined-lacks 32 (λ d h e. omega arith) refl (n ∷ numbers)

digits-lack : (n : ℕ) → Lacks 32 (decimal n)
digits-lack = decimal-lacks 32 (λ d h e. omega arith)

none-joined : (order : List ℕ) → codes "none" ≢ join_with_byte 44 (map decimal order)
none-joined order e =
    let lacks : Lacks 110 (codes "none") = subst (Lacks 110) (sym e) (joined-lacks 110 (λ d h e. omega arith) refl order) in
    let head : true ≡ false = lacks 0 0 (omega arith) in
    cc

order-tells : (first second : List ℕ) → All (λ session. session < 2 ^ 64) first → All (λ session. session < 2 ^ 64) second → numbers_text first ≡ numbers_text second → first ≡ second
order-tells [] [] h h' e = refl
order-tells [] (session ∷ second) h h' e = absurd (none-joined (session ∷ second) e)
order-tells (session ∷ first) [] h h' e = absurd (none-joined (session ∷ first) (sym e))
order-tells (session ∷ first) (session' ∷ second) h h' e = joined-tells (session ∷ first) (session' ∷ second) h h' e

-- the text, cut at its last two spaces
text-cut : (front order versions : List ℕ) → front ++ codes "order " ++ order ++ codes "\n" ++ codes "versions " ++ versions ++ codes "\n"
    ≡ ((front ++ codes "order") ++ 32 ∷ order ++ codes "\nversions") ++ 32 ∷ versions ++ codes "\n"
text-cut front order versions = simp append_assoc

text-order : (front front' order order' : List ℕ) (versions versions' : ℕ) → Lacks 32 order → Lacks 32 order'
    → front ++ codes "order " ++ order ++ codes "\n" ++ codes "versions " ++ decimal versions ++ codes "\n"
    ≡ front' ++ codes "order " ++ order' ++ codes "\n" ++ codes "versions " ++ decimal versions' ++ codes "\n"
    → order ≡ order'
text-order front front' order order' versions versions' h h' e =
    let line = append_cancel_right _ _ (codes "\n") (sym (text-cut front order (decimal versions)) ∙ e ∙ text-cut front' order' (decimal versions')) in
    let before = last-cut 32 _ _ (decimal versions) (decimal versions') (digits-lack versions) (digits-lack versions') line in
    (last-cut 32 (front ++ codes "order") (front' ++ codes "order") order order' h h' (append_cancel_right _ _ (codes "\nversions") before.0)).1

-- the line of a watch, cut at its last space
line-cut : (front number numbers : List ℕ) → front ++ (codes "watch " ++ number ++ codes " versions " ++ numbers ++ codes "\n")
    ≡ (front ++ (codes "watch " ++ number ++ codes " versions")) ++ 32 ∷ numbers ++ codes "\n"
line-cut front number numbers = simp append_assoc

before-line : (edits edits' : List Accepted) (i : ℕ) (watch : Interval) (front front' : List ℕ) → front ++ watch_text edits i watch ≡ front' ++ watch_text edits' i watch → front ≡ front'
before-line edits edits' i watch front front' e =
    let numbers : List ℕ = touching watch.from watch.to edits in
    let numbers' : List ℕ = touching watch.from watch.to edits' in
    let line = append_cancel_right _ _ (codes "\n") (sym (line-cut front (decimal i) (numbers_text numbers)) ∙ e ∙ line-cut front' (decimal i) (numbers_text numbers')) in
    let head : List ℕ = codes "watch " ++ decimal i ++ codes " versions" in
    append_cancel_right front front' head (last-cut 32 (front ++ head) (front' ++ head) (numbers_text numbers) (numbers_text numbers') (numbers-lack numbers) (numbers-lack numbers') line).0

-- what stands before the lines of some watches
before-watches : (edits edits' : List Accepted) (i : ℕ) (watches : List Interval) (front front' : List ℕ)
    → front ++ watches_text edits i watches ≡ front' ++ watches_text edits' i watches → front ≡ front'
before-watches edits edits' i [] front front' e = append_cancel_right front front' [] e
before-watches edits edits' i (watch ∷ watches) front front' e =
    before-line edits edits' i watch front front'
    (before-watches edits edits' (suc i) watches (front ++ watch_text edits i watch) (front' ++ watch_text edits' i watch)
    (append_assoc front (watch_text edits i watch) (watches_text edits (suc i) watches) ∙ e ∙ sym (append_assoc front' (watch_text edits' i watch) (watches_text edits' (suc i) watches))))

-- the text tells the order of the steps
pub text-tells : TellsOrder outcome_text
text-tells extent watches first second h h' e =
    let front : DueOutcome → List ℕ = λ outcome. codes "shape " ++ decimal extent.width ++ codes " " ++ decimal extent.depth ++ codes "\n"
    ++ sessions_text extent 1 outcome.transcripts in
    order-tells first.order second.order h h'
    (text-order (front first) (front second) (numbers_text first.order) (numbers_text second.order) (length first.edits) (length second.edits) (numbers-lack first.order) (numbers-lack second.order)
    (before-watches first.edits second.edits 1 watches _ _ e))

-- ---- the JSON
-- numbers in an array after the first, with its end
later-numbers : (n : ℕ) (numbers : List ℕ) → items_text true (items_of (map natural (n ∷ numbers))) ≡ 44 ∷ (join_with_byte 44 (map decimal (n ∷ numbers)) ++ 93 ∷ [])
later-numbers n [] = refl
later-numbers n (m ∷ numbers) =
    ap (λ rest. 44 ∷ (decimal n ++ rest)) (later-numbers m numbers)
    ∙ ap (λ bytes. 44 ∷ bytes) (sym (append_assoc (decimal n) (44 ∷ join_with_byte 44 (map decimal (m ∷ numbers))) (93 ∷ [])))

numbers-text : (numbers : List ℕ) → items_text false (items_of (map natural numbers)) ≡ join_with_byte 44 (map decimal numbers) ++ 93 ∷ []
numbers-text [] = refl
numbers-text (n ∷ numbers) = ap (drop 1) (later-numbers n numbers)

-- the members after the first
abbrev others_of : Data → Members
others_of (object (member key first others)) = others
others_of _ = no_members

-- the JSON, cut at its first closing bracket
json-cut : (key order : List ℕ) (others : Members) → compact_text (object (member key (list (map natural order)) others)) ++ codes "\n"
    ≡ codes "{" ++ compact_text (string key) ++ codes ":[" ++ (join_with_byte 44 (map decimal order) ++ 93 ∷ (members_text true others ++ codes "\n"))
json-cut key order others =
    ap (λ items. codes "{" ++ (compact_text (string key) ++ 58 ∷ (91 ∷ items ++ members_text true others)) ++ codes "\n") (numbers-text order)
    ∙ simp append_assoc

json-order : (key order order' : List ℕ) (others others' : Members)
    → compact_text (object (member key (list (map natural order)) others)) ++ codes "\n" ≡ compact_text (object (member key (list (map natural order')) others')) ++ codes "\n"
    → join_with_byte 44 (map decimal order) ≡ join_with_byte 44 (map decimal order')
json-order key order order' others others' e =
    first-cut 93 _ _ _ _ (joined-lacks 93 (λ d h e. omega arith) refl order) (joined-lacks 93 (λ d h e. omega arith) refl order')
    (append_cancel_left (codes "{" ++ compact_text (string key) ++ codes ":[") _ _ (sym (json-cut key order others) ∙ e ∙ json-cut key order' others'))

-- so does the JSON
pub json-tells : TellsOrder json_text
json-tells extent watches first second h h' e =
    joined-tells first.order second.order h h'
    (json-order (codes "order") first.order second.order (others_of (outcome_json extent watches first)) (others_of (outcome_json extent watches second)) e)
