-- An outcome in JSON has no floats.
use Rattle.std.proofs.Common.{◌≡◌, ℕ, zero, suc, ◌*◌, refl, ℤ, pos, negsuc, List, [], ◌∷◌, ◌++◌, Bool, true, false, ◌||◌, ◌==◌, if◌then◌else◌}
use Rattle.std.specs.Prelude.{map, flat_map, codes}
use Rattle.std.specs.Fmt.{signed_decimal}
use Rattle.std.proofs.lemmas.Bool.{or_parts}
use Rattle.definitions.specs.Words.{Extent, up_to, words_of, factorial}
use Rattle.definitions.specs.Logarithm.{lcm_to}
use Rattle.definitions.specs.Hall.{hall_list, degree, text_of}
use Rattle.definitions.specs.declared.member.Member.{Member}
use Rattle.lie_bracket.specs.declared.term.Term.{Term}
use Rattle.serde_json.specs.Data.{Data, string}
use Rattle.serde_json.specs.View.{items_of}
use Rattle.serde_json.specs.Written.{has_float, items_have_float, members_have_float}
use Rattle.versions.specs.declared.edit.EditReply.TheVariants.{Done, NameTaken, NoRow}
use Rattle.book.specs.declared.step.LookReply.{LookReply}
use Rattle.book.specs.declared.step.LookReply.TheVariants.{Found, NoVersion, Pair, Level, Overflow}
use Rattle.watches.specs.declared.interval.Interval.{Interval}
use Rattle.watches.specs.Watches.{touching}
use Rattle.session.specs.Play.{Due, Edited, Valued, Logged, Refused, DueOutcome}
use Rattle.answers.specs.Text.{word_text}
use Rattle.answers.specs.Json.{natural, list, term_json, level_json, signature_level, signature_levels, coordinate_json, logarithm_level, logarithm_levels, look_json, answer_json, answers_json, watch_json, watches_member, outcome_json}

abbrev NoFloats : List Data → Type 0
NoFloats ds = items_have_float (items_of ds) ≡ false

-- ---- lists
neither : (a b : Bool) → a ≡ false → b ≡ false → (a || b) ≡ false
neither a b ha hb = rw (ha, hb)

none-joined : (ds es : List Data) → NoFloats ds → NoFloats es → NoFloats (ds ++ es)
none-joined [] es hd he = he
none-joined (d ∷ ds) es hd he = let h = or_parts (has_float d) (items_have_float (items_of ds)) hd in neither (has_float d) _ h.0 (none-joined ds es h.1 he)

none-mapped : {A : Type 0} (f : A → Data) (xs : List A) → ((x : A) → has_float (f x) ≡ false) → NoFloats (map f xs)
none-mapped f [] none = refl
none-mapped f (x ∷ xs) none = neither (has_float (f x)) _ (none x) (none-mapped f xs none)

none-gathered : {A : Type 0} (f : A → List Data) (xs : List A) → ((x : A) → NoFloats (f x)) → NoFloats (flat_map f xs)
none-gathered f [] none = refl
none-gathered f (x ∷ xs) none = none-joined (f x) (flat_map f xs) (none x) (none-gathered f xs none)

-- ---- levels
level-none : (denominator : ℕ) (terms : List Data) → NoFloats terms → has_float (level_json denominator terms) ≡ false
level-none denominator terms none = neither (items_have_float (items_of terms)) false none refl

term-none : (name : List ℕ) (value : ℤ) → NoFloats (term_json name value)
term-none name (pos zero) = refl
term-none name (pos (suc n)) = refl
term-none name (negsuc n) = refl

signature-none : (extent : Extent) (series : List ℕ → ℤ) → NoFloats (signature_levels extent series)
signature-none extent series =
    let term : List ℕ → List Data = λ word. term_json (word_text word) (series word) in
    none-mapped (signature_level extent series) (up_to extent.depth)
    (λ k. level-none (factorial k) (flat_map term (words_of extent.width k)) (none-gathered term (words_of extent.width k) (λ word. term-none (word_text word) (series word))))

none-where : (b : Bool) (ds : List Data) → NoFloats ds → NoFloats (if b then ds else [])
none-where true ds none = none
none-where false ds none = refl

coordinate-none : (hall : List Member) (k : ℕ) (t : Term) → NoFloats (coordinate_json hall k t)
coordinate-none hall k t = none-where (degree hall t.number == k) (list (string (text_of hall t.number) ∷ string (signed_decimal t.factor) ∷ []) ∷ []) refl

logarithm-none : (extent : Extent) (terms : List Term) → NoFloats (logarithm_levels extent terms)
logarithm-none extent terms =
    let hall : List Member = hall_list extent.width extent.depth in
    none-mapped (logarithm_level extent terms) (up_to extent.depth)
    (λ k. level-none (k * (factorial k * lcm_to k)) (flat_map (coordinate_json hall k) terms) (none-gathered (coordinate_json hall k) terms (coordinate-none hall k)))

-- ---- answers
look-none : (c : ℕ) (kind : List ℕ) (reply : LookReply) (levels : List Data) → NoFloats levels → has_float (look_json c kind reply levels) ≡ false
look-none c kind (Found version hits misses exps) levels none = neither (items_have_float (items_of levels)) false none refl
look-none c kind (NoVersion version) levels none = refl
look-none c kind (Pair a b) levels none = refl
look-none c kind (Level k) levels none = refl
look-none c kind (Overflow weight) levels none = refl

answer-none : (extent : Extent) (c : ℕ) (due : Due) → has_float (answer_json extent c due) ≡ false
answer-none extent c (Edited (Done version)) = refl
answer-none extent c (Edited (NameTaken version)) = refl
answer-none extent c (Edited (NoRow version)) = refl
answer-none extent c (Valued reply series) = look-none c (codes "sig") reply (signature_levels extent series) (signature-none extent series)
answer-none extent c (Logged reply terms) = look-none c (codes "log") reply (logarithm_levels extent terms) (logarithm-none extent terms)
answer-none extent c (Refused reply) = look-none c [] reply [] refl

answers-none : (extent : Extent) (c : ℕ) (dues : List Due) → NoFloats (answers_json extent c dues)
answers-none extent c [] = refl
answers-none extent c (due ∷ dues) = neither (has_float (answer_json extent c due)) _ (answer-none extent c due) (answers-none extent (suc c) dues)

watches-none : (values : List Data) → NoFloats values → members_have_float (watches_member values) ≡ false
watches-none [] none = refl
watches-none (value ∷ values) none = neither (items_have_float (items_of (value ∷ values))) false none refl

-- the object of an outcome has no floating-point numbers, whose text the JSON crate says nothing of
pub outcome-none : (extent : Extent) (watches : List Interval) (outcome : DueOutcome) → has_float (outcome_json extent watches outcome) ≡ false
outcome-none extent watches outcome =
    neither (items_have_float (items_of (map natural outcome.order))) _ (none-mapped natural outcome.order (λ n. refl))
    (neither (items_have_float (items_of (map (λ dues. list (answers_json extent 1 dues)) outcome.transcripts))) _
    (none-mapped (λ dues. list (answers_json extent 1 dues)) outcome.transcripts (λ dues. answers-none extent 1 dues))
    (watches-none (map (watch_json outcome.edits) watches)
    (none-mapped (watch_json outcome.edits) watches (λ watch. none-mapped natural (touching watch.from watch.to outcome.edits) (λ n. refl)))))
