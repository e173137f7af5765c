-- Texts of words and levels.
use Rattle.std.proofs.Common.{add-one, ◌≡◌, ◌≢◌, ℕ, zero, suc, ◌+◌, ◌<◌, ◌≤◌, ◌^◌, refl, sym, ap, ap₂, ◌∙◌, arith, ℤ, pos, negsuc, List, [], ◌∷◌, ◌++◌, length, take, get_or}
use Rattle.std.specs.Prelude.{flat_map, codes, All}
use Rattle.std.specs.Fmt.{decimal, signed_decimal}
use Rattle.std.proofs.lemmas.List.{take_more, flat_map_more}
use Rattle.std.proofs.lemmas.List.Concat.{flat_map-append}
use Rattle.std.proofs.lemmas.List.Elements.{All-head, All-tail, All-from_get_or}
use Rattle.definitions.specs.Words.{Extent, IsWord, number, up_to, words_of, factorial}
use Rattle.definitions.proofs.WordLists.{IsNumbered, length-words_of, word-numbered}
use Rattle.scaled_tensor.specs.Tensors.{TensorValue, coefficient}
use Rattle.lie_bracket.specs.declared.term.Term.{Term}
use Rattle.book.specs.declared.step.LookReply.{LookReply}
use Rattle.session.specs.declared.answer.Answer.TheVariants.{Sig, Log}
use Rattle.session.specs.Play.{Due, Edited, Valued, Logged, Refused}
use Rattle.session.specs.Answers.{HasSeries, Shows}
use Rattle.answers.specs.Text.{word_text, term_text, level_text, levels_text, log_levels_text, look_text, answer_text}

-- a coefficient that isn't 0 is printed
pub term-shown : (name : List ℕ) (value : ℤ) → value ≢ pos 0 → term_text name value ≡ codes " " ++ name ++ codes "=" ++ signed_decimal value
term-shown name (pos zero) h = absurd (h refl)
term-shown name (pos (suc n)) h = refl
term-shown name (negsuc n) h = refl

-- what there is for some words and their coefficients
abbrev pub for_words : {A : Type 0} → (List ℕ → ℤ → List A) → (List ℕ → ℤ) → List (List ℕ) → List A
for_words term series words = flat_map (λ word. term word (series word)) words

-- one word more
pub words-more : {A : Type 0} (term : List ℕ → ℤ → List A) (width k i : ℕ) (values : ℕ → ℤ) (start text next : List A) → i < width ^ k
    → text ≡ start ++ for_words term (λ word. values (number width word)) (take i (words_of width k))
    → next ≡ text ++ term (get_or (words_of width k) i []) (values i)
    → next ≡ start ++ for_words term (λ word. values (number width word)) (take (i + 1) (words_of width k))
words-more term width k i values start text next h before step =
    let word : List ℕ = get_or (words_of width k) i [] in
    let its : IsNumbered width k i (get_or (words_of width k) i []) = word-numbered width k i h in
    step
    ∙ ap₂ (λ t (n : ℕ). t ++ term word (values n)) before (sym its.number_is)
    ∙ flat_map_more (λ w. term w (values (number width w))) start (take i (words_of width k)) word
    ∙ ap (λ ws. start ++ for_words term (λ w. values (number width w)) ws) (sym (take_more (words_of width k) i [] (omega (arith, length-words_of width k))))

words-same-each : {A : Type 0} (term : List ℕ → ℤ → List A) (f g : List ℕ → ℤ) (words : List (List ℕ)) → All (λ word. f word ≡ g word) words → for_words term f words ≡ for_words term g words
words-same-each term f g [] h = refl
words-same-each term f g (word ∷ words) h =
    ap₂ (λ (z : ℤ) rest. term word z ++ rest) (All-head (λ w. f w ≡ g w) word words h) (words-same-each term f g words (All-tail (λ w. f w ≡ g w) word words h))

-- only the words of the extent count
pub words-same : {A : Type 0} (term : List ℕ → ℤ → List A) (extent : Extent) (f g : List ℕ → ℤ) (k : ℕ) → k ≤ extent.depth
    → ((word : List ℕ) → IsWord extent word → length word ≡ k → f word ≡ g word)
    → for_words term f (words_of extent.width k) ≡ for_words term g (words_of extent.width k)
words-same term extent f g k h same =
    words-same-each term f g (words_of extent.width k) (All-from_get_or (λ word. f word ≡ g word) (words_of extent.width k) []
    (λ i lt.
    let its : IsNumbered extent.width k i (get_or (words_of extent.width k) i []) = word-numbered extent.width k i (omega (arith, length-words_of extent.width k)) in
    same (get_or (words_of extent.width k) i []) (record { short = omega (arith, its.len); letters = its.letters }) its.len))

-- the text of a word's coefficient
abbrev pub numerator_text : List ℕ → ℤ → List ℕ
numerator_text word value = term_text (word_text word) value

levels-same-up-to : (extent : Extent) (f g : List ℕ → ℤ) (k : ℕ) → k ≤ extent.depth → ((word : List ℕ) → IsWord extent word → f word ≡ g word)
    → flat_map (level_text extent f) (up_to k) ≡ flat_map (level_text extent g) (up_to k)
levels-same-up-to extent f g zero h same = refl
levels-same-up-to extent f g (suc k) h same =
    let terms : for_words numerator_text f (words_of extent.width (suc k)) ≡ for_words numerator_text g (words_of extent.width (suc k)) = words-same numerator_text extent f g (suc k) h (λ word is _. same word is) in
    flat_map-append (level_text extent f) (up_to k) (suc k ∷ [])
    ∙ ap₂ (λ (front : List ℕ) (terms : List ℕ). front ++ (codes "level " ++ decimal (suc k) ++ codes " over " ++ decimal (factorial (suc k)) ++ terms ++ codes "\n" ++ [])) (levels-same-up-to extent f g k (omega arith) same) terms
    ∙ sym (flat_map-append (level_text extent g) (up_to k) (suc k ∷ []))

-- a tensor has the levels of its series
levels-same : (extent : Extent) (tensor : TensorValue) (series : List ℕ → ℤ) → HasSeries extent tensor series
    → levels_text tensor.extent (coefficient tensor) ≡ levels_text extent series
levels-same extent tensor series has =
    ap (λ (e : Extent). levels_text e (coefficient tensor)) has.extent_is
    ∙ levels-same-up-to extent (coefficient tensor) series extent.depth (omega arith) has.coefficients

-- the text of a signature is the one that is due
pub signature-shown : (extent : Extent) (c : ℕ) (reply : LookReply) (tensor : TensorValue) (due : Due) → Shows extent (Sig reply tensor) due
    → decimal c ++ look_text (codes "sig") reply ++ levels_text tensor.extent (coefficient tensor) ≡ answer_text extent c due
signature-shown extent c reply tensor (Edited r) h = absurd h
signature-shown extent c reply tensor (Valued r series) h = ap₂ (λ (r : LookReply) (levels : List ℕ). decimal c ++ look_text (codes "sig") r ++ levels) h.0 (levels-same extent tensor series h.1)
signature-shown extent c reply tensor (Logged r terms) h = absurd h
signature-shown extent c reply tensor (Refused r) h = absurd h

-- the text of a logarithm is the one that is due
pub logarithm-shown : (extent : Extent) (c : ℕ) (reply : LookReply) (lie : List Term) (due : Due) → Shows extent (Log reply lie) due
    → decimal c ++ look_text (codes "log") reply ++ log_levels_text extent lie ≡ answer_text extent c due
logarithm-shown extent c reply lie (Edited r) h = absurd h
logarithm-shown extent c reply lie (Valued r series) h = absurd h
logarithm-shown extent c reply lie (Logged r terms) h = ap₂ (λ (r : LookReply) (ts : List Term). decimal c ++ look_text (codes "log") r ++ log_levels_text extent ts) h.0 h.1
logarithm-shown extent c reply lie (Refused r) h = absurd h

-- one level more
pub levels-more : (f : ℕ → List ℕ) (start text next : List ℕ) (k : ℕ) → text ≡ start ++ flat_map f (up_to k) → next ≡ text ++ f (k + 1) → next ≡ start ++ flat_map f (up_to (k + 1))
levels-more f start text next k before step =
    step ∙ ap₂ (λ (t : List ℕ) (n : ℕ). t ++ f n) before (add-one k)
    ∙ flat_map_more f start (up_to k) (suc k)
    ∙ ap (λ (n : ℕ). start ++ flat_map f (up_to n)) (sym (add-one k))
