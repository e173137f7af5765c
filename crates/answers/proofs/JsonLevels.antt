-- Terms, levels and answers in JSON.
use Rattle.std.proofs.Common.{◌≡◌, ◌≢◌, ℕ, zero, suc, ◌≤◌, refl, sym, ap, ap₂, ◌∙◌, arith, ℤ, pos, negsuc, List, [], ◌∷◌, ◌++◌}
use Rattle.std.specs.Prelude.{map, codes}
use Rattle.std.specs.Fmt.{signed_decimal}
use Rattle.std.proofs.lemmas.List.{map-append}
use Rattle.definitions.specs.Words.{Extent, IsWord, up_to, factorial}
use Rattle.scaled_tensor.specs.Tensors.{TensorValue, coefficient}
use Rattle.serde_json.specs.Data.{Data, string}
use Rattle.serde_json.specs.View.{view}
use Rattle.serde_json.specs.declared.value.Value.{Value}
use Rattle.book.specs.declared.step.LookReply.{LookReply}
use Rattle.session.specs.declared.answer.Answer.TheVariants.{Sig}
use Rattle.session.specs.Play.{Due, Edited, Valued, Logged, Refused}
use Rattle.session.specs.Answers.{HasSeries, Shows}
use Rattle.answers.specs.Text.{word_text}
use Rattle.answers.specs.Json.{list, term_json, level_json, signature_level, signature_levels, look_json, answer_json}
use Rattle.answers.proofs.LevelTexts.{words-same}

-- one value more
pub value-more : (values next : List Value) (value : Value) (d : Data) → next ≡ values ++ value ∷ [] → view value ≡ d → map view next ≡ map view values ++ d ∷ []
value-more values next value d step is = ap (λ (vs : List Value). map view vs) step ∙ map-append view values (value ∷ []) ∙ ap (λ (e : Data). map view values ++ e ∷ []) is

-- a coefficient that isn't 0 is told
pub term-told : (name : List ℕ) (value : ℤ) → value ≢ pos 0 → term_json name value ≡ list (string name ∷ string (signed_decimal value) ∷ []) ∷ []
term-told name (pos zero) h = absurd (h refl)
term-told name (pos (suc n)) h = refl
term-told name (negsuc n) h = refl

-- a word beside its coefficient
abbrev pub numerator_json : List ℕ → ℤ → List Data
numerator_json word value = term_json (word_text word) value

levels-same-up-to : (extent : Extent) (f g : List ℕ → ℤ) (k : ℕ) → k ≤ extent.depth → ((word : List ℕ) → IsWord extent word → f word ≡ g word)
    → map (signature_level extent f) (up_to k) ≡ map (signature_level extent g) (up_to k)
levels-same-up-to extent f g zero h same = refl
levels-same-up-to extent f g (suc k) h same =
    map-append (signature_level extent f) (up_to k) (suc k ∷ [])
    ∙ ap₂ (λ (front : List Data) (terms : List Data). front ++ level_json (factorial (suc k)) terms ∷ []) (levels-same-up-to extent f g k (omega arith) same) (words-same numerator_json extent f g (suc k) h (λ word is _. same word is))
    ∙ sym (map-append (signature_level extent g) (up_to k) (suc k ∷ []))

-- a tensor has the levels of its series
levels-same : (extent : Extent) (tensor : TensorValue) (series : List ℕ → ℤ) → HasSeries extent tensor series
    → signature_levels tensor.extent (coefficient tensor) ≡ signature_levels extent series
levels-same extent tensor series has =
    ap (λ (e : Extent). signature_levels e (coefficient tensor)) has.extent_is
    ∙ levels-same-up-to extent (coefficient tensor) series extent.depth (omega arith) has.coefficients

-- the JSON of a signature is the one that is due
pub signature-told : (extent : Extent) (c : ℕ) (reply : LookReply) (tensor : TensorValue) (due : Due) → Shows extent (Sig reply tensor) due
    → look_json c (codes "sig") reply (signature_levels tensor.extent (coefficient tensor)) ≡ answer_json extent c due
signature-told extent c reply tensor (Edited r) h = absurd h
signature-told extent c reply tensor (Valued r series) h = ap₂ (look_json c (codes "sig")) h.0 (levels-same extent tensor series h.1)
signature-told extent c reply tensor (Logged r terms) h = absurd h
signature-told extent c reply tensor (Refused r) h = absurd h
