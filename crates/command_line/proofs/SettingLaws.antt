-- The first option of a list of words, where it is a word by itself.
use Rattle.std.proofs.Common.{◌≡◌, ℕ, ◌<◌, ◌==◌, true, false, List, [], ◌∷◌, length, codes, Option, Some, arith, refl, ap, ◌∙◌}
use Rattle.std.specs.List.{list_any, position_or_len, before_first, after_first}
use Rattle.std.specs.Str.{bytes_eq}
use Rattle.std.proofs.lemmas.Grind.{common_steps}
use Rattle.spellings.proofs.Places.{any_before_end}
use Rattle.command_line.specs.declared.setting.Valued.{Valued}
use Rattle.command_line.specs.declared.setting.Setting.{Setting}
use Rattle.command_line.specs.Settings.{valued_named, setting_at, kind_of, before, settings_in}
use Rattle.command_line.specs.Settings.Kind.{Whole}

-- an option that is a word by itself
whole_first : (word : List ℕ) (words : List (List ℕ)) (setting : Option Setting) → kind_of word ≡ Whole setting → settings_in (word ∷ words) ≡ before setting (settings_in words)
whole_first word [] setting is = rw (is, settings_in) refl
whole_first word (next ∷ words) setting is = rw (is, settings_in) refl

-- an option with its value after `=`
pub joined_first : (word before_sign value : List ℕ) (words : List (List ℕ)) (name : Valued) → bytes_eq word (codes "--json") ≡ false → position_or_len (λ c. c == 61) word < length word → before_sign ≡ before_first (λ c. c == 61) word → value ≡ after_first (λ c. c == 61) word → Some name ≡ valued_named before_sign → settings_in (word ∷ words) ≡ before (setting_at name value) (settings_in words)
joined_first word before_sign value words name other has before_is value_is is =
    let has_sign : list_any (λ c. c == 61) word ≡ true = grind (arith, common_steps, any_before_end (λ c. c == 61) word) in
    let named : Some name ≡ valued_named (before_first (λ c. c == 61) word) = is ∙ ap valued_named before_is in
    let kind : kind_of word ≡ Whole (setting_at name (after_first (λ c. c == 61) word)) = rw (other, has_sign, ← named) refl in
    rw value_is (whole_first word words _ kind)
