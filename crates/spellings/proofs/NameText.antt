-- A name is text.
use Rattle.std.proofs.Common.{◌≡◌, ℕ, ◌<◌, ◌==◌, ◌||◌, true, List, IsTrue, arith}
use Rattle.std.specs.List.{list_all}
use Rattle.std.specs.Str.{IsUtf8}
use Rattle.std.proofs.lemmas.List.Sums.{AllPass-from_list_all}
use Rattle.std.proofs.lemmas.Str.Ascii.{IsAscii-from_all}
use Rattle.std.proofs.lemmas.Str.{IsUtf8-from_ascii}
use Rattle.std.proofs.lemmas.Bool.Decides.{nat_tests}
use Rattle.spellings.specs.Names.{is_alphabetic, is_name}
use Rattle.spellings.specs.Numbers.{is_digit}

-- a byte of a name is ASCII
name_byte_is_ascii : (c : ℕ) → (is_alphabetic c || is_digit c || c == 95) ≡ true → c < 128
name_byte_is_ascii c passes = grind (arith, nat_tests)

-- a name is ASCII, and so it is text
pub name_is_text : (word : List ℕ) → IsTrue (is_name word) → IsUtf8 word
name_is_text word name =
    let passes : list_all (λ c. is_alphabetic c || is_digit c || c == 95) word ≡ true = grind (arith, nat_tests) in
    IsUtf8-from_ascii word
    (IsAscii-from_all word
    (λ k d below. name_byte_is_ascii _ (AllPass-from_list_all (λ c. is_alphabetic c || is_digit c || c == 95) word passes k d below)))
