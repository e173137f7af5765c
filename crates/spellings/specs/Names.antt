-- Names of rows.
use Rattle.std.specs.Prelude.{ℕ, Bool, false, ◌&&◌, ◌||◌, ◌==◌, nat_le, List, [], ◌∷◌, length}
use Rattle.std.specs.List.{list_all}
use Rattle.spellings.specs.Numbers.{is_digit}

-- a letter, small or capital
abbrev pub is_alphabetic : ℕ → Bool
is_alphabetic c = (nat_le 97 c && nat_le c 122) || (nat_le 65 c && nat_le c 90)

-- the first byte is a letter
abbrev pub starts_alphabetic : List ℕ → Bool
starts_alphabetic [] = false
starts_alphabetic (c ∷ word) = is_alphabetic c

-- 1 to 32 letters, digits and underscores, the first a letter
abbrev pub is_name : List ℕ → Bool
is_name word = starts_alphabetic word && nat_le (length word) 32 && list_all (λ c. is_alphabetic c || is_digit c || c == 95) word
