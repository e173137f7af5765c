-- What the fields of a line spell.
use Rattle.std.proofs.Common.{◌≡◌, ℕ, ◌*◌, ◌≤◌, Bool, true, false, ◌&&◌, nat_eq, nat_le, if◌then◌else◌, List, [], ◌∷◌, Option, Some, None, is_some, unwrap_or, IfSome, MatchOption, ℤ, refl, arith, All}
use Rattle.std.specs.List.{before_first, after_first}
use Rattle.std.proofs.lemmas.Bool.Decides.{nat_tests}
use Rattle.std.proofs.lemmas.List.Elements.{All-nil, All-cons}
use Rattle.spellings.specs.Numbers.{is_plain, value_of, is_denominator, plain_up_to, whole_of, tick_up_to}
use Rattle.script_reader.specs.Fields.{is_number, is_version, is_tick, tick_or_zero, are_ticks, ticks_of, are_entries, entries_of}

-- an answer that is there exactly where the test holds, and is then within a bound
abbrev IsGiven : Bool → ℕ → ℕ → Option ℕ → Type 0
IsGiven t v most n = MatchOption n (t ≡ false) (λ x. (t ≡ true) × (x ≡ v) × (x ≤ most))

-- what a test guards is within its bound
given_some : (t : Bool) (v most : ℕ) → (t ≡ true → v ≤ most) → IfSome (if t then Some v else None) (λ n. n ≤ most)
given_some true v most h = h refl
given_some false v most h = tt

-- a test up to a bound
up_to_most : (t : Bool) (v most : ℕ) → (t && nat_le v most) ≡ true → v ≤ most
up_to_most t v most e = grind (arith, nat_tests)

-- a value that is given up to a bound
within : (t : Bool) (v most : ℕ) → IfSome (if t && nat_le v most then Some v else None) (λ n. n ≤ most)
within t v most = given_some (t && nat_le v most) v most (up_to_most t v most)

-- one of two answers, each within the bound
either_within : (t : Bool) (a b : Option ℕ) (most : ℕ) → IfSome a (λ n. n ≤ most) → IfSome b (λ n. n ≤ most) → IfSome (if t then a else b) (λ n. n ≤ most)
either_within true a b most h k = h
either_within false a b most h k = k

-- a tick is within its bound
tick_within : (most : ℕ) (word : List ℕ) → IfSome (tick_up_to most word) (λ n. n ≤ most)
tick_within most word =
    either_within _ _ _ most
    (within (is_plain (before_first (λ c. nat_eq c 47) word) && is_plain (after_first (λ c. nat_eq c 47) word) && is_denominator (value_of (after_first (λ c. nat_eq c 47) word))) _ most)
    (within (is_plain word) (value_of word * 65536) most)

-- an answer, by its own test and value
option_is : (o : Option ℕ) (most : ℕ) → IfSome o (λ n. n ≤ most) → IsGiven (is_some o) (unwrap_or o 0) most o
option_is None most h = refl
option_is (Some n) most h = (refl, refl, h)

-- an answer within a bound, or 0
or_zero_within : (o : Option ℕ) (most : ℕ) → IfSome o (λ n. n ≤ most) → unwrap_or o 0 ≤ most
or_zero_within None most h = omega arith
or_zero_within (Some n) most h = h

-- the tick that a word spells, or that it spells none
pub tick_is : (most : ℕ) (word : List ℕ) (n : Option ℕ) → n ≡ tick_up_to most word → MatchOption n (is_tick most word ≡ false) (λ t. (is_tick most word ≡ true) × (t ≡ tick_or_zero most word) × (t ≤ most))
unfolding is_tick tick_or_zero
tick_is most word n e = rw e (option_is (tick_up_to most word) most (tick_within most word))

-- no tick is beyond the bound
tick_or_zero-within : (most : ℕ) (word : List ℕ) → tick_or_zero most word ≤ most
unfolding tick_or_zero
tick_or_zero-within most word = or_zero_within (tick_up_to most word) most (tick_within most word)

-- each tick of times is within the bound
pub ticks_of-within : (most : ℕ) (words : List (List ℕ)) → All (λ t. t ≤ most) (ticks_of most words)
ticks_of-within most [] = All-nil (λ t. t ≤ most)
ticks_of-within most (word ∷ words) = All-cons (λ t. t ≤ most) (tick_or_zero most word) (ticks_of most words) (tick_or_zero-within most word) (ticks_of-within most words)

-- an answer that a test guards, by its value
chosen_is : (t : Bool) (v most : ℕ) → (t ≡ true → v ≤ most) → IsGiven (is_some (if t then Some v else None)) v most (if t then Some v else None)
chosen_is true v most h = (refl, refl, h refl)
chosen_is false v most h = refl

value_is : (t : Bool) (v : ℕ) → MatchOption (if t then Some v else None) (is_some (if t then Some v else None) ≡ false) (λ x. (is_some (if t then Some v else None) ≡ true) × (x ≡ v))
value_is true v = (refl, refl)
value_is false v = refl

-- the value of a number, or that the word is none
pub number_is : (word : List ℕ) (n : Option ℕ) → n ≡ plain_up_to 4294967295 word → MatchOption n (is_number word ≡ false) (λ x. (is_number word ≡ true) × (x ≡ value_of word) × (x ≤ 4294967295))
unfolding is_number
number_is word n e = rw e (chosen_is (is_plain word && nat_le (value_of word) 4294967295) (value_of word) 4294967295 (up_to_most (is_plain word) (value_of word) 4294967295))

-- the value of a version's number, or that the word is none
pub version_is : (word : List ℕ) (n : Option ℕ) → n ≡ plain_up_to 18446744073709551615 word → MatchOption n (is_version word ≡ false) (λ x. (is_version word ≡ true) × (x ≡ value_of word))
unfolding is_version
version_is word n e = rw e (value_is (is_plain word && nat_le (value_of word) 18446744073709551615) (value_of word))

-- a word that is no entry
pub entry_missing : (word : List ℕ) (words : List (List ℕ)) → None ≡ whole_of word → are_entries (word ∷ words) ≡ false
unfolding are_entries
entry_missing word words e = rw (← e) refl

-- an entry, and the words after it
pub entry_found : (word : List ℕ) (words : List (List ℕ)) (x : ℤ) → Some x ≡ whole_of word → (are_entries (word ∷ words) ≡ are_entries words) × (entries_of (word ∷ words) ≡ x ∷ entries_of words)
unfolding are_entries
entry_found word words x e = rw (← e) (refl, refl)

-- no words are entries, all of them
pub no_entries : are_entries [] ≡ true
unfolding are_entries
no_entries = refl

-- a word that is no time
pub tick_missing : (most : ℕ) (word : List ℕ) (words : List (List ℕ)) → None ≡ tick_up_to most word → are_ticks most (word ∷ words) ≡ false
unfolding are_ticks is_tick
tick_missing most word words e = rw (← e) refl

-- a time, and the words after it
pub tick_found : (most : ℕ) (word : List ℕ) (words : List (List ℕ)) (tick : ℕ) → Some tick ≡ tick_up_to most word → (are_ticks most (word ∷ words) ≡ are_ticks most words) × (ticks_of most (word ∷ words) ≡ tick ∷ ticks_of most words)
unfolding are_ticks is_tick tick_or_zero
tick_found most word words tick e = rw (← e) (refl, refl)

-- no words are times, all of them
pub no_ticks : (most : ℕ) → are_ticks most [] ≡ true
unfolding are_ticks
no_ticks most = refl
