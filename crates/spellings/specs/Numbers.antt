-- Numbers and times, as they are spelled.
use Rattle.std.specs.Prelude.{ℕ, ◌+◌, ◌-◌, ◌*◌, ◌/◌, ◌^◌, Bool, ◌&&◌, ◌==◌, nat_lt, nat_le, if◌then◌else◌, List, [], ◌∷◌, fold, length, Option, Some, None, ℤ, pos, neg_ℤ}
use Rattle.std.specs.Int.{is_power_of_two}
use Rattle.std.specs.List.{list_all, list_any, before_first, after_first}

-- a decimal digit
abbrev pub is_digit : ℕ → Bool
is_digit c = nat_le 48 c && nat_le c 57

-- 1 to 20 decimal digits
abbrev pub is_plain : List ℕ → Bool
is_plain word = nat_le 1 (length word) && nat_le (length word) 20 && list_all is_digit word

-- the number that the digits spell
abbrev pub value_of : List ℕ → ℕ
value_of word = fold (λ n c. 10 * n + (c - 48)) 0 word

-- the value of a plain number, where it is at most the given one
abbrev pub plain_up_to : ℕ → List ℕ → Option ℕ
plain_up_to most word = if is_plain word && nat_le (value_of word) most then Some (value_of word) else None

-- a plain number with at most one minus sign before it, in the range of 64 bits
abbrev pub whole_of : List ℕ → Option ℤ
whole_of [] = None
whole_of (c ∷ word) =
    if c == 45 then (if is_plain word && nat_le (value_of word) (2 ^ 63) then Some (neg_ℤ (pos (value_of word))) else None)
    else (if is_plain (c ∷ word) && nat_lt (value_of (c ∷ word)) (2 ^ 63) then Some (pos (value_of (c ∷ word))) else None)

-- a power of two, up to the ticks of a unit of time
abbrev pub is_denominator : ℕ → Bool
is_denominator b = is_power_of_two b && nat_le b 65536

-- a / b in ticks
abbrev pub fraction_up_to : ℕ → List ℕ → List ℕ → Option ℕ
fraction_up_to most a b =
    if is_plain a && is_plain b && is_denominator (value_of b) && nat_le (value_of a * 65536 / value_of b) most
    then Some (value_of a * 65536 / value_of b) else None

-- the tick of a time a or a/b, where it is at most the given one
abbrev pub tick_up_to : ℕ → List ℕ → Option ℕ
tick_up_to most word =
    if list_any (λ c. c == 47) word
    then fraction_up_to most (before_first (λ c. c == 47) word) (after_first (λ c. c == 47) word)
    else (if is_plain word && nat_le (value_of word * 65536) most then Some (value_of word * 65536) else None)
