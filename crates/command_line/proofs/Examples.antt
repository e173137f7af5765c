-- Worked examples.
use Rattle.std.proofs.Common.{◌≡◌, [], ◌∷◌, refl}
use Rattle.std.specs.Prelude.{codes}
use Rattle.command_line.specs.declared.wish.Form.TheVariants.{Text, Json}
use Rattle.command_line.specs.declared.wish.Wish.TheVariants.{Refused, Gen, Given, Threads, Cbh}
use Rattle.command_line.specs.Wishes.{wish_of}

-- without words
nothing : wish_of [] ≡ Threads 4096 Text
nothing = refl

-- values as the next word and after `=`
generated : wish_of (codes "--gen" ∷ codes "8" ∷ codes "--cache=00001" ∷ []) ≡ Gen 8 1
generated = refl

ordered : wish_of (codes "--json" ∷ codes "--order=2,1,16" ∷ codes "--cache" ∷ codes "16384" ∷ []) ≡ Given (2 ∷ 1 ∷ 16 ∷ []) 16384 Json
ordered = refl

empty_order : wish_of (codes "--order" ∷ codes "none" ∷ []) ≡ Given [] 4096 Text
empty_order = refl

in_json : wish_of (codes "--json" ∷ []) ≡ Threads 4096 Json
in_json = refl

-- values that are not of their form or range
below_range : wish_of (codes "--cache" ∷ codes "0" ∷ []) ≡ Refused
below_range = refl

above_range : wish_of (codes "--cache=16385" ∷ []) ≡ Refused
above_range = refl

six_digits : wish_of (codes "--cache" ∷ codes "000001" ∷ []) ≡ Refused
six_digits = refl

empty_piece : wish_of (codes "--order" ∷ codes "1,,1" ∷ []) ≡ Refused
empty_piece = refl

none_and_more : wish_of (codes "--order" ∷ codes "none,1" ∷ []) ≡ Refused
none_and_more = refl

empty_value : wish_of (codes "--order=" ∷ []) ≡ Refused
empty_value = refl

option_as_value : wish_of (codes "--cache" ∷ codes "--json" ∷ []) ≡ Refused
option_as_value = refl

missing_value : wish_of (codes "--json" ∷ codes "--cache" ∷ []) ≡ Refused
missing_value = refl

-- options that stand twice, or beside `--gen`
twice : wish_of (codes "--json" ∷ codes "--json" ∷ []) ≡ Refused
twice = refl

generated_in_json : wish_of (codes "--gen" ∷ codes "8" ∷ codes "--json" ∷ []) ≡ Refused
generated_in_json = refl

generated_in_order : wish_of (codes "--order=1" ∷ codes "--gen=8" ∷ []) ≡ Refused
generated_in_order = refl

-- words that are no option
value_of_json : wish_of (codes "--json=" ∷ []) ≡ Refused
value_of_json = refl

other_word : wish_of (codes "x" ∷ []) ≡ Refused
other_word = refl

empty_word : wish_of ([] ∷ []) ≡ Refused
empty_word = refl

two_dashes : wish_of (codes "--" ∷ []) ≡ Refused
two_dashes = refl

-- the product of exponentials, which stands beside no other word
product : wish_of (codes "--cbh" ∷ []) ≡ Cbh
product = refl

product_twice : wish_of (codes "--cbh" ∷ codes "--cbh" ∷ []) ≡ Refused
product_twice = refl

product_in_json : wish_of (codes "--cbh" ∷ codes "--json" ∷ []) ≡ Refused
product_in_json = refl

product_last : wish_of (codes "--json" ∷ codes "--cbh" ∷ []) ≡ Refused
product_last = refl

product_with_value : wish_of (codes "--cbh=1" ∷ []) ≡ Refused
product_with_value = refl

product_as_value : wish_of (codes "--cache" ∷ codes "--cbh" ∷ []) ≡ Refused
product_as_value = refl
