-- The Hall list of width 2 and depth 5.
use Rattle.std.proofs.Common.{◌≡◌, refl, [], ◌∷◌, negsuc}
use Rattle.std.specs.Prelude.{codes}
use Rattle.std.specs.Fmt.{digits}
use Rattle.definitions.specs.Sums.{sum_below}
use Rattle.definitions.specs.Commutators.{commutator, commutator_term}
use Rattle.definitions.specs.Hall.{hall_list, number_of, expansion, text_of}
use Rattle.definitions.specs.declared.member.Member.TheVariants.{Letter, Pair}

list : hall_list 2 5
    ≡ Letter ∷ Letter ∷ Pair 2 1 2 ∷ Pair 3 1 3 ∷ Pair 3 2 3 ∷ Pair 4 1 4 ∷ Pair 4 2 4 ∷ Pair 4 2 5
    ∷ Pair 5 1 6 ∷ Pair 5 2 6 ∷ Pair 5 2 7 ∷ Pair 5 2 8 ∷ Pair 5 3 4 ∷ Pair 5 3 5 ∷ []
list = refl

number : number_of (hall_list 2 5) 3 4 ≡ 13
unfolding number_of
number = refl

no-number : number_of (hall_list 2 5) 1 5 ≡ 0
unfolding number_of
no-number = refl

text : text_of (hall_list 2 5) 13 ≡ codes "[[1,2],[1,[1,2]]]"
unfolding text_of digits
text = refl

coefficient : expansion (hall_list 2 5) 4 (1 ∷ 2 ∷ 1 ∷ []) ≡ negsuc 1
unfolding expansion commutator commutator_term sum_below
coefficient = refl
