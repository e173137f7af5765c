-- The letters of a Hall list: its first members, which expand to themselves.
use Rattle.std.proofs.Common.{◌≡◌, ℕ, zero, suc, ◌-◌, ap, ◌∙◌, arith, ℤ, List, replicate, length-append}
use Rattle.std.proofs.lemmas.List.{get_or-replicate, length-replicate}
use Rattle.definitions.specs.Words.{IsLetter}
use Rattle.definitions.specs.Hall.{InHall, member, grown, hall_list, pairs_of, expansion}
use Rattle.definitions.specs.declared.member.Member.{Member}
use Rattle.definitions.specs.declared.member.Member.TheVariants.{Letter, Pair}
use Rattle.hall_set.proofs.GrownLists.{member-old}
use Rattle.hall_set.proofs.Folds.{expansion-letter}
use Rattle.dynkin_map.proofs.CoordinateLaws.{HasLetters, LetterExpansions}

first-letters : (width a : ℕ) → IsLetter width a → InHall (replicate width Letter) a × (member (replicate width Letter) a ≡ Letter)
first-letters width zero h = absurd (omega (arith, h.0))
first-letters width (suc i) h = (record { least = omega arith; most = omega (arith, h.1, length-replicate width Letter) }, get_or-replicate width i Letter (Pair 0 0 0) (omega (arith, h.1)))

letters-grown : (width n a : ℕ) → IsLetter width a → InHall (grown width n) a × (member (grown width n) a ≡ Letter)
letters-grown width zero a h = first-letters width a h
letters-grown width (suc n) a h =
    let before = letters-grown width n a h in
    let more : List Member = pairs_of (grown width n) (suc (suc n)) in
    (record { least = before.0.least; most = omega (arith, before.0.most, length-append (grown width n) more) }, member-old (grown width n) more a before.0 ∙ before.1)

-- each Hall list has its letters under their own numbers
pub hall_list-HasLetters : (width depth : ℕ) → HasLetters width (hall_list width depth)
hall_list-HasLetters width depth = record { inside = λ a h. (letters-grown width (depth - 1) a h).0; letters = λ a h. (letters-grown width (depth - 1) a h).1 }

-- and they expand to themselves
pub hall_list-LetterExpansions : (width depth : ℕ) → LetterExpansions width (expansion (hall_list width depth))
hall_list-LetterExpansions width depth a h w = ap (λ (f : List ℕ → ℤ). f w) (expansion-letter (hall_list width depth) a ((letters-grown width (depth - 1) a h).1))
