-- The bytes that were received decide as all the bytes of the source do.
use Rattle.std.proofs.Common.{◌≡◌, ℕ, ◌+◌, ◌≤◌, ◌<◌, refl, sym, ap, ◌∙◌, subst, arith, List, [], ◌++◌, length, drop, append-nil, length-append, Option, Some, None, inl, inr}
use Rattle.std.specs.Io.KnownBytes.{Consumes, IsAtEnd}
use Rattle.std.proofs.lemmas.Bool.{cases_lt}
use Rattle.std.proofs.Math.Seq.{drop-append_seam}
use Rattle.script_reader.specs.Script.{most_bytes}
use Rattle.rough_main.specs.Calls.{Port}
use Rattle.rough_main.specs.Made.{Decides, IsReceived}

-- what is left after some first bytes
pub consumed : (old new : Option (List ℕ)) (received all : List ℕ) → old ≡ Some all → Consumes old new received → (rest : List ℕ) × (new ≡ Some rest) × (all ≡ received ++ rest)
consumed None new received all told taken = absurd (cc)
consumed (Some xs) None received all told taken = absurd taken
consumed (Some xs) (Some ys) received all told taken = let same : xs ≡ all = cc in (ys, refl, sym same ∙ taken)

-- bytes that were received up to one more than may be read decide: the rest is empty, or both are too many
pub received-decides : (all received rest : List ℕ) → all ≡ received ++ rest → (length received ≤ most_bytes → rest ≡ []) → Decides all received
received-decides all received rest whole ended = (
  λ short. whole ∙ ap (λ (xs : List ℕ). received ++ xs) (ended short) ∙ append-nil received,
  λ long. omega (arith, ap length whole, length-append received rest),
)

-- of more bytes than may be read exactly that many and one are taken
pub rest-of-long : (all received rest : List ℕ) → all ≡ received ++ rest → length received ≤ most_bytes + 1 → (length received ≤ most_bytes → rest ≡ []) → most_bytes < length all
    → rest ≡ drop (most_bytes + 1) all
rest-of-long all received rest whole bound ended long =
    elim (cases_lt most_bytes (length received)) [
      | inl past ↦
          let count : length received ≡ most_bytes + 1 = omega arith in
          sym (ap (drop (most_bytes + 1)) whole ∙ ap (λ (n : ℕ). drop n (received ++ rest)) (sym count) ∙ drop-append_seam received rest)
      | inr short ↦ absurd (omega (arith, ap length whole, length-append received rest, ap length (ended short)))
    ]

-- what is received up to one byte more than may be read
pub is-received : (received : List ℕ) (source taken : Port) → Consumes source.told taken.told received → length received ≤ most_bytes + 1 → (length received ≤ most_bytes → IsAtEnd taken.told)
    → taken.faults ≡ source.faults → IsReceived received source taken
is-received received source taken consumes bound ended kept =
    let parts = λ (bytes : List ℕ) (told : source.told ≡ Some bytes). consumed source.told taken.told received bytes told consumes in
    record {
      decided = λ bytes told. let p = parts bytes told in received-decides bytes received p.0 p.2 (λ short. subst IsAtEnd p.1 (ended short));
      whole = ended;
      size = λ bytes told long. let p = parts bytes told in p.1 ∙ ap (λ (xs : List ℕ). Some xs) (rest-of-long bytes received p.0 p.2 bound (λ short. subst IsAtEnd p.1 (ended short)) long);
      takes = (received, bound, consumes);
      kept = kept;
    }
