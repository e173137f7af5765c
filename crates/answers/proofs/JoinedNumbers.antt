-- Numbers in decimal with commas between can be read back.
use Rattle.std.proofs.Common.{◌≡◌, ◌≢◌, ℕ, zero, suc, ◌+◌, ◌/◌, ◌%◌, ◌^◌, ◌<◌, ◌==◌, false, refl, sym, ap, ap₂, ◌∙◌, arith, List, [], ◌∷◌, length}
use Rattle.std.specs.Prelude.{All, map}
use Rattle.std.specs.Fmt.{digit_glyph, digits_onto, digits, decimal}
use Rattle.std.specs.List.{join_with_byte, slice_split}
use Rattle.std.proofs.lemmas.Bool.{cond_both}
use Rattle.std.proofs.lemmas.Bool.Decides.{nat_tests}
use Rattle.std.proofs.lemmas.Fmt.{decimal_nonempty, decimal_injective}
use Rattle.std.proofs.lemmas.List.Elements.{All-nil, All-cons, All-append, All-head, All-tail}
use Rattle.std.proofs.lemmas.List.Splits.{slice_split_none, slice_split_at}
use Rattle.answers.proofs.Cuts.{is_mark, Lacks}

-- ---- marks that are no digits
module _ (mark : ℕ) (no_digit : (d : ℕ) → d < 10 → 48 + d ≢ mark) where
  glyph-lacks : (d : ℕ) → d < 10 → is_mark mark (digit_glyph false d) ≡ false
  glyph-lacks d h = let other = no_digit d h in grind (arith, nat_tests)

  onto-lacks : (k n : ℕ) (after : List ℕ) → Lacks mark after → Lacks mark (digits_onto k 10 false n after)
  onto-lacks zero n after h = h
  onto-lacks (suc k) n after h =
      let glyph : ℕ = digit_glyph false (n % 10) in
      let more : Lacks mark (glyph ∷ after) = All-cons (λ byte. is_mark mark byte ≡ false) glyph after (glyph-lacks (n % 10) (omega arith)) h in
      cond_both (n / 10 == 0) (glyph ∷ after) (digits_onto k 10 false (n / 10) (glyph ∷ after)) (Lacks mark) (λ _. more) (λ _. onto-lacks k (n / 10) (glyph ∷ after) more)

  -- no decimal has a mark that isn't a digit
  pub decimal-lacks : (n : ℕ) → Lacks mark (decimal n)
  unfolding digits
  decimal-lacks n = onto-lacks 64 n [] (All-nil (λ byte. is_mark mark byte ≡ false))

  -- nor have decimals with commas between, where the mark isn't a comma either
  pub joined-lacks : is_mark mark 44 ≡ false → (numbers : List ℕ) → Lacks mark (join_with_byte 44 (map decimal numbers))
  joined-lacks no_comma [] = All-nil (λ byte. is_mark mark byte ≡ false)
  joined-lacks no_comma (n ∷ []) = decimal-lacks n
  joined-lacks no_comma (n ∷ m ∷ numbers) =
      let rest : List ℕ = join_with_byte 44 (map decimal (m ∷ numbers)) in
      All-append (λ byte. is_mark mark byte ≡ false) (decimal n) (44 ∷ rest) (decimal-lacks n)
      (All-cons (λ byte. is_mark mark byte ≡ false) 44 rest no_comma (joined-lacks no_comma (m ∷ numbers)))

-- ---- the numbers
joined-split : (n : ℕ) (numbers : List ℕ) → slice_split (is_mark 44) (join_with_byte 44 (map decimal (n ∷ numbers))) ≡ map decimal (n ∷ numbers)
joined-split n [] = slice_split_none (is_mark 44) (decimal n) (decimal-lacks 44 (λ d h e. omega arith) n)
joined-split n (m ∷ numbers) =
    slice_split_at (is_mark 44) (decimal n) 44 (join_with_byte 44 (map decimal (m ∷ numbers))) (decimal-lacks 44 (λ d h e. omega arith) n) refl
    ∙ ap (λ parts. decimal n ∷ parts) (joined-split m numbers)

abbrev IsSmall : ℕ → Type 0
IsSmall n = n < 2 ^ 64

decimals-tell : (first second : List ℕ) → All IsSmall first → All IsSmall second → map decimal first ≡ map decimal second → first ≡ second
decimals-tell [] [] h h' e = refl
decimals-tell [] (m ∷ second) h h' e = absurd (cc)
decimals-tell (n ∷ first) [] h h' e = absurd (cc)
decimals-tell (n ∷ first) (m ∷ second) h h' e =
    ap₂ (λ (k : ℕ) (ks : List ℕ). k ∷ ks)
    (decimal_injective n m (All-head IsSmall n first h) (All-head IsSmall m second h') (cc))
    (decimals-tell first second (All-tail IsSmall n first h) (All-tail IsSmall m second h') (cc))

some-joined : (n : ℕ) (numbers : List ℕ) → IsSmall n → [] ≢ join_with_byte 44 (map decimal (n ∷ numbers))
some-joined n numbers small e =
    let parts : [] ∷ [] ≡ decimal n ∷ map decimal numbers = ap (slice_split (is_mark 44)) e ∙ joined-split n numbers in
    let none : [] ≡ decimal n = cc in
    omega (arith, decimal_nonempty n small, ap length none)

-- numbers of at most 64 bits are told by their decimals with commas between
pub joined-tells : (first second : List ℕ) → All IsSmall first → All IsSmall second → join_with_byte 44 (map decimal first) ≡ join_with_byte 44 (map decimal second) → first ≡ second
joined-tells [] [] h h' e = refl
joined-tells [] (m ∷ second) h h' e = absurd (some-joined m second (All-head IsSmall m second h') e)
joined-tells (n ∷ first) [] h h' e = absurd (some-joined n first (All-head IsSmall n first h) (sym e))
joined-tells (n ∷ first) (m ∷ second) h h' e = decimals-tell (n ∷ first) (m ∷ second) h h' (sym (joined-split n first) ∙ ap (slice_split (is_mark 44)) e ∙ joined-split m second)
