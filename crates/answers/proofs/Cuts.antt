-- Lists of bytes that are cut at a mark.
use Rattle.std.proofs.Common.{◌≡◌, ℕ, ◌==◌, Bool, false, refl, sym, ap, subst, ◌∙◌, arith, eq-eqb, List, [], ◌∷◌, ◌++◌, length}
use Rattle.std.specs.Prelude.{All}
use Rattle.std.specs.List.{slice_split}
use Rattle.std.proofs.lemmas.Bool.Decides.{nat_tests}
use Rattle.std.proofs.lemmas.List.{length-append, get_or_at}
use Rattle.std.proofs.lemmas.List.Elements.{All-get_or}
use Rattle.std.proofs.lemmas.List.Splits.{slice_split_at}

-- the byte is the mark
abbrev pub is_mark : ℕ → ℕ → Bool
is_mark mark byte = byte == mark

-- none of the bytes is the mark
abbrev pub Lacks : ℕ → List ℕ → Type 0
Lacks mark bytes = All (λ byte. is_mark mark byte ≡ false) bytes

module _ (mark : ℕ) where
  -- what stands before the first mark
  pub first-cut : (xs xs' ys ys' : List ℕ) → Lacks mark xs → Lacks mark xs' → xs ++ mark ∷ ys ≡ xs' ++ mark ∷ ys' → xs ≡ xs'
  first-cut xs xs' ys ys' h h' e =
      let split = slice_split_at (is_mark mark) xs mark ys h (eq-eqb mark mark refl) in
      let split' = slice_split_at (is_mark mark) xs' mark ys' h' (eq-eqb mark mark refl) in
      let parts : xs ∷ slice_split (is_mark mark) ys ≡ xs' ∷ slice_split (is_mark mark) ys' = sym split ∙ ap (slice_split (is_mark mark)) e ∙ split' in
      cc

  none-within : (xs ys : List ℕ) → Lacks mark (xs ++ mark ∷ ys) → ⊥
  none-within xs ys h =
      let no = All-get_or (λ byte. is_mark mark byte ≡ false) (xs ++ mark ∷ ys) (length xs) 0 (omega (arith, length-append xs (mark ∷ ys))) h in
      grind (arith, nat_tests, get_or_at xs mark ys 0 (length xs) refl)

  -- what stands before the last mark, and what after it
  pub last-cut : (xs xs' ys ys' : List ℕ) → Lacks mark ys → Lacks mark ys' → xs ++ mark ∷ ys ≡ xs' ++ mark ∷ ys' → (xs ≡ xs') × (ys ≡ ys')
  last-cut [] [] ys ys' h h' e = (refl, cc)
  last-cut [] (x ∷ xs') ys ys' h h' e = absurd (none-within xs' ys' (subst (Lacks mark) (cc) h))
  last-cut (x ∷ xs) [] ys ys' h h' e = absurd (none-within xs ys (subst (Lacks mark) (cc) h'))
  last-cut (x ∷ xs) (x' ∷ xs') ys ys' h h' e =
      let rest = last-cut xs xs' ys ys' h h' (cc) in
      (cc, rest.1)
