-- The entries with one label in a list with one entry more, and two beginnings of one list.
use Rattle.std.proofs.Common.{◌≡◌, ◌≢◌, ℕ, ◌≤◌, nat_lt, Bool, true, false, List, [], ◌∷◌, ◌++◌, length, refl, ap, ◌∙◌, eq-eqb, ne_eqb, arith, cond, if◌then◌else◌, append-nil}
use Rattle.std.specs.Prelude.{◌==◌}
use Rattle.std.proofs.lemmas.Bool.Decides.{nat_tests}
use Rattle.std.proofs.lemmas.List.Elements.{filter-append}
use mathlib.Core.List.{IsPrefix}
use Rattle.turnstile.specs.Entries.{of_label, longer, shorter}

module _ {E : Type 0} (label : E → ℕ) where
  -- an entry with the label comes last
  pub of_label_same : (l : ℕ) (h : List E) (e : E) → label e ≡ l → of_label label l (h ++ e ∷ []) ≡ of_label label l h ++ e ∷ []
  of_label_same l h e is = filter-append (λ x. label x == l) h (e ∷ []) ∙ ap (λ b. of_label label l h ++ cond b (e ∷ []) []) (eq-eqb (label e) l is)

  -- an entry with another label doesn't count
  pub of_label_other : (l : ℕ) (h : List E) (e : E) → label e ≢ l → of_label label l (h ++ e ∷ []) ≡ of_label label l h
  of_label_other l h e ne = filter-append (λ x. label x == l) h (e ∷ []) ∙ (ap (λ b. of_label label l h ++ cond b (e ∷ []) []) (ne_eqb (label e) l ne) ∙ append-nil (of_label label l h))

module _ {A : Type 0} where
  -- of two beginnings of one list, the one that is no longer begins the other
  prefix_of_longer : (xs ys zs : List A) → IsPrefix xs zs → IsPrefix ys zs → length xs ≤ length ys → IsPrefix xs ys
  prefix_of_longer [] ys zs p q le = (ys, refl)
  prefix_of_longer (x ∷ xs) [] zs p q le = absurd (omega arith)
  prefix_of_longer (x ∷ xs) (y ∷ ys) [] p q le = absurd (cc (p.1))
  prefix_of_longer (x ∷ xs) (y ∷ ys) (z ∷ zs) p q le =
      let heads : x ≡ y = cc (p.1, q.1) in
      let rest = prefix_of_longer xs ys zs (p.0, cc (p.1)) (q.0, cc (q.1)) (omega arith) in
      (rest.0, cc (heads, rest.1))

  -- by which of two beginnings is longer: the shorter begins the longer, and the longer is one
  longer_by : (xs ys h : List A) → IsPrefix xs h → IsPrefix ys h → (b : Bool) → nat_lt (length xs) (length ys) ≡ b
      → IsPrefix (if b then xs else ys) (if b then ys else xs) × IsPrefix (if b then ys else xs) h
  longer_by xs ys h p q true is = (prefix_of_longer xs ys h p q (grind (arith, nat_tests)), q)
  longer_by xs ys h p q false is = (prefix_of_longer ys xs h q p (grind (arith, nat_tests)), p)

  -- of two beginnings of one list, the shorter begins the longer, and the longer is one too
  pub longer_begins : (xs ys h : List A) → IsPrefix xs h → IsPrefix ys h → IsPrefix (shorter xs ys) (longer xs ys) × IsPrefix (longer xs ys) h
  longer_begins xs ys h p q = longer_by xs ys h p q (nat_lt (length xs) (length ys)) refl
