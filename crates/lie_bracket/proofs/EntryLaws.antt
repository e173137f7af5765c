-- Entries of other pairs stay.
use Rattle.std.proofs.Common.{◌≡◌, inl, inr, ℕ, ◌<◌, ap, ap₂, ◌∙◌, arith, cond}
use Rattle.std.specs.Prelude.{Bool, false, eqb, ltb, List, []}
use Rattle.std.specs.BTreeMap.{BTreeMap}
use Rattle.std.specs.Ordering.{nat_cmp, ordering_then, is_eq}
use Rattle.std.specs.declared.cmp.Ordering.{Ordering}
use Rattle.std.specs.declared.cmp.Ordering.TheVariants.{Less, Equal, Greater}
use Rattle.std.proofs.lemmas.Bool.{cases_order, lt-ltb, le-ltb, eq-eqb, ne_eqb}
use Rattle.lie_bracket.specs.declared.term.Term.{Term}
use Rattle.lie_bracket.specs.declared.sign.Sign.{Sign}
use Rattle.lie_bracket.specs.Brackets.{scaled}
use Rattle.lie_bracket.specs.Entries.{pair_cmp, signed, stored, looked_up}

cmp-less : (a c : ℕ) → a < c → nat_cmp a c ≡ Less
cmp-less a c lt = ap (λ (b : Bool). cond b Less (cond (eqb a c) Equal Greater)) (lt-ltb a c lt)

cmp-equal : (a c : ℕ) → a ≡ c → nat_cmp a c ≡ Equal
cmp-equal a c e = ap₂ (λ (b d : Bool). cond b Less (cond d Equal Greater)) (le-ltb a c (omega arith)) (eq-eqb a c e)

cmp-greater : (a c : ℕ) → c < a → nat_cmp a c ≡ Greater
cmp-greater a c lt = ap₂ (λ (b d : Bool). cond b Less (cond d Equal Greater)) (le-ltb a c (omega arith)) (ne_eqb a c (λ e. omega arith))

apart-cmp : (a c : ℕ) → (a ≡ c → ⊥) → is_eq (nat_cmp a c) ≡ false
apart-cmp a c apart =
    elim (cases_order a c) [
      | inl same ↦ absurd (apart same)
      | inr other ↦ elim other [ inl below ↦ ap is_eq (cmp-less a c below) | inr above ↦ ap is_eq (cmp-greater a c above) ]
    ]

-- other pairs are told apart
pub pairs-apart : (a b c d : ℕ) → (a ≡ c → b ≡ d → ⊥) → is_eq (pair_cmp (a, b) (c, d)) ≡ false
pairs-apart a b c d apart =
    elim (cases_order a c) [
      | inl same ↦ ap (λ (o : Ordering). is_eq (ordering_then o (nat_cmp b d))) (cmp-equal a c same) ∙ apart-cmp b d (apart same)
      | inr other ↦ elim other [
        | inl below ↦ ap (λ (o : Ordering). is_eq (ordering_then o (nat_cmp b d))) (cmp-less a c below)
        | inr above ↦ ap (λ (o : Ordering). is_eq (ordering_then o (nat_cmp b d))) (cmp-greater a c above)
      ]
    ]

-- what compares greater is greater
pub greater-above : (a b : ℕ) → Greater ≡ nat_cmp a b → b < a
greater-above a b e =
    elim (cases_order a b) [
      | inl same ↦ absurd (let s : Greater ≡ Equal = e ∙ cmp-equal a b same in cc)
      | inr other ↦ elim other [ inl below ↦ absurd (let s : Greater ≡ Less = e ∙ cmp-less a b below in cc) | inr above ↦ above ]
    ]

-- ---- brackets that are looked up
-- in the order of the numbers the entry is read as it stands
pub looked_up-below : (sign : Sign) (m : BTreeMap (ℕ × ℕ) (List Term)) (a b : ℕ) → a < b → looked_up sign m a b ≡ stored m a b
looked_up-below sign m a b lt = ap (λ (t : Bool). cond t (stored m a b) (cond (ltb b a) (scaled (signed sign) (stored m b a)) [])) (lt-ltb a b lt)

-- in the other order with the sign
pub looked_up-above : (sign : Sign) (m : BTreeMap (ℕ × ℕ) (List Term)) (a b : ℕ) → b < a → looked_up sign m a b ≡ scaled (signed sign) (stored m b a)
looked_up-above sign m a b lt =
    ap₂ (λ (t u : Bool). cond t (stored m a b) (cond u (scaled (signed sign) (stored m b a)) [])) (le-ltb a b (omega arith)) (lt-ltb b a lt)

-- a member with itself has nothing
pub looked_up-same : (sign : Sign) (m : BTreeMap (ℕ × ℕ) (List Term)) (a : ℕ) → looked_up sign m a a ≡ []
looked_up-same sign m a = ap (λ (t : Bool). cond t (stored m a a) (cond t (scaled (signed sign) (stored m a a)) [])) (le-ltb a a (omega arith))
