-- One pair more in the tables of majorants and brackets.
use Rattle.std.proofs.Common.{◌≡◌, inl, inr, ℕ, ◌+◌, ◌<◌, ◌≤◌, ◌^◌, sym, ap, ap₂, ◌∙◌, subst, arith, List, [], length, get_or, unsigned_abs}
use Rattle.std.specs.Prelude.{true, false}
use Rattle.std.specs.BTreeMap.{BTreeMap}
use Rattle.std.proofs.lemmas.Bool.{cases_eq, lt-ltb, le-ltb}
use Rattle.std.proofs.lemmas.List.{get_or_default}
use Rattle.std.proofs.lemmas.List.Elements.{All-from_get_or}
use Rattle.definitions.specs.declared.member.Member.{Member}
use Rattle.hall_set.proofs.GrownLists.{IsHall}
use Rattle.lie_bracket.specs.declared.term.Term.{Term}
use Rattle.lie_bracket.specs.declared.sign.Sign.{Sign}
use Rattle.lie_bracket.specs.declared.sign.Sign.TheVariants.{Minus, Plus}
use Rattle.lie_bracket.specs.Brackets.{coefficient, mass, majorant}
use Rattle.lie_bracket.specs.Tables.{pairs_in_order, is_heavy}
use Rattle.lie_bracket.specs.Entries.{stored, sizes, Numbers, AreSmall, IsPair, IsEarlier, bracket_by, entry_of, AreDone, IsTable, AreTables}
use Rattle.lie_bracket.proofs.NonzeroLaws.{nonzero-Numbers}
use Rattle.lie_bracket.proofs.Masses.{sizes-majorant, sizes-bracket}
use Rattle.lie_bracket.proofs.TableSteps.{bracket_by-Numbers}
use Rattle.lie_bracket.proofs.PairOrder.{pairs-valid, pairs-each, pairs-ordered, not-both, earlier-each, no-heavy_pair}

-- the k-th pair
abbrev pub pair_at : ℕ → List Member → ℕ → ℕ × ℕ
pair_at depth hall k = get_or (pairs_in_order depth hall) k (0, 0)

-- the k-th pair as it is read
pub pair-read : (depth : ℕ) (hall : List Member) (pairs : List (ℕ × ℕ)) (k : ℕ) (p : ℕ × ℕ) → pairs ≡ pairs_in_order depth hall → k < length pairs → p ≡ get_or pairs k p → p ≡ pair_at depth hall k
pair-read depth hall pairs k p is lt read = read ∙ get_or_default pairs k p (0, 0) lt ∙ ap (λ (ps : List (ℕ × ℕ)). get_or ps k (0, 0)) is

-- the first k pairs have their entries
pub record IsFilled (sign : Sign) (depth : ℕ) (hall : List Member) (m : BTreeMap (ℕ × ℕ) (List Term)) (k : ℕ) : Type 0 where
  -- each of the first k pairs has its entry
  pub entries : (i : ℕ) → i < k → stored m ((pair_at depth hall i).0) ((pair_at depth hall i).1) ≡ entry_of sign depth hall ((pair_at depth hall i).0) ((pair_at depth hall i).1)
  -- what is no pair has none
  pub others : (a b : ℕ) → (IsPair depth hall a b → ⊥) → stored m a b ≡ []
  -- each entry has members of the list and a size of at most 2 ^ 40
  pub small : AreSmall (length hall) m

-- both tables have the first k pairs, none of which is heavy
pub record IsBuilt (depth : ℕ) (hall : List Member) (majorants brackets : BTreeMap (ℕ × ℕ) (List Term)) (k : ℕ) : Type 0 where
  -- the majorants
  pub majorants_filled : IsFilled Plus depth hall majorants k
  -- the brackets
  pub brackets_filled : IsFilled Minus depth hall brackets k
  -- none of these pairs has a majorant above 2 ^ 40
  pub light : (i : ℕ) → i < k → is_heavy depth hall (pair_at depth hall i) ≡ false

-- all pairs before the k-th one are done
pub filled-done : (sign : Sign) (depth : ℕ) (hall : List Member) → IsHall depth hall → (m : BTreeMap (ℕ × ℕ) (List Term)) (k : ℕ) → k < length (pairs_in_order depth hall) → IsFilled sign depth hall m k
    → AreDone sign depth hall m ((pair_at depth hall k).0) ((pair_at depth hall k).1)
filled-done sign depth hall ok m k lt filled c d pair early =
    earlier-each (λ x y. stored m x y ≡ entry_of sign depth hall x y) depth hall ok k (0, 0) lt filled.entries c d pair early

-- the k-th pair is one of members whose degrees add up to at most the depth
pub pair-valid : (depth : ℕ) (hall : List Member) (k : ℕ) → k < length (pairs_in_order depth hall) → IsPair depth hall ((pair_at depth hall k).0) ((pair_at depth hall k).1)
pair-valid depth hall k lt = pairs-valid depth hall k (0, 0) lt

-- one more entry
pub filled-next : (sign : Sign) (depth : ℕ) (hall : List Member) → (old new : BTreeMap (ℕ × ℕ) (List Term)) (k a b : ℕ) (z : List Term) → k < length (pairs_in_order depth hall) → IsFilled sign depth hall old k
    → (a, b) ≡ pair_at depth hall k → z ≡ entry_of sign depth hall a b → sizes z ≤ 2 ^ 40 → stored new a b ≡ z → ((c d : ℕ) → (a ≡ c → b ≡ d → ⊥) → stored new c d ≡ stored old c d)
    → IsFilled sign depth hall new (k + 1)
filled-next sign depth hall old new k a b z lt filled here is light same rest =
    let ea : a ≡ (pair_at depth hall k).0 = ap (λ (p : ℕ × ℕ). p.0) here in
    let eb : b ≡ (pair_at depth hall k).1 = ap (λ (p : ℕ × ℕ). p.1) here in
    let valid : IsPair depth hall a b = subst (λ (p : ℕ × ℕ). IsPair depth hall (p.0) (p.1)) (sym here) (pair-valid depth hall k lt) in
    record {
      entries = λ i l.
          elim (cases_eq i k) [
            | inl e ↦
                subst (λ (p : ℕ × ℕ). stored new (p.0) (p.1) ≡ entry_of sign depth hall (p.0) (p.1)) (here ∙ ap (pair_at depth hall) (sym e)) (same ∙ is)
            | inr ne ↦
                let p : ℕ × ℕ = pair_at depth hall i in
                let early : IsEarlier hall (p.0) (p.1) ((pair_at depth hall k).0) ((pair_at depth hall k).1) = pairs-ordered depth hall i k (0, 0) (omega arith) lt in
                rest (p.0) (p.1)
                (λ e f.
                let both : IsEarlier hall (p.0) (p.1) (p.0) (p.1) = subst (λ (x : ℕ). IsEarlier hall (p.0) (p.1) x (p.1)) (sym ea ∙ e) (subst (λ (y : ℕ). IsEarlier hall (p.0) (p.1) ((pair_at depth hall k).0) y) (sym eb ∙ f) early) in
                not-both hall (p.0) (p.1) (p.0) (p.1) both both)
                ∙ filled.entries i (omega arith)
          ];
      others = λ c d no-pair. rest c d (λ e f. no-pair (subst (λ (x : ℕ). IsPair depth hall x d) e (subst (λ (y : ℕ). IsPair depth hall a y) f valid))) ∙ filled.others c d no-pair;
      small = λ c d.
          elim (cases_eq a c) [
            | inl e ↦ elim (cases_eq b d) [
              | inl f ↦
                  subst (λ (ts : List Term). Numbers (length hall) ts × (sizes ts ≤ 2 ^ 40)) (sym (ap₂ (stored new) (sym e) (sym f) ∙ same))
                  (subst (Numbers (length hall)) (sym is) (nonzero-Numbers (length hall) (λ h. coefficient h (bracket_by sign depth hall a b))), light)
              | inr nf ↦ subst (λ (ts : List Term). Numbers (length hall) ts × (sizes ts ≤ 2 ^ 40)) (sym (rest c d (λ x y. nf y))) (filled.small c d)
            ]
            | inr ne ↦ subst (λ (ts : List Term). Numbers (length hall) ts × (sizes ts ≤ 2 ^ 40)) (sym (rest c d (λ x y. ne x))) (filled.small c d)
          ];
    }

-- ---- masses
mass-size : (depth : ℕ) (hall : List Member) → IsHall depth hall → (a b : ℕ) (z : List Term) → IsPair depth hall a b → z ≡ entry_of Plus depth hall a b → sizes z ≡ unsigned_abs (mass (majorant depth hall a b))
mass-size depth hall ok a b z pair is = ap sizes is ∙ sizes-majorant depth hall a b (bracket_by-Numbers Minus depth hall ok a b pair.left pair.right)

-- an entry of a majorant above 2 ^ 40 makes its pair heavy
pub heavy-size : (depth : ℕ) (hall : List Member) → IsHall depth hall → (a b : ℕ) (z : List Term) → IsPair depth hall a b → z ≡ entry_of Plus depth hall a b → (sizes z ≤ 2 ^ 40 → ⊥) → is_heavy depth hall (a, b) ≡ true
heavy-size depth hall ok a b z pair is past = lt-ltb (2 ^ 40) (unsigned_abs (mass (majorant depth hall a b))) (omega (arith, mass-size depth hall ok a b z pair is))

-- and one up to 2 ^ 40 doesn't
pub light-size : (depth : ℕ) (hall : List Member) → IsHall depth hall → (a b : ℕ) (z : List Term) → IsPair depth hall a b → z ≡ entry_of Plus depth hall a b → sizes z ≤ 2 ^ 40 → is_heavy depth hall (a, b) ≡ false
light-size depth hall ok a b z pair is small = le-ltb (2 ^ 40) (unsigned_abs (mass (majorant depth hall a b))) (omega (arith, mass-size depth hall ok a b z pair is))

-- the bracket's entry is then at most 2 ^ 40, too
pub bracket-size : (depth : ℕ) (hall : List Member) → IsHall depth hall → (a b : ℕ) (z y : List Term) → IsPair depth hall a b → z ≡ entry_of Plus depth hall a b → sizes z ≤ 2 ^ 40 → y ≡ entry_of Minus depth hall a b → sizes y ≤ 2 ^ 40
bracket-size depth hall ok a b z y pair is small is-bracket =
    omega (arith, ap sizes is-bracket, mass-size depth hall ok a b z pair is, sizes-bracket depth hall a b (bracket_by-Numbers Minus depth hall ok a b pair.left pair.right))

-- the whole list
filled-table : (sign : Sign) (depth : ℕ) (hall : List Member) → IsHall depth hall → (m : BTreeMap (ℕ × ℕ) (List Term)) (k : ℕ) → IsFilled sign depth hall m k → length (pairs_in_order depth hall) ≤ k → IsTable sign depth hall m
filled-table sign depth hall ok m k filled all =
    record {
      entries = λ a b pair.
          pairs-each (λ p. stored m (p.0) (p.1) ≡ entry_of sign depth hall (p.0) (p.1)) depth hall ok
          (All-from_get_or (λ p. stored m (p.0) (p.1) ≡ entry_of sign depth hall (p.0) (p.1)) (pairs_in_order depth hall) (0, 0) (λ i lt. filled.entries i (omega arith))) a b pair;
      others = filled.others;
      small = filled.small;
    }

-- once all pairs are in, the tables are those of the depth
pub built-tables : (depth : ℕ) (hall : List Member) → IsHall depth hall → (majorants brackets : BTreeMap (ℕ × ℕ) (List Term)) (k : ℕ) → IsBuilt depth hall majorants brackets k → length (pairs_in_order depth hall) ≤ k → AreTables depth hall brackets majorants
built-tables depth hall ok majorants brackets k built all =
    record {
      brackets_all = filled-table Minus depth hall ok brackets k built.brackets_filled all;
      majorants_all = filled-table Plus depth hall ok majorants k built.majorants_filled all;
      light = no-heavy_pair depth hall (All-from_get_or (λ p. is_heavy depth hall p ≡ false) (pairs_in_order depth hall) (0, 0) (λ i lt. built.light i (omega arith)));
    }
