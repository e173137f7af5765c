-- One member more, as the loops of the growth meet it.
use Rattle.std.proofs.Common.{◌≡◌, inl, inr, ℕ, zero, suc, ◌+◌, ◌-◌, ◌≤◌, ◌<◌, sym, ap, ap₂, ◌∙◌, arith, List, [], ◌∷◌, ◌++◌, length, length-append, get_or, cond, append_assoc}
use Rattle.std.specs.Prelude.{Bool, true, false, eqb, map, flat_map, filter}
use Rattle.std.proofs.Math.Nat.{eq-or-lt_of_le, le_trans}
use Rattle.std.proofs.lemmas.Bool.{eq-eqb, ne_eqb}
use Rattle.std.proofs.lemmas.List.{append-nil, get_or_default}
use Rattle.std.proofs.lemmas.List.Elements.{filter-append}
use Rattle.std.proofs.lemmas.List.Concat.{flat_map-append}
use Rattle.definitions.specs.Words.{Extent, IsShape, up_to}
use Rattle.definitions.specs.Hall.{degree, degree_of, is_taken, pairs_with, pairs_of, grown}
use Rattle.definitions.specs.declared.member.Member.{Member}
use Rattle.definitions.specs.declared.member.Member.TheVariants.{Letter, Pair}
use Rattle.hall_set.proofs.Sizes.{hall_list-short}

-- of the first k members those of degree e
abbrev pub of_degree_below : List Member → ℕ → ℕ → List ℕ
of_degree_below hall e k = filter (λ h. eqb (degree hall h) e) (up_to k)

-- the pairs with the first k members on the right
abbrev pub pairs_with_below : List Member → ℕ → ℕ → ℕ → ℕ → List Member
pairs_with_below hall n e i k = map (Pair n i) (filter (is_taken hall i) (of_degree_below hall e k))

-- the pairs with the first k members on the left
abbrev pub pairs_from_below : List Member → ℕ → ℕ → ℕ → List Member
pairs_from_below hall n e k = flat_map (pairs_with hall n (n - e)) (of_degree_below hall e k)

of_degree_below-next : (hall : List Member) (e k : ℕ) → of_degree_below hall e (suc k) ≡ of_degree_below hall e k ++ cond (eqb (degree_of (get_or hall k (Pair 0 0 0))) e) (suc k ∷ []) []
of_degree_below-next hall e k = filter-append (λ h. eqb (degree hall h) e) (up_to k) (suc k ∷ [])

-- one more member of degree e
pub pairs_from-take : (hall : List Member) (n e k degree : ℕ) (start items more : List Member) → k < length hall → degree ≡ degree_of (get_or hall k Letter) → degree ≡ e
    → items ≡ start ++ pairs_from_below hall n e k → more ≡ items ++ pairs_with hall n (n - e) (k + 1) → more ≡ start ++ pairs_from_below hall n e (k + 1)
pairs_from-take hall n e k degree start items more lt ed same before next =
    let f : ℕ → List Member = pairs_with hall n (n - e) in
    let one : k + 1 ≡ suc k = omega arith in
    let here : eqb (degree_of (get_or hall k (Pair 0 0 0))) e ≡ true = eq-eqb (degree_of (get_or hall k (Pair 0 0 0))) e (ap degree_of (get_or_default hall k (Pair 0 0 0) Letter lt) ∙ sym ed ∙ same) in
    let taken : of_degree_below hall e (k + 1) ≡ of_degree_below hall e k ++ suc k ∷ [] =
    ap (of_degree_below hall e) one ∙ of_degree_below-next hall e k ∙ ap (λ (b : Bool). of_degree_below hall e k ++ cond b (suc k ∷ []) []) here in
    next
    ∙ ap₂ ◌++◌ before (ap f one)
    ∙ append_assoc start (pairs_from_below hall n e k) (f (suc k))
    ∙ ap (λ (x : List Member). start ++ x)
    (sym (ap (flat_map f) taken ∙ flat_map-append f (of_degree_below hall e k) (suc k ∷ []) ∙ ap (λ (x : List Member). pairs_from_below hall n e k ++ x) (append-nil (f (suc k)))))

-- a member of another degree
pub pairs_from-pass : (hall : List Member) (n e k degree : ℕ) (start items : List Member) → k < length hall → degree ≡ degree_of (get_or hall k Letter) → (degree ≡ e → ⊥)
    → items ≡ start ++ pairs_from_below hall n e k → items ≡ start ++ pairs_from_below hall n e (k + 1)
pairs_from-pass hall n e k degree start items lt ed other before =
    let f : ℕ → List Member = pairs_with hall n (n - e) in
    let one : k + 1 ≡ suc k = omega arith in
    let here : eqb (degree_of (get_or hall k (Pair 0 0 0))) e ≡ false =
    ne_eqb (degree_of (get_or hall k (Pair 0 0 0))) e (λ s. other (ed ∙ ap degree_of (get_or_default hall k Letter (Pair 0 0 0) lt) ∙ s)) in
    let passed : of_degree_below hall e (k + 1) ≡ of_degree_below hall e k =
    ap (of_degree_below hall e) one ∙ of_degree_below-next hall e k ∙ ap (λ (b : Bool). of_degree_below hall e k ++ cond b (suc k ∷ []) []) here ∙ append-nil (of_degree_below hall e k) in
    before ∙ ap (λ (x : List Member). start ++ x) (sym (ap (flat_map f) passed))

grown-longer : (width k n : ℕ) → k ≤ n → length (grown width k) ≤ length (grown width n)
grown-longer width k zero le = let e : k ≡ zero = omega arith in rw e (omega arith)
grown-longer width k (suc n) le =
    elim (eq-or-lt_of_le le) [
      | inl e ↦ rw e (omega arith)
      | inr l ↦ omega (arith, grown-longer width k n (omega arith), length-append (grown width n) (pairs_of (grown width n) (suc (suc n))))
    ]

-- no list has more than 1024 members while it is grown
pub grown-short : (extent : Extent) (k : ℕ) → IsShape extent → k ≤ extent.depth - 1 → length (grown extent.width k) ≤ 1024
grown-short extent k shape le = le_trans (grown-longer extent.width k (extent.depth - 1) le) (hall_list-short extent shape)

-- the pairs of one more degree
pub grown-more : (width k : ℕ) (hall earlier pairs more : List Member) → 1 ≤ k → hall ≡ grown width (k - 1) → earlier ≡ hall → pairs ≡ pairs_of earlier (k + 1) → more ≡ hall ++ pairs → more ≡ grown width (k + 1 - 1)
grown-more width k hall earlier pairs more some before same new all =
    let next : k + 1 ≡ suc (suc (k - 1)) = omega arith in
    let last : k + 1 - 1 ≡ suc (k - 1) = omega arith in
    all ∙ ap₂ ◌++◌ before (new ∙ ap₂ pairs_of (same ∙ before) next) ∙ sym (ap (grown width) last)
