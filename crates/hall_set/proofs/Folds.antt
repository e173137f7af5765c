-- Values of members by those of their parents: the equations of expansions and texts.
use Rattle.std.proofs.Common.{◌≡◌, ℕ, zero, suc, ◌+◌, ◌-◌, ◌≤◌, refl, ap, ap₂, ◌∙◌, arith, List, ◌++◌, append_assoc}
use Rattle.std.specs.Prelude.{codes}
use Rattle.std.specs.Fmt.{decimal}
use Rattle.definitions.specs.Commutators.{letter, commutator}
use Rattle.definitions.specs.Hall.{InHall, member, degree, degree_of, folded_with, folded, expansion, bracketed, text_of}
use Rattle.definitions.specs.declared.member.Member.{Member}
use Rattle.definitions.specs.declared.member.Member.TheVariants.{Letter, Pair}
use Rattle.hall_set.proofs.GrownLists.{IsHall, IsPairOf}

-- enough steps, and other enough steps
abbrev SameFrom : {A : Type 0} → List Member → ℕ → ℕ → (ℕ → A) → (ℕ → A) → Type 0
SameFrom hall n k f g = (h : ℕ) → InHall hall h → degree hall h ≤ n → degree hall h ≤ k → f h ≡ g h

-- once the parents of a member have their values, going down further changes nothing
with-same : {A : Type 0} (of_letter : ℕ → A) (of_pair : A → A → A) (depth : ℕ) (hall : List Member) (n k : ℕ) (f g : ℕ → A) → IsHall depth hall → SameFrom hall n k f g
    → (h : ℕ) (m : Member) → InHall hall h → member hall h ≡ m → degree hall h ≤ suc n → degree hall h ≤ suc k → folded_with of_letter of_pair f h m ≡ folded_with of_letter of_pair g h m
with-same of_letter of_pair depth hall n k f g ok same h Letter inside e le le' = refl
with-same of_letter of_pair depth hall n k f g ok same h (Pair d i j) inside e le le' =
    let p : IsPairOf hall h d i j = ok.pairs h d i j inside e in
    let sum : degree hall h ≡ degree hall i + degree hall j = ap degree_of e ∙ p.sum in
    let di : 1 ≤ degree hall i = ok.positive i p.left_in in
    let dj : 1 ≤ degree hall j = ok.positive j p.right_in in
    ap₂ of_pair (same i p.left_in (omega arith) (omega arith)) (same j p.right_in (omega arith) (omega arith))

folded-same : {A : Type 0} (of_letter : ℕ → A) (of_pair : A → A → A) (depth : ℕ) (hall : List Member) → IsHall depth hall → (n k : ℕ) → SameFrom hall n k (folded of_letter of_pair hall n) (folded of_letter of_pair hall k)
folded-same of_letter of_pair depth hall ok zero k h inside le le' = absurd (omega (arith, ok.positive h inside))
folded-same of_letter of_pair depth hall ok (suc n) zero h inside le le' = absurd (omega (arith, ok.positive h inside))
folded-same of_letter of_pair depth hall ok (suc n) (suc k) h inside le le' =
    with-same of_letter of_pair depth hall n k (folded of_letter of_pair hall n) (folded of_letter of_pair hall k) ok (folded-same of_letter of_pair depth hall ok n k) h (member hall h) inside refl le le'

-- what a fold gives for a member
abbrev value : {A : Type 0} → (ℕ → A) → (A → A → A) → List Member → ℕ → A
value of_letter of_pair hall h = folded of_letter of_pair hall (degree hall h) h

value-letter : {A : Type 0} (of_letter : ℕ → A) (of_pair : A → A → A) (hall : List Member) (h : ℕ) → member hall h ≡ Letter → value of_letter of_pair hall h ≡ of_letter h
value-letter of_letter of_pair hall h e =
    ap (λ (n : ℕ). folded of_letter of_pair hall n h) (ap degree_of e) ∙ ap (folded_with of_letter of_pair of_letter h) e

value-pair : {A : Type 0} (of_letter : ℕ → A) (of_pair : A → A → A) (depth : ℕ) (hall : List Member) → IsHall depth hall → (h n i j : ℕ) → InHall hall h → member hall h ≡ Pair n i j
    → value of_letter of_pair hall h ≡ of_pair (value of_letter of_pair hall i) (value of_letter of_pair hall j)
value-pair of_letter of_pair depth hall ok h n i j inside e =
    let p : IsPairOf hall h n i j = ok.pairs h n i j inside e in
    let sum : degree hall h ≡ degree hall i + degree hall j = ap degree_of e ∙ p.sum in
    let di : 1 ≤ degree hall i = ok.positive i p.left_in in
    let dj : 1 ≤ degree hall j = ok.positive j p.right_in in
    let steps : degree hall h ≡ suc (degree hall h - 1) = omega arith in
    ap (λ (k : ℕ). folded of_letter of_pair hall k h) steps
    ∙ ap (folded_with of_letter of_pair (folded of_letter of_pair hall (degree hall h - 1)) h) e
    ∙ ap₂ of_pair
    (folded-same of_letter of_pair depth hall ok (degree hall h - 1) (degree hall i) i p.left_in (omega arith) (omega arith))
    (folded-same of_letter of_pair depth hall ok (degree hall h - 1) (degree hall j) j p.right_in (omega arith) (omega arith))

-- ---- expansions
-- a letter expands to itself
pub expansion-letter : (hall : List Member) (h : ℕ) → member hall h ≡ Letter → expansion hall h ≡ letter h
unfolding expansion
expansion-letter hall h e = value-letter letter commutator hall h e

-- a pair expands to the commutator of the expansions of its parents
pub expansion-pair : (depth : ℕ) (hall : List Member) → IsHall depth hall → (h n i j : ℕ) → InHall hall h → member hall h ≡ Pair n i j → expansion hall h ≡ commutator (expansion hall i) (expansion hall j)
unfolding expansion
expansion-pair depth hall ok h n i j inside e = value-pair letter commutator depth hall ok h n i j inside e

-- ---- texts
-- the text of a letter is its number in decimals
pub text_of-letter : (hall : List Member) (h : ℕ) → member hall h ≡ Letter → text_of hall h ≡ decimal h
unfolding text_of
text_of-letter hall h e = value-letter decimal bracketed hall h e

-- the text of a pair is [x,y] for the texts of its parents
pub text_of-pair : (depth : ℕ) (hall : List Member) → IsHall depth hall → (h n i j : ℕ) → InHall hall h → member hall h ≡ Pair n i j → text_of hall h ≡ bracketed (text_of hall i) (text_of hall j)
unfolding text_of
text_of-pair depth hall ok h n i j inside e = value-pair decimal bracketed depth hall ok h n i j inside e

-- the text of a pair in its pieces
pub text-joined : (text a b c d e x y : List ℕ) → a ≡ text ++ codes "[" → b ≡ a ++ x → c ≡ b ++ codes "," → d ≡ c ++ y → e ≡ d ++ codes "]" → e ≡ text ++ bracketed x y
text-joined text a b c d e x y ea eb ec ed ee = rw (ee, ed, ec, eb, ea) (simp append_assoc)
