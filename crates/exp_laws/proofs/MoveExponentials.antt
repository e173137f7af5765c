-- The laws of exponentials and logarithms, of moves.
use Rattle.std.proofs.Common.{◌≡◌, ℕ, suc, ◌*◌, ◌≤◌, refl, ap, ap₂, ◌∙◌, arith, ℤ, pos, ◌+ℤ◌, ◌*ℤ◌, neg_ℤ, List, [], ◌∷◌, length, map, take, drop}
use Rattle.std.proofs.lemmas.Int.{ints}
use Rattle.std.proofs.lemmas.List.{length-map}
use Rattle.definitions.specs.Words.{factorial}
use Rattle.definitions.specs.Products.{unit, scaled_product}
use Rattle.definitions.specs.Hall.{hall_list, of_degree, expansion}
use Rattle.definitions.specs.Exponentials.{exponential}
use Rattle.definitions.specs.Moves.{Parts, first_part, part_series, parts_series, lie_series, step}
use Rattle.definitions.specs.Signature.{signature}
use Rattle.definitions.specs.Logarithm.{lcm_to, logarithm}
use Rattle.definitions.specs.declared.member.Member.{Member}
use Rattle.definitions.proofs.ProductLaws.{scaled_product-same, scaled_product-unit_left}
use Rattle.shuffle.proofs.DualLaws.{neg-mul}
use Rattle.lie_steps.proofs.Primitives.{primitive-empty}
use Rattle.lie_steps.proofs.LieSeries.{lie_series-primitive}
use Rattle.exp_log.proofs.LogarithmsOnShuffles.{signature-IsGrouplike}
use Rattle.exp_log.proofs.PowerBounds.{IsClosed, logarithm-same}
use Rattle.exp_laws.specs.Opposites.{opposite}
use Rattle.exp_laws.specs.Unfolded.{unfolded}
use Rattle.exp_laws.proofs.Inverses.{negated, exponential-inverse}
use Rattle.exp_laws.proofs.LogarithmOfExponential.{logarithm-exponential}
use Rattle.exp_laws.proofs.UnfoldedLaws.{unfolded-logarithm}

-- ---- one move
step-exponential : (parts : Parts) (w : List ℕ) → step parts w ≡ exponential (lie_series parts) w
unfolding step
step-exponential parts w = refl

signature-one : (parts : Parts) (w : List ℕ) → signature (parts ∷ []) w ≡ exponential (lie_series parts) w
unfolding signature
signature-one parts w = scaled_product-unit_left (step parts) w ∙ step-exponential parts w

any-closed : IsClosed (λ w. Unit {0})
any-closed = record { front = λ n w is. tt; back = λ n w is. tt }

-- the logarithm of one move is its Lie element
pub logarithm-one : (parts : Parts) (w : List ℕ) → 1 ≤ length w → length w ≤ 8
    → logarithm (signature (parts ∷ [])) w ≡ pos (factorial (length w) * lcm_to (length w)) *ℤ lie_series parts w
logarithm-one parts w some small =
    logarithm-same (λ u. Unit {0}) (signature (parts ∷ [])) (exponential (lie_series parts)) any-closed (λ u is. signature-one parts u) w tt
    ∙ logarithm-exponential (lie_series parts) (primitive-empty (lie_series parts) (lie_series-primitive parts)) w some small

-- ---- a move and its opposite
negated-cell : (x e p : ℤ) → (neg_ℤ x *ℤ e) +ℤ neg_ℤ p ≡ neg_ℤ ((x *ℤ e) +ℤ p)
negated-cell x e p = omega (arith, ints, neg-mul x e)

part-negated : (hall : List Member) (hs : List ℕ) (xs : List ℤ) (w : List ℕ) → part_series hall hs (map neg_ℤ xs) w ≡ neg_ℤ (part_series hall hs xs w)
part-negated hall [] xs w = refl
part-negated hall (h ∷ hs) [] w = refl
part-negated hall (h ∷ hs) (x ∷ xs) w =
    ap (λ (p : ℤ). (neg_ℤ x *ℤ expansion hall h w) +ℤ p) (part-negated hall hs xs w) ∙ negated-cell x (expansion hall h w) (part_series hall hs xs w)

parts-negated : (hall : List Member) (j : ℕ) (parts : Parts) (w : List ℕ) → parts_series hall j (opposite parts) w ≡ neg_ℤ (parts_series hall j parts w)
parts-negated hall j [] w = refl
parts-negated hall j (part ∷ parts) w =
    let x : ℤ = part_series hall (of_degree hall j) part w in
    let y : ℤ = parts_series hall (suc j) parts w in
    ap₂ ◌+ℤ◌ (part-negated hall (of_degree hall j) part w) (parts-negated hall (suc j) parts w) ∙ (let e : neg_ℤ x +ℤ neg_ℤ y ≡ neg_ℤ (x +ℤ y) = omega (arith, ints) in e)

first-length : (parts : Parts) → length (first_part (opposite parts)) ≡ length (first_part parts)
first-length [] = refl
first-length (part ∷ parts) = length-map part neg_ℤ

-- the Lie element of the opposite move is the negated one
pub lie_series-opposite : (parts : Parts) (w : List ℕ) → lie_series (opposite parts) w ≡ negated (lie_series parts) w
unfolding lie_series
lie_series-opposite parts w =
    ap₂ (λ (m n : ℕ). parts_series (hall_list m n) 1 (opposite parts) w) (first-length parts) (length-map parts (λ part. map neg_ℤ part))
    ∙ parts-negated (hall_list (length (first_part parts)) (length parts)) 1 parts w

same-series : (s t : List ℕ → ℤ) → ((w : List ℕ) → s w ≡ t w) → s ≡ t
same-series s t same = λ i. λ w. same w i

-- a move and then its opposite are no move
pub signature-opposite : (parts : Parts) (w : List ℕ) → 1 ≤ length w → signature (parts ∷ opposite parts ∷ []) w ≡ pos 0
unfolding signature
signature-opposite parts w some =
    let z : List ℕ → ℤ = lie_series parts in
    let back : lie_series (opposite parts) ≡ negated z = same-series (lie_series (opposite parts)) (negated z) (lie_series-opposite parts) in
    scaled_product-same (scaled_product unit (step parts)) (exponential z) (step (opposite parts)) (exponential (negated z)) w
    (λ i h. scaled_product-unit_left (step parts) (take i w) ∙ step-exponential parts (take i w))
    (λ i h. step-exponential (opposite parts) (drop i w) ∙ ap (λ (y : List ℕ → ℤ). exponential y (drop i w)) back)
    ∙ exponential-inverse z (primitive-empty z (lie_series-primitive parts)) w some

-- ---- the inverse of the logarithm
pub unfolded-signature : (moves : List Parts) (n : ℕ) (w : List ℕ) → length w ≤ n → unfolded (logarithm (signature moves)) n w ≡ signature moves w
unfolded-signature moves n w h = unfolded-logarithm (signature moves) (signature-IsGrouplike moves).starts n w h
