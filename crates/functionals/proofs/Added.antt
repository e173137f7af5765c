-- Adding terms to a table, and the shuffles of two words behind a prefix.
use Rattle.std.proofs.Common.{inl, inr, Bool, cond, ◌<◌, set, length-set, get_or-set_same, get_or-set_other, ◌≡◌, ℕ, refl, sym, ap, ap₂, ◌∙◌, arith, ℤ, pos, ◌+ℤ◌, List, [], ◌∷◌, ◌++◌, length, map, get_or}
use Rattle.std.proofs.lemmas.Int.{ints}
use Rattle.std.proofs.lemmas.List.{append_assoc, map-append}
use Rattle.std.specs.Str.{bytes_eq}
use Rattle.std.proofs.lemmas.Bool.{cases_Bool, false≢true}
use Rattle.std.proofs.lemmas.Slice.Eq.{bytes_eq-Decides}
use Rattle.definitions.proofs.WordLaws.{place-injective}
use Rattle.definitions.specs.Words.{Extent, IsWord}
use Rattle.definitions.specs.Shuffles.{shuffles}
use Rattle.functionals.specs.declared.term.WordTerm.{WordTerm}
use Rattle.scaled_tensor.specs.Tensors.{place}
use Rattle.functionals.specs.Functionals.{behind}
use Rattle.functionals.specs.Tables.{IsAdded}
use Rattle.functionals.proofs.ProductNorms.{coefficient_at-append}

-- terms added one list after the other are added together
pub added-both : (extent : Extent) (old mid new : List ℤ) (f g : List WordTerm) → IsAdded extent old mid f → IsAdded extent mid new g → IsAdded extent old new (f ++ g)
added-both extent old mid new f g a b = record {
  same_length = b.same_length ∙ a.same_length;
  added = λ word is. omega (arith, ints, a.added word is, b.added word is, coefficient_at-append f g word);
}

behind-cons : (p : List ℕ) (a : ℕ) (ws : List (List ℕ)) → behind p (map (λ w. a ∷ w) ws) ≡ behind (p ++ a ∷ []) ws
behind-cons p a [] = refl
behind-cons p a (w ∷ ws) = ap₂ (λ (x : List ℕ) (xs : List (List ℕ)). x ∷ xs) (sym (append_assoc p (a ∷ []) w)) (behind-cons p a ws)

-- behind a prefix, the shuffles of two words are those that begin with the first letter of the one and those that begin with the first letter of the other
pub behind-shuffles : (p : List ℕ) (a b : ℕ) (u v : List ℕ) → behind p (shuffles (a ∷ u) (b ∷ v)) ≡ behind (p ++ a ∷ []) (shuffles u (b ∷ v)) ++ behind (p ++ b ∷ []) (shuffles (a ∷ u) v)
behind-shuffles p a b u v =
    map-append (λ w. p ++ w) (map (λ w. a ∷ w) (shuffles u (b ∷ v))) (map (λ w. b ∷ w) (shuffles (a ∷ u) v))
    ∙ ap₂ ◌++◌ (behind-cons p a (shuffles u (b ∷ v))) (behind-cons p b (shuffles (a ∷ u) v))

-- one number is rewritten
pub set-added : (extent : Extent) (sums : List ℤ) (n : ℕ) (z c : ℤ) (word : List ℕ) → IsWord extent word → n ≡ place extent word → n < length sums → z ≡ get_or sums (place extent word) (pos 0) +ℤ c
    → IsAdded extent sums (set sums n z) (record { word = word; coefficient = c } ∷ [])
set-added extent sums n z c word is e here new = record {
  same_length = length-set sums n z;
  added = λ other is_other.
      elim (cases_Bool (bytes_eq word other)) [
        | inl t ↦
            let same : word ≡ other = (bytes_eq-Decides word other).0 t in
            let at : n ≡ place extent other = e ∙ ap (place extent) same in
            ap (λ (i : ℕ). get_or (set sums n z) i (pos 0)) (sym at)
            ∙ get_or-set_same sums n z (pos 0) here
            ∙ new
            ∙ ap (λ (u : List ℕ). get_or sums (place extent u) (pos 0) +ℤ c) same
            ∙ ap (λ (x : ℤ). get_or sums (place extent other) (pos 0) +ℤ x) (sym (ap (λ (b : Bool). cond b c (pos 0) +ℤ pos 0) t ∙ omega (arith, ints)))
        | inr f ↦
            get_or-set_other sums n (place extent other) z (pos 0)
            (λ same. absurd (false≢true (sym f ∙ (bytes_eq-Decides word other).1 (place-injective extent.width word other is.letters is_other.letters (sym (same ∙ e))))))
            ∙ omega (arith, ints, ap (λ (b : Bool). cond b c (pos 0) +ℤ pos 0) f)
      ];
}
