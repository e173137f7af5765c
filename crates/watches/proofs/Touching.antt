-- The versions that touch an interval, with one edit more.
use Rattle.std.proofs.Common.{◌≡◌, ◌∙◌, ℕ, zero, suc, ◌+◌, ◌-◌, ◌<◌, ◌≤◌, refl, sym, ap, subst, arith, Bool, true, false, cond, List, [], ◌∷◌, ◌++◌, length, get_or, inl, inr, filter}
use Rattle.std.proofs.lemmas.Bool.{cases_lt, cases_Bool}
use Rattle.std.proofs.lemmas.List.{get_or_append_left, get_or_push, length_push}
use Rattle.std.proofs.lemmas.List.Elements.{filter-append, Contains-append_left, Contains-append_right, Contains-push}
use Rattle.std.specs.List.{Contains, range_with_len}
use Rattle.definitions.specs.Rows.{RowValue, lies_in, rows_in}
use Rattle.versions.specs.declared.log.Accepted.{Accepted}
use Rattle.versions.specs.Versions.{LogValue, IsLog, rows_at, touched}
use Rattle.versions.proofs.TouchLaws.{touched-next}
use Rattle.versions.proofs.Untouched.{untouched}
use Rattle.watches.specs.Watches.{touching}

range-more : (a n : ℕ) → range_with_len a (suc n) ≡ range_with_len a n ++ (a + n) ∷ []
range-more a zero = ap (λ x. x ∷ []) (omega arith)
range-more a (suc n) = ap (λ l. a ∷ l) (range-more (a + 1) n ∙ ap (λ x. range_with_len (a + 1) n ++ x ∷ []) (omega arith))

-- a filter looks at the numbers of the range alone
filter-range : (p q : ℕ → Bool) (a n : ℕ) → ((t : ℕ) → a ≤ t → t < a + n → p t ≡ q t) → filter p (range_with_len a n) ≡ filter q (range_with_len a n)
filter-range p q a zero same = refl
filter-range p q a (suc n) same =
    let rest : List ℕ = range_with_len (a + 1) n in
    ap (λ t. cond t (a ∷ filter p rest) (filter p rest)) (same a (omega arith) (omega arith))
    ∙ ap (λ l. cond (q a) (a ∷ l) l) (filter-range p q (a + 1) n (λ t from to. same t (omega arith) (omega arith)))

-- a number of the range that passes
filter-has : (p : ℕ → Bool) (a n v : ℕ) → a ≤ v → v < a + n → p v ≡ true → Contains (filter p (range_with_len a n)) v
filter-has p a zero v from to passes = absurd (omega arith)
filter-has p a (suc n) v from to passes =
    let rest : List ℕ = range_with_len (a + 1) n in
    let split : filter p (a ∷ rest) ≡ filter p (a ∷ []) ++ filter p rest = filter-append p (a ∷ []) rest in
    subst (λ (l : List ℕ). Contains l v) (sym split)
    (elim (cases_lt a v) [
      | inl after ↦ Contains-append_right (filter p (a ∷ [])) (filter p rest) v (filter-has p (a + 1) n v (omega arith) (omega arith) passes)
      | inr upto ↦ (
          let same : v ≡ a = omega arith in
          let one : v ∷ [] ≡ filter p (a ∷ []) = ap (λ x. x ∷ []) same ∙ ap (λ t. cond t (a ∷ []) []) (sym passes ∙ ap p same) in
          Contains-append_left (filter p (a ∷ [])) (filter p rest) v (subst (λ (l : List ℕ). Contains l v) one (Contains-push [] v)))
    ])

module _ (a b : ℕ) where
  touched-earlier : (edits : List Accepted) (e : Accepted) (t : ℕ) → 1 ≤ t → t < 1 + length edits → touched a b (edits ++ e ∷ []) t ≡ touched a b edits t
  touched-earlier edits e t some within =
      let i = t - 1 in
      let next : i + 1 ≡ t = omega arith in
      let more : length (edits ++ e ∷ []) ≡ length edits + 1 = length_push edits e in
      ap (touched a b (edits ++ e ∷ [])) (sym next) ∙ touched-next a b (edits ++ e ∷ []) i e (omega arith)
      ∙ ap (λ (x : Accepted). lies_in a b x.tick) (get_or_append_left edits (e ∷ []) e i (omega arith))
      ∙ sym (touched-next a b edits i e (omega arith)) ∙ ap (touched a b edits) next

  -- one edit more touches the interval where its tick lies in it
  pub touching-pushed : (edits : List Accepted) (e : Accepted) → touching a b (edits ++ e ∷ []) ≡ touching a b edits ++ cond (lies_in a b e.tick) ((length edits + 1) ∷ []) []
  touching-pushed edits e =
      let n = length edits in
      let all : List Accepted = edits ++ e ∷ [] in
      let test : ℕ → Bool = touched a b all in
      let count : length all ≡ suc n = omega (arith, length_push edits e) in
      let next : 1 + n ≡ n + 1 = omega arith in
      let last : test (1 + n) ≡ lies_in a b e.tick =
      ap test next ∙ touched-next a b all n e (omega (arith, length_push edits e)) ∙ ap (λ (x : Accepted). lies_in a b x.tick) (get_or_push edits e e n refl) in
      ap (λ k. filter test (range_with_len 1 k)) count
      ∙ ap (filter test) (range-more 1 n) ∙ filter-append test (range_with_len 1 n) ((1 + n) ∷ [])
      ∙ ap (λ l. l ++ filter test ((1 + n) ∷ [])) (filter-range test (touched a b edits) 1 n (λ t some within. touched-earlier edits e t some within))
      ∙ ap (λ t. touching a b edits ++ cond t ((1 + n) ∷ []) []) last
      ∙ ap (λ k. touching a b edits ++ cond (lies_in a b e.tick) (k ∷ []) []) next

  -- the rows of a version that isn't listed are those of the version before
  pub unlisted-stay : (log : LogValue) (v : ℕ) → IsLog log → 1 ≤ v → v ≤ length log.edits → (Contains (touching a b log.edits) v → ⊥)
      → rows_in a b (rows_at log.edits v) ≡ rows_in a b (rows_at log.edits (v - 1))
  unlisted-stay log v is some within unlisted =
      let passes : touched a b log.edits v ≡ false = elim (cases_Bool (touched a b log.edits v)) [
        | inl touches ↦ absurd (unlisted (filter-has (touched a b log.edits) 1 (length log.edits) v some (omega arith) touches))
        | inr passes ↦ passes
      ] in
      untouched a b log is (v - 1) v (omega arith) within (λ t after upto.
      let same : t ≡ v = omega arith in ap (touched a b log.edits) same ∙ passes)
