use Rattle.std.proofs.Common.{◌≡◌, ◌∙◌, ◌++◌, ◌∷◌, [], List, ℕ, map, flat_map, string_bytes, sym, ap, rules, arith}
use Rattle.std.specs.List.{join_with_byte}
use Rattle.std.proofs.lemmas.List.{append-nil, take_all, append_assoc}
use Rattle.answers.proofs.decimals.push_joined.Goals as goal

-- a comma before each text but the first
texts-joined : {A : Type 0} (f : A → List ℕ) (a : A) (rest : List A) → join_with_byte 44 (map f (a ∷ rest)) ≡ f a ++ flat_map (λ b. 44 ∷ f b) rest
texts-joined f a [] = sym (append-nil (f a))
texts-joined f a (b ∷ rest) = ap (λ texts. f a ++ 44 ∷ texts) (texts-joined f b rest)

pub returns : goal.returns
returns g c =
    let f = g.I.Integer.text in
    let whole : c.args.numbers.now ≡ c.in-Some.first.now ∷ c.in-Some.rest.now = search rules in
    rw whole (rw (texts-joined f c.in-Some.first.now c.in-Some.rest.now) (c.loop-number.invariant
    ∙ ap (λ t. string_bytes c.push_number.new.text ++ flat_map (λ a. 44 ∷ f a) t) (take_all c.loop-number.number-index c.in-Some.rest.now (omega arith))
    ∙ ap (λ (t : List ℕ). t ++ flat_map (λ a. 44 ∷ f a) c.in-Some.rest.now) c.in_ok-push_number.ensures
    ∙ append_assoc (string_bytes c.args.text.now) (f c.in-Some.first.now) (flat_map (λ a. 44 ∷ f a) c.in-Some.rest.now)))
