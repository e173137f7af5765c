use Rattle.std.proofs.Common.{◌≡◌, ◌≤◌, ◌∙◌, refl, arith, pos, unsigned_abs, get_or-set_same, get_or-set_other, inl, inr}
use Rattle.std.proofs.lemmas.Bool.{cases_lt}
use Rattle.std.proofs.lemmas.List.Elements.{All-set}
use Rattle.definitions.specs.Signature.{limit}
use Rattle.scaled_tensor.proofs.outer.clear.Goals as goal

pub loop-at-preserved : goal.loop-at-preserved
loop-at-preserved c =
    let at = c.loop-at.at in
    let out = c.loop-at.out in
    record {
      cleared = λ i from h.
          elim (cases_lt i at) [
            | inl before ↦ get_or-set_other out at i (pos 0) (pos 0) (λ same. omega arith) ∙ c.loop-at.invariant.cleared i from before
            | inr after ↦ let same : i ≡ at = omega arith in rw same (get_or-set_same out at (pos 0) (pos 0) (omega (arith, c.requires)))
          ];
      others = λ i h.
          get_or-set_other out at i (pos 0) (pos 0) (λ same. elim h [ inl before ↦ omega arith | inr after ↦ omega arith ])
          ∙ c.loop-at.invariant.others i (elim h [ inl before ↦ inl before | inr after ↦ inr (omega arith) ]);
      ends = inl (omega arith);
      range = λ all. All-set (λ z. unsigned_abs z ≤ limit) out at (pos 0) (omega arith) (c.loop-at.invariant.range all);
    }

pub loop-at-init : goal.loop-at-init
loop-at-init c = record { cleared = λ i from h. absurd (omega arith); others = λ i h. refl; ends = inr refl; range = λ all. all }

pub returns-clause-others : goal.returns-clause-others
returns-clause-others c = λ i h.
    c.loop-at.invariant.others i
    (elim h [
      | inl before ↦ inl before
      | inr after ↦ elim c.loop-at.invariant.ends [ inl within ↦ inr (omega (arith, within, after)) | inr none ↦ elim (cases_lt i c.args.from) [ inl before ↦ inl before | inr from ↦ inr (omega (arith, none, from)) ] ]
    ])
