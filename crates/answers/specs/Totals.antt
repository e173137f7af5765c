-- What answers that are kept count together.
use Rattle.std.specs.Prelude.{ℕ, ◌+◌, ◌*◌, ◌^◌, ◌≤◌, map, flat_map, ℤ, pos, ◌+ℤ◌}
use Rattle.definitions.specs.Words.{up_to, words_of}
use Rattle.scaled_tensor.specs.Tensors.{TensorValue, coefficient}
use Rattle.book.specs.declared.step.LookReply.{LookReply}
use Rattle.session.specs.declared.answer.Answer.{Answer}
use Rattle.session.specs.declared.answer.Answer.TheVariants as answers
use Rattle.answers.specs.declared.summary.Totals.{Totals}
use Rattle.answers.specs.Generator.{int_sum, int_mod, hits_in, misses_in, exps_in}

-- the sum of the coefficients of a tensor from level 1 on
abbrev pub tensor_sum : TensorValue → ℤ
tensor_sum t = int_sum (map (coefficient t) (flat_map (words_of t.extent.width) (up_to t.extent.depth)))

-- the totals with the counts of a reply more, and this sum
abbrev pub with_reply : Totals → LookReply → ℕ → Totals
with_reply totals reply sum = record {
  hits = totals.hits + hits_in reply;
  misses = totals.misses + misses_in reply;
  exps = totals.exps + exps_in reply;
  sum = sum;
}

-- the totals with an answer more
abbrev pub with_kept : Totals → Answer → Totals
with_kept totals (answers.Edit reply) = totals
with_kept totals (answers.Sig reply tensor) = with_reply totals reply (int_mod (pos totals.sum +ℤ tensor_sum tensor) (2 ^ 64))
with_kept totals (answers.Log reply lie) = with_reply totals reply (int_mod (pos totals.sum +ℤ int_sum (map (λ t. t.factor) lie)) (2 ^ 64))
with_kept totals (answers.Refused reply) = totals

-- the counts of so many answers more fit 128 bits
pub record HasRoom (answers : ℕ) (totals : Totals) : Type 0 where
  pub hits : totals.hits + answers * 2 ^ 64 ≤ 2 ^ 128
  pub misses : totals.misses + answers * 2 ^ 64 ≤ 2 ^ 128
  pub exps : totals.exps + answers * 2 ^ 64 ≤ 2 ^ 128
