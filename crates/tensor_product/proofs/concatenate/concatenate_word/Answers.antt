use Rattle.std.proofs.Common.{◌∙◌, suc, sym, rules, arith, pos, to_z-of_z, FitsSigned, get_or, length}
use mir.Syntax.{w128}
use Rattle.scaled_tensor.specs.Tensors.{coefficient}
use Rattle.tensor_product.specs.Extension.{prefixes_of}
use Rattle.tensor_product.proofs.ConcatenationLaws.{HasPlainRoom-same, plain_sum-same, plain_sum-all}
use Rattle.tensor_product.proofs.concatenate.concatenate_word.Goals as goal

pub sum_over_parts-value-requires-clause-room : goal.sum_over_parts-value-requires-clause-room
sum_over_parts-value-requires-clause-room c =
    HasPlainRoom-same (prefixes_of c.args.a.now c.args.word.now) (λ i. get_or c.read_prefixes.new.values i (pos 0)) (coefficient c.args.b.now) c.args.word.now
    (λ i h. sym (c.read_prefixes.ensures.values i h)) c.requires.room

pub returns-clause-written : goal.returns-clause-written
returns-clause-written c =
    let fits : FitsSigned w128 c.sum_over_parts-value.result = search rules in
    c.set.ensures.written ∙ to_z-of_z fits ∙ c.sum_over_parts-value.ensures.value
    ∙ plain_sum-same (λ i. get_or c.read_prefixes.new.values i (pos 0)) (prefixes_of c.args.a.now c.args.word.now) (coefficient c.args.b.now) c.args.word.now (suc (length c.args.word.now)) (omega arith) c.read_prefixes.ensures.values
    ∙ plain_sum-all (coefficient c.args.a.now) (coefficient c.args.b.now) c.args.word.now
