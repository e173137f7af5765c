use Rattle.std.proofs.Common.{◌≡◌, ◌≤◌, ◌*◌, sym, subst, List, ℤ}
use Rattle.std.proofs.lemmas.Result.{IfOk-weaker}
use Rattle.functionals.specs.declared.term.WordTerm.{WordTerm}
use Rattle.functionals.specs.Functionals.{IsFunctional, norm, shuffled, collected}
use Rattle.functionals.specs.Tables.{IsTableOf}
use Rattle.functionals.proofs.Rising.{table-functional, table-norm}
use Rattle.functionals.proofs.product.product_terms.Goals as goal

pub returns-clause-functional : goal.returns-clause-functional
returns-clause-functional c =
    let table : IsTableOf c.args.shape c.deref.result.now (shuffled c.args.f.now c.args.g.now) =
    subst (λ (sums : List ℤ). IsTableOf c.args.shape sums (shuffled c.args.f.now c.args.g.now)) (sym c.deref.ensures.value) c.in_ok-sums.ensures.table in
    IfOk-weaker c.collect.result (λ list. (terms : List WordTerm) → IsTableOf c.args.shape c.deref.result.now terms → list.items ≡ collected c.args.shape terms) (λ list. IsFunctional c.args.shape list.items)
    (λ list. table-functional c.args.shape c.deref.result.now c.args.f.now c.args.g.now list.items c.requires.first c.requires.second c.requires.reach c.requires.norm table) c.collect.ensures

pub returns-clause-norm : goal.returns-clause-norm
returns-clause-norm c =
    let table : IsTableOf c.args.shape c.deref.result.now (shuffled c.args.f.now c.args.g.now) =
    subst (λ (sums : List ℤ). IsTableOf c.args.shape sums (shuffled c.args.f.now c.args.g.now)) (sym c.deref.ensures.value) c.in_ok-sums.ensures.table in
    IfOk-weaker c.collect.result (λ list. (terms : List WordTerm) → IsTableOf c.args.shape c.deref.result.now terms → list.items ≡ collected c.args.shape terms) (λ list. norm list.items ≤ 70 * (norm c.args.f.now * norm c.args.g.now))
    (λ list. table-norm c.args.shape c.deref.result.now c.args.f.now c.args.g.now list.items c.requires.first c.requires.second c.requires.reach table) c.collect.ensures
