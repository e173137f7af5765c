use Rattle.std.proofs.Common.{◌≡◌, ◌∙◌, sym, subst}
use Rattle.definitions.specs.Words.{Extent}
use Rattle.definitions.specs.Signature.{Fits}
use Rattle.dynkin_map.specs.Coordinates.{lie_bounds}
use Rattle.basis_cell.specs.Faults.{AreLight}
use Rattle.session.specs.declared.asked.Wanted.{Wanted}
use Rattle.session.specs.declared.asked.Wanted.TheVariants.{Logarithm}
use Rattle.session.specs.Answers.{IsAllowed}
use Rattle.session.proofs.AllowedLaws.{allowed-fits}
use Rattle.session.proofs.value.answer_of.Goals as goal

pub log_signature-requires-clause-fits : goal.log_signature-requires-clause-fits
log_signature-requires-clause-fits c =
    let held : c.get.result.now ≡ c.args.basis.now = c.get.ensures ∙ c.in-Ok.ensures.tables in
    let same : c.args.basis.now ≡ c.dynkin.result.now = sym (c.dynkin.ensures.value ∙ held) in
    let allowed : IsAllowed c.args.basis.now Logarithm c.args.sig.now.weight = subst (λ (wanted : Wanted). IsAllowed c.args.basis.now wanted c.args.sig.now.weight) c.in-Logarithm.is c.requires.allowed in
    subst (λ (extent : Extent). Fits (lie_bounds extent) c.args.sig.now.weight) same
    (allowed-fits c.args.basis.now c.args.sig.now.weight (subst AreLight held c.dynkin.ensures.light) allowed)
