use Rattle.std.proofs.Common.{subst}
use Rattle.definitions.specs.Words.{Extent}
use Rattle.basis_cell.specs.Faults.{IsTablesFault}
use Rattle.basis_cell.proofs.Faults.{images-fault, all-light}
use Rattle.basis_cell.proofs.tables.Tables.build.Goals as goal

pub invariant_of-result : goal.invariant_of-result
invariant_of-result c =
    let hall : Extent = c.in_ok-hall.hall in
    (c.in_ok-brackets.ensures.ok.0, c.in-Ok.ensures.value, all-light hall c.in_ok-brackets.ensures.ok.1 c.in-Ok.ensures.small)

pub returns-in-Err-clause-fault : goal.returns-in-Err-clause-fault
returns-in-Err-clause-fault c =
    let hall : Extent = c.in_ok-hall.hall in
    subst (λ (e : Extent). IsTablesFault e c.in-Err.fault) c.in_ok-hall.ensures (images-fault hall c.in-Err.fault c.in_ok-brackets.ensures.ok.1 c.in-Err.ensures.fault)
