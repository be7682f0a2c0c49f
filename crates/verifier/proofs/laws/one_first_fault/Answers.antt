use Rattle.verifier.proofs.Faults.{one_fault}
use Rattle.verifier.proofs.laws.one_first_fault.Goals as goal

pub returns : goal.returns
returns c = one_fault
