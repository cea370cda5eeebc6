use Rattle.invariants.proofs.Earliest.{one_earliest}
use Rattle.invariants.proofs.one_earliest.Goals as goal

pub returns : goal.returns
returns c = one_earliest
