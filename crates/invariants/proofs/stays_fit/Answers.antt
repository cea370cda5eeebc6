use Rattle.invariants.proofs.Fitness.{stays_fit}
use Rattle.invariants.proofs.stays_fit.Goals as goal

pub returns : goal.returns
returns c = stays_fit
