use Rattle.invariants.proofs.Fitness.{each_stays_fit}
use Rattle.invariants.proofs.each_stays_fit.Goals as goal

pub returns : goal.returns
returns c = each_stays_fit
