use Rattle.invariants.proofs.Fitness.{sends_lawful}
use Rattle.invariants.proofs.sends_lawful.Goals as goal

pub returns : goal.returns
returns c = sends_lawful
