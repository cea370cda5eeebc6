use Rattle.piles.proofs.Wholes.{every_pile}
use Rattle.piles.proofs.filled.fill_frames.Goals as goal

pub returns-clause-every : goal.returns-clause-every
returns-clause-every c = every_pile
