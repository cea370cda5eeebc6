use Rattle.law.proofs.Playing.{known_runs}
use Rattle.law.proofs.known_runs_stand.Goals as goal

pub returns : goal.returns
returns c = known_runs
