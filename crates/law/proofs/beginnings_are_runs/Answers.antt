use Rattle.law.proofs.Playing.{beginnings}
use Rattle.law.proofs.beginnings_are_runs.Goals as goal

pub returns : goal.returns
returns c = beginnings
