use Rattle.law.proofs.EveryRun.{every_run}
use Rattle.law.proofs.law_stands.Goals as goal

pub returns : goal.returns
returns c = every_run
