use Rattle.law.proofs.Playing.{never_stuck}
use Rattle.law.proofs.never_stuck.Goals as goal

pub returns : goal.returns
returns c = never_stuck
