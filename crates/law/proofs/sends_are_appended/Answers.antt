use Rattle.law.proofs.Playing.{appends}
use Rattle.law.proofs.sends_are_appended.Goals as goal

pub returns : goal.returns
returns c = appends
