use Rattle.invariants.proofs.Soundness.{stays_sound}
use Rattle.invariants.proofs.stays_sound.Goals as goal

pub returns : goal.returns
returns c = stays_sound
