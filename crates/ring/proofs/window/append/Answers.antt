use Rattle.ring.proofs.Turns.{appends}
use Rattle.ring.proofs.window.append.Goals as goal

pub returns : goal.returns
returns g c = appends c.args.places.now c.args.window c.args.x c.in_ok-turn.turn c.in_ok-turn.ensures
