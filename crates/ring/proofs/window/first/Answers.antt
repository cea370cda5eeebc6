use Rattle.ring.proofs.Turns.{heads}
use Rattle.ring.proofs.window.first.Goals as goal

pub returns : goal.returns
returns g c =
    let x = c.index-places-turn.result in
    heads c.args.places.now c.args.window x c.in_ok-turn.turn c.in_ok-turn.ensures c.index-places-turn.is
