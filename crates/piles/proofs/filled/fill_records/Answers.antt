use Rattle.std.proofs.Common.{◌≡◌, ◌+◌, ◌*◌, length, ap, ◌∙◌, arith}
use Rattle.ring.specs.Queue.{capacity}
use Rattle.reserve.specs.Lies.{reserve_places}
use Rattle.piles.proofs.Wholes.{every_pile}
use Rattle.piles.proofs.filled.fill_records.Goals as goal

pub returns-clause-fills : goal.returns-clause-fills
returns-clause-fills c =
    let ring = c.new-pile.result.below.below in
    let lent = ap capacity (ap (λ s. s.below) c.new-pile.ensures.below ∙ c.new-2.ensures.below) ∙ ap length c.new.ensures.lent in
    let places : capacity ring + reserve_places + reserve_places ≡ length c.args.memory.now + 2 * reserve_places = omega (arith, lent) in
    rw places at c.fill-sent.ensures.fills

pub returns-clause-every : goal.returns-clause-every
returns-clause-every c = every_pile
