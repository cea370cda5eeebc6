use Rattle.std.proofs.Common.{refl}
use Rattle.reserve.specs.Lies.{lies}
use Rattle.reserve.proofs.Layers.{taken_below}
use Rattle.reserve.proofs.layer.Reserve.take_below.Goals as goal

pub returns : goal.returns
returns g c =
    let view = g.L.Link.view in
    let s = c.args.self.now in
    let m = lies view (record { below = c.take.new.self; held = s.held }) in
    taken_below (lies view s) m (lies view c.settle.new.self) c.in_ok-r.r c.requires c.in_ok-r.ensures refl c.settle.ensures
