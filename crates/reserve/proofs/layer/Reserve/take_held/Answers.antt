use Rattle.std.proofs.Common.{rules, ◌≡◌, ◌∷◌, refl}
use Rattle.ring.specs.Slots.{list}
use Rattle.reserve.specs.Lies.{kept, lies}
use Rattle.reserve.proofs.Layers.{taken_held}
use Rattle.reserve.proofs.layer.Reserve.take_held.Goals as goal

pub returns : goal.returns
returns g c =
    let view = g.L.Link.view in
    let s = c.args.self.now in
    let r = c.in_ok-r.r in
    let m = lies view (record { below = s.below; held = c.keep.new.self }) in
    let rest = list s.held.places c.in_ok-r.rest in
    let oldest : kept s.held ≡ r ∷ rest = search rules in
    taken_held (lies view s) m (lies view c.settle.new.self) r rest c.requires refl oldest c.keep.ensures c.settle.ensures
