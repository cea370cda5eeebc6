use Rattle.std.proofs.Common.{rules, refl}
use Rattle.reserve.specs.Lies.{Lies, lies, Kept, Placed}
use Rattle.reserve.proofs.Layers.{placed_held}
use Rattle.reserve.proofs.layer.Reserve.hold.Goals as goal

pub returns : goal.returns
returns g c =
    let view = g.L.Link.view in
    let s = c.args.self.now in
    let t : Lies = lies view (record { below = s.below; held = c.push.new.self }) in
    let placed : Kept s.held c.args.r c.push.new.self → Placed (lies view s) c.args.r t = λ e. placed_held (lies view s) t c.args.r c.requires.lawful c.requires.here e.room refl e.list in
    search rules
