use Rattle.std.proofs.Common.{rules, ◌+◌, arith}
use Rattle.reserve.specs.Lies.{lies, Moves, Rests}
use Rattle.reserve.proofs.Layers.{moved_more, settled_there}
use Rattle.reserve.proofs.layer.Reserve.settle.Goals as goal

pub loop-preserved : goal.loop-preserved
loop-preserved g c =
    let view = g.L.Link.view in
    let inv = c.loop.invariant in
    let moves : Moves (lies view c.loop.self) (lies view c.move_down.new.self) = search rules in
    let e = moved_more (lies view c.args.self.now) (lies view c.loop.self) (lies view c.move_down.new.self) inv.0 inv.3 moves in
    (inv.0 + 1, omega arith, omega arith, e.2)

pub returns : goal.returns
returns g c =
    let view = g.L.Link.view in
    let inv = c.loop.invariant in
    let rests : Rests (lies view c.loop.self) (lies view c.move_down.new.self) = search rules in
    settled_there (lies view c.args.self.now) (lies view c.loop.self) (lies view c.move_down.new.self) inv.0 inv.1 inv.2 inv.3 rests
