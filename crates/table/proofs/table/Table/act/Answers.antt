use Rattle.std.proofs.Common.{rules}
use Rattle.std.specs.Option.{option_copied}
use Rattle.table.proofs.Operations.{Entered, entered, refused_early, refused_late, operable, on_time, fit_next, room_next, acts}
use Rattle.table.proofs.table.Table.act.Goals as goal
use Rattle.table.proofs.table.Table.act.Goals.{After-place_in-place}

-- past the rows that every operation begins with, at the place of the address
there : (c : After-place_in-place) → Entered c.args.self.now c.args.tick c.in_ok-now.now.at c.args.address c.args.operation.now (option_copied c.place_in-place.result)
there c = entered _ _ _ _ _ _ _ c.in_ok-now.ensures c.place_of-at.ensures c.place_in-place.ensures

pub returns-in_err-now : goal.returns-in_err-now
returns-in_err-now c = refused_early c.args.room c.args.self.now c.args.tick c.args.address c.args.operation.now c.from_residual.result c.in_err-now.field-0.0 (search rules) c.in_err-now.ensures

pub returns-in_err-admit : goal.returns-in_err-admit
returns-in_err-admit c = refused_late c.args.room _ _ _ _ _ _ (there (goal.at.returns-in_err-admit c).After-place_in-place) c.from_residual-in_err-admit.result c.in_err-admit.field-0.0 (search rules) c.in_err-admit.ensures

pub operate-next-requires : goal.operate-next-requires
operate-next-requires c = operable c.args.room _ _ _ _ _ _ (there (goal.at.operate-next-requires c).After-place_in-place) c.in_ok-admit.ensures

pub settle-requires : goal.settle-requires
settle-requires c =
    let k = there (goal.at.settle-requires c).After-place_in-place in
    record {
      on_time = on_time c.args.room _ _ _ _ _ _ k c.in_ok-admit.ensures _ c.operate-next.ensures;
      placed = c.place_of-at.ensures;
      fitting = fit_next c.args.room _ _ _ _ _ _ k c.in_ok-admit.ensures _ c.operate-next.ensures;
      room = room_next c.args.room _ _ _ _ _ _ k c.in_ok-admit.ensures _ c.operate-next.ensures;
    }

pub returns : goal.returns
returns c = acts c.args.room _ _ _ _ _ _ (there (goal.at.returns c).After-place_in-place) c.in_ok-admit.ensures _ c.operate-next.ensures _ _ _ c.settle.ensures c.order_by-kind.ensures (search rules)
