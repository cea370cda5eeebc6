use Rattle.std.proofs.Common.{◌≡◌, ◌&&◌, not, [], ◌∷◌, is_some, sym, ap, ◌∙◌, rules}
use Rattle.report.specs.declared.refusal.Refusal.TheVariants.{NoFreePlace}
use Rattle.rules.specs.Rows.{first}
use Rattle.table.specs.State.{admitted}
use Rattle.table.proofs.Firing.{Picked, picks, place_there, room_next, refused_full, fit_next, fires_so}
use Rattle.table.proofs.table.Table.fire.Goals as goal
use Rattle.table.proofs.table.Table.fire.Goals.{After-place_in, After-refuse_if}

-- the item that is due first, with its place
due : (c : After-place_in) → Picked c.args.self.now c.args.tick c.in_ok-now.now.at c.in_ok-item.item c.place_in.result
due c = picks _ _ _ _ _ _ c.in_ok-now.ensures (sym c.earliest.ensures.value ∙ c.in_ok-item.ensures.ok_part) c.place_of-at.ensures c.place_in.ensures

-- what the firing is refused by: its report, where none has room
full : (c : After-refuse_if) → admitted (tt {0}) (first ((c.if-is_some.refuse_if, NoFreePlace) ∷ [])) ≡ admitted (tt {0}) (first ((is_some c.report_at-report.result && not c.args.room, NoFreePlace) ∷ []))
full c = ap (λ b. admitted (tt {0}) (first ((b, NoFreePlace) ∷ []))) test
  where
    test : c.if-is_some.refuse_if ≡ (is_some c.report_at-report.result && not c.args.room)
    test = search rules

pub unwrap-place-requires : goal.unwrap-place-requires
unwrap-place-requires c = place_there c.args.room _ _ _ _ _ (due (goal.at.unwrap-place-requires c).After-place_in)

pub returns-in_err-refuse_if : goal.returns-in_err-refuse_if
returns-in_err-refuse_if c =
    let at = goal.at.returns-in_err-refuse_if c in
    refused_full c.args.room _ _ _ _ _ (due at.After-place_in) c.unwrap-place.result c.unwrap-place.ensures c.report_at-report.result c.report_at-report.ensures c.from_residual-in_err-refuse_if.result c.in_err-refuse_if.field-0.0 (search rules) (c.in_err-refuse_if.ensures ∙ full at.After-refuse_if)

pub settle-requires-clause-fitting : goal.settle-requires-clause-fitting
settle-requires-clause-fitting c =
    let at = goal.at.settle-requires-clause-fitting c in
    fit_next c.args.room _ _ _ _ _ (due at.After-place_in) c.unwrap-place.result c.unwrap-place.ensures c.report_at-report.result c.report_at-report.ensures (c.in_ok-refuse_if.ensures ∙ full at.After-refuse_if) _ c.fire_timer-next.ensures

pub settle-requires-clause-room : goal.settle-requires-clause-room
settle-requires-clause-room c = room_next c.args.room _ _ _ _ _ (due (goal.at.settle-requires-clause-room c).After-place_in) c.fire_timer-next.result

pub returns : goal.returns
returns c =
    let at = goal.at.returns c in
    fires_so c.args.room _ _ _ _ _ (due at.After-place_in) c.unwrap-place.result c.unwrap-place.ensures c.report_at-report.result c.report_at-report.ensures (c.in_ok-refuse_if.ensures ∙ full at.After-refuse_if) _ c.fire_timer-next.ensures _ _ c.settle.ensures c.order_at-kind.ensures
