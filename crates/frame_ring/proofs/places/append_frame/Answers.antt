use Rattle.std.proofs.Common.{rules, ◌≡◌, cond}
use Rattle.report.specs.Lawful.{lawful}
use Rattle.report.specs.declared.refusal.Refusal.TheVariants.{OutOfRange, NoFreePlace}
use Rattle.std.proofs.lemmas.Result.{err_from_is_err_and}
use Rattle.ring.specs.Slots.{Enters, count_of}
use Rattle.frame_ring.proofs.Waiting.{is_appended, is_full}
use Rattle.frame_ring.proofs.places.append_frame.Goals as goal

pub returns-in_err-turn : goal.returns-in_err-turn
returns-in_err-turn c =
    let p = err_from_is_err_and c.from_residual.result c.from_residual.ensures.1 in
    let full : count_of c.whole_places.result c.args.window ≡ c.whole_places.result = search rules in
    let why : c.in_err-turn.field-0.0 ≡ cond (lawful c.args.report) NoFreePlace OutOfRange = search rules in
    rw (p.1, p.2) (is_full c.args.bytes.now c.args.window c.args.report c.in_err-turn.field-0.0 _ c.whole_places.ensures full why)

pub returns : goal.returns
returns c =
    let e : Enters c.whole_places.result c.args.window c.in_ok-turn.turn = search rules in
    is_appended c.args.bytes.now _ c.args.window c.args.report c.in_ok-turn.turn _ c.whole_places.ensures e c.in_ok-write_place.ensures
