use Rattle.std.proofs.Common.{◌≡◌, sym, ap, ◌∙◌, subst}
use Rattle.rules.specs.Core.{dues_at}
use Rattle.rules.specs.Dues.{if_due, earliest}
use Rattle.rules.specs.Earliest.{Earliest}
use Rattle.invariants.proofs.Earliest.{one_earliest}
use Rattle.table.specs.State.{core_of}
use Rattle.table.proofs.table.Table.earliest.Goals as goal

pub returns-clause-least : goal.returns-clause-least
returns-clause-least c =
    let f = dues_at (core_of c.args.self.now) in
    let e : c.if_due.result ≡ earliest f c.args.tick = c.if_due.ensures ∙ ap (if_due c.args.tick) c.soonest.ensures in
    subst (Earliest f c.args.tick) (sym e) (one_earliest.is_one f c.args.tick)
