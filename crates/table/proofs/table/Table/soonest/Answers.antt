use Rattle.std.proofs.Common.{◌≡◌, ◌∷◌, None, Option, ap, ◌∙◌, subst}
use Rattle.std.specs.Slice.Iter.{iter_rest}
use Rattle.table.proofs.Seeking.{Best, Coming, Passed, dues_of, more, onward, enter, leave, at_last}
use Rattle.table.specs.declared.place.Place.{Place}
use Rattle.table.proofs.table.Table.soonest.Goals as goal
use Rattle.table.proofs.table.Table.soonest.Goals.{In-Some}

-- the places that are still to come are the next, s, and those after it
steps : (c : In-Some) (s : Option Place) → c.in-Some.slot.now ≡ s → iter_rest c.connections.slots ≡ s ∷ iter_rest c.next.new.self
steps c s e = c.in-Some.ensures.steps ∙ ap (λ s. s ∷ iter_rest c.next.new.self) e

pub timers-preserved : goal.timers-preserved
timers-preserved c =
    let t = c.args.self.now in
    more t.clock t.slots c.in-Some-slot.place (iter_rest c.next.new.self) (subst (Coming t.clock t.slots) (steps (goal.at.timers-preserved c).In-Some _ c.in-Some-slot.is) c.connections.invariant.coming) c.timers.timer-index c.timers-test.true _ c.timers.best _ _ c.item_of.ensures c.sooner_of-best.ensures c.timers.invariant

pub timers-init : goal.timers-init
timers-init c =
    let t = c.args.self.now in
    enter t.clock t.slots c.in-Some-slot.place (iter_rest c.next.new.self) c.connections.best (subst (λ ss. Best (dues_of t.slots) (Passed ss) c.connections.best) (steps (goal.at.timers-init c).In-Some _ c.in-Some-slot.is) c.connections.invariant.first)

pub connections-preserved : goal.connections-preserved
connections-preserved c =
    let t = c.args.self.now in
    record {
      coming = onward t.clock t.slots c.in-Some.slot.now (iter_rest c.next.new.self) (subst (Coming t.clock t.slots) c.in-Some.ensures.steps c.connections.invariant.coming);
      first = leave t.clock t.slots c.in-Some-slot.place (iter_rest c.next.new.self) c.timers.timer-index c.timers.best c.timers-test.false c.timers.invariant;
    }

pub connections-preserved-in_default-slot : goal.connections-preserved-in_default-slot
connections-preserved-in_default-slot c =
    let t = c.args.self.now in
    let k = steps (goal.at.connections-preserved-in_default-slot c).In-Some None c.in_default-slot.is in
    record {
      coming = onward t.clock t.slots None (iter_rest c.next.new.self) (subst (Coming t.clock t.slots) k c.connections.invariant.coming);
      first = subst (λ ss. Best (dues_of t.slots) (Passed ss) c.connections.best) k c.connections.invariant.first;
    }

pub returns : goal.returns
returns c = at_last c.args.self.now.slots (iter_rest c.connections.slots) c.connections.best c.in_default.ensures.steps.0 c.connections.invariant.first
