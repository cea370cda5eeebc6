use Rattle.std.specs.Slice.Iter.{iter_rest}
use Rattle.table.proofs.Seeking.{Best, Coming, Passed, PassedTo, dues_of}
use Rattle.table.proofs.table.Table.soonest.Given as goal

abbrev pub invariant-timers : goal.invariant-timers
invariant-timers l = Best (dues_of l.self.slots) (PassedTo l.place (iter_rest l.slots) l.timer-index) l.best

abbrev pub invariant-connections : goal.invariant-connections
invariant-connections l = record {
  coming : Coming l.self.clock l.self.slots (iter_rest l.slots);
  first : Best (dues_of l.self.slots) (Passed (iter_rest l.slots)) l.best;
}
