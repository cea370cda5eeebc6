-- The time and the interval that a report holds. Assumes nothing.
use Rattle.std.specs.Prelude.{ℕ, ◌-◌, max, cond, Some, None, Option, ◌==◌}
use Rattle.report.specs.declared.report.Elapsed.{Elapsed}
use Rattle.report.specs.declared.report.Elapsed.TheVariants.{Plain, Switched}
use Rattle.report.specs.Lawful.{or_zero}

-- a time counts from the later of answer and last switch
abbrev pub counts_from : ℕ → Option ℕ → ℕ
counts_from answer last = max answer (or_zero last)

-- the ticks up to d; 0 before the answer
abbrev pub time_at : Option ℕ → Option ℕ → ℕ → ℕ
time_at None last d = 0
time_at (Some answer) last d = d - counts_from answer last

-- the interval up to a switch at d, from the later of answer and previous switch; none before the answer
abbrev pub interval_at : Option ℕ → Option ℕ → ℕ → Option ℕ
interval_at None last d = None
interval_at (Some answer) last d = Some (d - counts_from answer last)

-- plain until the first switch, then the switch form
abbrev pub elapsed_by : ℕ → Option ℕ → ℕ → Elapsed
elapsed_by switches interval time = cond (switches == 0) (Plain time) (Switched time interval)
