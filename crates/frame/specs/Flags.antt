-- The flag byte of a frame. Assumes nothing.
use Rattle.std.specs.Prelude.{ℕ, ◌+◌, ◌/◌, ◌%◌, ◌^◌, Bool, cond, not, ◌&&◌, ◌||◌, Some, None, Option, ◌==◌, nat_le, nat_lt}
use Rattle.report.specs.declared.report.Elapsed.{Elapsed}
use Rattle.report.specs.declared.report.Elapsed.TheVariants.{Plain, Switched}
use Rattle.report.specs.declared.report.Standing.{Standing}
use Rattle.report.specs.declared.report.Standing.TheVariants.{Active, Ended, Released}
use Rattle.report.specs.declared.report.Report.{Report}

-- bit k of the byte f is set
abbrev pub has : ℕ → ℕ → Bool
has k f = f / 2 ^ k % 2 == 1

-- bit 0: active
abbrev pub active : ℕ → Bool
active f = has 0 f

-- bit 1: the switch form
abbrev pub switch_form : ℕ → Bool
switch_form f = has 1 f

-- bit 2: an interval is present
abbrev pub with_interval : ℕ → Bool
with_interval f = has 2 f

-- bit 3: released at expiry
abbrev pub released : ℕ → Bool
released f = has 3 f

-- no other bit is set, an interval needs the switch form, and released forbids active
abbrev pub flags_right : ℕ → Bool
flags_right f = nat_lt f 16 && (not (with_interval f) || switch_form f) && not (released f && active f)

-- the interval i is 0 exactly where the flags have none present
abbrev pub interval_right : ℕ → ℕ → Bool
interval_right f i = cond (with_interval f) (nat_le 1 i) (i == 0)

-- bits 0 and 3 of a standing
abbrev pub standing_bits : Standing → ℕ
standing_bits Active = 1
standing_bits Ended = 0
standing_bits Released = 8

-- bit 2 where there is an interval
abbrev pub interval_bits : Option ℕ → ℕ
interval_bits None = 0
interval_bits (Some i) = 4

-- bits 1 and 2 of an elapsed time
abbrev pub elapsed_bits : Elapsed → ℕ
elapsed_bits (Plain n) = 0
elapsed_bits (Switched n i) = 2 + interval_bits i

-- the flags of a report
abbrev pub flags_of : Report → ℕ
flags_of r = standing_bits r.standing + elapsed_bits r.elapsed

-- the standing that flags tell
abbrev pub standing_at : ℕ → Standing
standing_at f = cond (active f) Active (cond (released f) Released Ended)

-- the elapsed time that flags, a time and an interval tell
abbrev pub elapsed_at : ℕ → ℕ → ℕ → Elapsed
elapsed_at f time interval = cond (switch_form f) (Switched time (cond (with_interval f) (Some interval) None)) (Plain time)
