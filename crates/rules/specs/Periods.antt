-- The rules of periods, sounds and switches, on ticks alone: when a period ends, and what is due when. Assumes nothing.
use Rattle.std.specs.Prelude.{ℕ, ◌+◌, ◌-◌, ◌*◌, max, Bool, cond, Some, None, Option, nat_le}
use Rattle.std.specs.Option.{option_map, unwrap_or}
use Rattle.rules.specs.declared.call.Instruction.{Instruction}
use Rattle.rules.specs.declared.call.SecondSet.{SecondSet}
use Rattle.rules.specs.declared.due.Dues.{Dues}
use Rattle.rules.specs.Limits.{second}

-- The terms of a period: the tick at which its instruction was given, the longest time, whether the connection is released at its end, and the
-- seconds before its end at which the warning sounds.
pub record Terms : Type 0 where
  pub given : ℕ
  pub maximum : ℕ
  pub release : Bool
  pub warning : Option ℕ

-- the terms of an instruction at the tick t
abbrev pub terms : ℕ → Instruction → Terms
terms t i = record { given = t; maximum = i.maximum; release = i.release; warning = option_map (λ b. b.numbers.warning) i.bursts }

-- After the answer, a period starts at the previous period's end, or at t if there was none.
abbrev pub period_start : ℕ → Option ℕ → ℕ
period_start t previous = unwrap_or previous t

-- A period ends at its start plus the maximum, or when it was given if that is later.
abbrev pub period_end : ℕ → Terms → ℕ
period_end start p = max (start + p.maximum) p.given

-- A sound starts its warning before the period end, and falls away if that is before the later of period start and instruction.
abbrev pub sound_due : ℕ → Terms → Option ℕ → Option ℕ
sound_due start p None = None
sound_due start p (Some warning) = cond (nat_le (max start p.given + second * warning) (period_end start p)) (Some (period_end start p - second * warning)) None

-- A switch is due so many seconds after its call.
abbrev pub switch_due : ℕ → ℕ → ℕ
switch_due t seconds = t + second * seconds

-- no timer runs
abbrev pub none_due : Dues
none_due = record { tariff = None; advice = None; sound = None; end = None; limit = None }

-- a period whose start is known: its end is due, and its sound
abbrev pub started : ℕ → Terms → Dues → Dues
started start p d = record { tariff = d.tariff; advice = d.advice; sound = sound_due start p p.warning; end = Some (period_end start p); limit = d.limit }

-- an answer starts the open period, if there is one
abbrev pub dues_answered : ℕ → Option Terms → Dues → Dues
dues_answered t None d = d
dues_answered t (Some p) d = started t p d

-- an instruction before the answer: its switch is due, the period's end is not known yet, and no report awaits any more
abbrev pub dues_granted : ℕ → Instruction → Dues → Dues
dues_granted t i d = record { tariff = option_map (switch_due t) i.switch; advice = d.advice; sound = None; end = None; limit = None }

-- an instruction at the tick t, by the answer's tick and the previous period's end: after the answer the period starts too
abbrev pub dues_instructed : Option ℕ → Option ℕ → ℕ → Instruction → Dues → Dues
dues_instructed None previous t i d = dues_granted t i d
dues_instructed (Some answer) previous t i d = started (period_start t previous) (terms t i) (dues_granted t i d)

-- advice at the tick t: the second set's switch is due
abbrev pub dues_advised : ℕ → Option SecondSet → Dues → Dues
dues_advised t s d = record { tariff = d.tariff; advice = option_map (λ x. switch_due t x.seconds) s; sound = d.sound; end = d.end; limit = d.limit }

-- a confirmation ends the wait
abbrev pub dues_confirmed : Dues → Dues
dues_confirmed d = record { tariff = d.tariff; advice = d.advice; sound = d.sound; end = d.end; limit = None }

-- a tariff switch is spent
abbrev pub dues_switched : Dues → Dues
dues_switched d = record { tariff = None; advice = d.advice; sound = d.sound; end = d.end; limit = d.limit }

-- an advice switch is spent
abbrev pub dues_changed : Dues → Dues
dues_changed d = record { tariff = d.tariff; advice = None; sound = d.sound; end = d.end; limit = d.limit }

-- a sound is spent
abbrev pub dues_sounded : Dues → Dues
dues_sounded d = record { tariff = d.tariff; advice = d.advice; sound = None; end = d.end; limit = d.limit }

-- a period end drops unspent switches, and the limit of its report starts to run
abbrev pub dues_closed : ℕ → Dues → Dues
dues_closed limit d = record { tariff = None; advice = None; sound = d.sound; end = None; limit = Some limit }
