-- The journal: what is entered by someone who is told the wait, each call's values and whether it was admitted, and nothing of the engine or its
-- reports. Assumes nothing.
use Rattle.std.specs.Prelude.{ℕ, ◌+◌, max, Bool, true, false, cond, List, [], ◌∷◌, length, Some, None, Option, ◌==◌}
use Rattle.report.specs.declared.report.Address.{Address}
use Rattle.rules.specs.declared.call.Instruction.{Instruction}
use Rattle.rules.specs.declared.call.Operation.{Operation}
use Rattle.rules.specs.declared.call.Operation.TheVariants.{SetUp, Continue, Bar, Instruct, Advise, Answer, Disconnect, Confirm, Repeat}
use Rattle.rules.specs.declared.call.Call.{Call}
use Rattle.rules.specs.declared.call.Call.TheVariants.{On, Fire, Take}
use Rattle.rules.specs.declared.due.Timer.{Timer}
use Rattle.rules.specs.declared.due.Timer.TheVariants.{TariffSwitch, AdviceSwitch, Sound, PeriodEnd, ConfirmationLimit}
use Rattle.rules.specs.declared.due.Dues.{Dues}
use Rattle.rules.specs.ByAddress.{put}
use Rattle.rules.specs.Ranges.{clamped}
use Rattle.rules.specs.Periods.{Terms, terms, none_due, dues_answered, dues_instructed, dues_advised, dues_confirmed, dues_switched, dues_changed, dues_sounded, dues_closed}
use Rattle.rules.specs.Occurrences.{Event, does, fires, Occurrence, occurrence}

-- What is known of a connection; lists have the newest first.
pub record Entry : Type 0 where
  -- the tick of the answer
  pub answer : Option ℕ
  -- the ticks of the tariff switches
  pub switches : List ℕ
  -- the instructions
  pub instructions : List Terms
  -- the terms of the open period
  pub period : Option Terms
  -- the ticks of the period ends
  pub ends : List ℕ
  -- the as-of tick of the newest report
  pub reported : Option ℕ
  -- the tick at which the report that awaits confirmation was first sent
  pub awaiting : Option ℕ
  -- the tick as of which the connection ended
  pub ended : Option ℕ
  -- what is due
  pub dues : Dues

-- the wait, the clock, and the entries of each address, newest first
pub record Journal : Type 0 where
  pub wait : ℕ
  pub clock : ℕ
  pub entries : Address → List Entry

-- a journal starts empty; it clamps the wait too
abbrev pub empty : ℕ → Journal
empty w = record { wait = clamped w; clock = 0; entries = λ a. [] }

-- set-up starts an entry
abbrev pub new_entry : Entry
new_entry = record { answer = None; switches = []; instructions = []; period = None; ends = []; reported = None; awaiting = None; ended = None; dues = none_due }

-- the answer enters its tick, and starts an open period
abbrev pub enter_answer : ℕ → Entry → Entry
enter_answer t e = record { answer = Some t; switches = e.switches; instructions = e.instructions; period = e.period; ends = e.ends; reported = e.reported; awaiting = e.awaiting; ended = e.ended; dues = dues_answered t e.period e.dues }

-- the newest of a list of ticks
abbrev pub newest : List ℕ → Option ℕ
newest [] = None
newest (x ∷ xs) = Some x

-- an instruction opens a period and ends a wait
abbrev pub enter_instruction : ℕ → Instruction → Entry → Entry
enter_instruction t i e = record { answer = e.answer; switches = e.switches; instructions = terms t i ∷ e.instructions; period = Some (terms t i); ends = e.ends; reported = e.reported; awaiting = None; ended = e.ended; dues = dues_instructed e.answer (newest e.ends) t i e.dues }

-- other dues, and all else as it was
abbrev pub enter_dues : (Dues → Dues) → Entry → Entry
enter_dues f e = record { answer = e.answer; switches = e.switches; instructions = e.instructions; period = e.period; ends = e.ends; reported = e.reported; awaiting = e.awaiting; ended = e.ended; dues = f e.dues }

-- a confirmation ends the wait
abbrev pub enter_confirmation : Entry → Entry
enter_confirmation e = record { answer = e.answer; switches = e.switches; instructions = e.instructions; period = e.period; ends = e.ends; reported = e.reported; awaiting = None; ended = e.ended; dues = dues_confirmed e.dues }

-- a tariff switch is entered at its due tick
abbrev pub enter_switch : ℕ → Entry → Entry
enter_switch d e = record { answer = e.answer; switches = d ∷ e.switches; instructions = e.instructions; period = e.period; ends = e.ends; reported = e.reported; awaiting = e.awaiting; ended = e.ended; dues = dues_switched e.dues }

-- a period end is entered at its due tick as a report, which awaits confirmation for w ticks from the firing's tick t on
abbrev pub enter_report : ℕ → ℕ → ℕ → Entry → Entry
enter_report w d t e = record { answer = e.answer; switches = e.switches; instructions = e.instructions; period = None; ends = d ∷ e.ends; reported = Some d; awaiting = Some t; ended = e.ended; dues = dues_closed (t + w) e.dues }

-- an end is entered, and is a last report if an instruction came
abbrev pub enter_end : ℕ → Entry → Entry
enter_end d e = record { answer = e.answer; switches = e.switches; instructions = e.instructions; period = None; ends = e.ends; reported = cond (length e.instructions == 0) e.reported (Some d); awaiting = None; ended = Some d; dues = none_due }

-- a period end with the release mark is an end
abbrev pub enter_release : ℕ → Entry → Entry
enter_release d e = record { answer = e.answer; switches = e.switches; instructions = e.instructions; period = None; ends = d ∷ e.ends; reported = Some d; awaiting = None; ended = Some d; dues = none_due }

-- whether the open period has the release mark
abbrev pub to_be_released : Option Terms → Bool
to_be_released None = false
to_be_released (Some p) = p.release

-- what an operation at the tick t enters
abbrev pub noted_operation : Operation → ℕ → Entry → Entry
noted_operation SetUp t e = e
noted_operation Continue t e = e
noted_operation Bar t e = enter_end t e
noted_operation (Instruct i) t e = enter_instruction t i e
noted_operation (Advise v) t e = enter_dues (dues_advised t v.second) e
noted_operation Answer t e = enter_answer t e
noted_operation Disconnect t e = enter_end t e
noted_operation (Confirm n) t e = enter_confirmation e
noted_operation Repeat t e = e

-- what a timer due at d, fired at t, enters
abbrev pub noted_timer : ℕ → Timer → ℕ → ℕ → Entry → Entry
noted_timer w TariffSwitch d t e = enter_switch d e
noted_timer w AdviceSwitch d t e = enter_dues dues_changed e
noted_timer w Sound d t e = enter_dues dues_sounded e
noted_timer w PeriodEnd d t e = cond (to_be_released e.period) (enter_release d e) (enter_report w d t e)
noted_timer w ConfirmationLimit d t e = enter_end d e

-- a change of the newest entry
abbrev pub on_newest : (Entry → Entry) → List Entry → List Entry
on_newest f [] = []
on_newest f (e ∷ es) = f e ∷ es

-- whether an operation is a set-up
abbrev pub is_set_up : Operation → Bool
is_set_up SetUp = true
is_set_up Continue = false
is_set_up Bar = false
is_set_up (Instruct i) = false
is_set_up (Advise v) = false
is_set_up Answer = false
is_set_up Disconnect = false
is_set_up (Confirm n) = false
is_set_up Repeat = false

-- what an event, as of d in a call at t, makes of an address's entries: set-up starts a new one for each connection
abbrev pub noted_event : ℕ → Event → ℕ → ℕ → List Entry → List Entry
noted_event w (does x) d t es = cond (is_set_up x) (new_entry ∷ es) (on_newest (noted_operation x t) es)
noted_event w (fires k) d t es = on_newest (noted_timer w k d t) es

-- what an occurrence makes of its address's entries
abbrev pub noted : ℕ → Occurrence → List Entry → List Entry
noted w x es = noted_event w x.event x.asof x.at es

-- what is due by the newest entry
abbrev pub dues_of : List Entry → Dues
dues_of [] = none_due
dues_of (e ∷ es) = e.dues

-- the journal after an occurrence
abbrev pub enter_occurrence : Option Occurrence → Journal → Journal
enter_occurrence None j = j
enter_occurrence (Some x) j = record { wait = j.wait; clock = x.at; entries = put j.entries x.address (noted j.wait x (j.entries x.address)) }

-- a call is at its tick, or at the clock if that is later
abbrev pub call_at : Call → ℕ → ℕ
call_at (On t a x) clock = max t clock
call_at (Fire t) clock = max t clock
call_at Take clock = clock

-- the journal after an admitted call
abbrev pub enter : Call → Journal → Journal
enter c j = enter_occurrence (occurrence (λ a. dues_of (j.entries a)) (call_at c j.clock) c) j

-- a call, and whether it was admitted; a refused one leaves the journal as it was
abbrev pub feed_one : Journal → Call × Bool → Journal
feed_one j x = cond x.1 (enter x.0 j) j

-- one after another
abbrev pub feed : Journal → List (Call × Bool) → Journal
feed j [] = j
feed j (x ∷ xs) = feed (feed_one j x) xs
