-- When a call is refused. A call's rows are checked from the top: where a row's test holds, and none above it, the call is refused so. Assumes nothing.
use Rattle.std.specs.Prelude.{ℕ, ◌*◌, Bool, true, false, cond, not, ◌&&◌, ◌||◌, List, [], ◌∷◌, is_some, Some, None, Option, ◌==◌, nat_le, nat_lt}
use Rattle.report.specs.declared.report.Report.{Report}
use Rattle.report.specs.declared.refusal.Refusal.{Refusal}
use Rattle.report.specs.declared.refusal.Refusal.TheVariants.{Untimely, OutOfRange, ItemDue, NoConnection, AddressConnected, ConnectionsFull, WrongStage, Pending, BurstsTooLong, LimitReached, NoFreePlace, NothingDue}
use Rattle.report.specs.Limits.{last_tick}
use Rattle.report.specs.Lawful.{lawful_address}
use Rattle.bursts.specs.declared.list.BurstList.{BurstList}
use Rattle.bursts.specs.Plan.{sound_length}
use Rattle.rules.specs.declared.call.Operation.{Operation}
use Rattle.rules.specs.declared.call.Operation.TheVariants.{SetUp, Continue, Bar, Instruct, Advise, Answer, Disconnect, Confirm, Repeat}
use Rattle.rules.specs.declared.call.Call.{Call}
use Rattle.rules.specs.declared.call.Call.TheVariants.{On, Fire, Take}
use Rattle.rules.specs.declared.due.Timer.{Timer}
use Rattle.rules.specs.declared.due.Timer.TheVariants.{TariffSwitch, AdviceSwitch, Sound, PeriodEnd, ConfirmationLimit}
use Rattle.rules.specs.declared.due.Item.{Item}
use Rattle.rules.specs.declared.connection.Stage.{Stage}
use Rattle.rules.specs.declared.connection.Stage.TheVariants.{Consultation, Waiting, Answered}
use Rattle.rules.specs.declared.connection.Connection.{Connection}
use Rattle.rules.specs.Limits.{second, connections, most_instructions, most_switches}
use Rattle.rules.specs.Ranges.{fits}
use Rattle.rules.specs.Dues.{earliest}
use Rattle.rules.specs.Core.{Core, dues_in, dues_at}
use Rattle.rules.specs.Reports.{awaited}
use Rattle.rules.specs.Orders.{stage_in, period_in}

-- the tick is past its limit or before the clock
abbrev pub untimely : ℕ → Core → Bool × Refusal
untimely t s = (nat_lt last_tick t || nat_lt t s.clock, Untimely)

-- no connection has the address
abbrev pub no_connection : Option Connection → Bool × Refusal
no_connection o = (not (is_some o), NoConnection)

-- a report is to go and no place is free
abbrev pub no_place : Bool → Bool → Bool × Refusal
no_place reports room = (reports && not room, NoFreePlace)

-- how many instructions the connection had
abbrev pub had : Option Connection → ℕ
had None = 0
had (Some c) = c.grant.had

-- how many tariff switches counted
abbrev pub counted : Option Connection → ℕ
counted None = 0
counted (Some c) = c.meter.switches

-- whether the connection is in consultation
abbrev pub consulting : Stage → Bool
consulting Consultation = true
consulting Waiting = false
consulting (Answered t) = false

-- whether the connection waits for its answer
abbrev pub waits : Stage → Bool
waits Consultation = false
waits Waiting = true
waits (Answered t) = false

-- whether a report with the number n awaits confirmation
abbrev pub awaits : ℕ → Option Report → Bool
awaits n None = false
awaits n (Some r) = r.number == n

-- a burst list is longer than its warning
abbrev pub too_long : Option BurstList → Bool
too_long None = false
too_long (Some b) = nat_lt (second * b.numbers.warning) (sound_length b)

-- whether an end of the connection sends a last report
abbrev pub reports_last : Option Connection → Bool
reports_last o = not (had o == 0)

-- the rows of an operation, beginning with those that look at its connection; n is how many connections there are, and room whether a place is free
abbrev pub operation_rows : Bool → Operation → Option Connection → ℕ → List (Bool × Refusal)
operation_rows room SetUp o n = (is_some o, AddressConnected) ∷ (nat_le connections n, ConnectionsFull) ∷ []
operation_rows room Continue o n = no_connection o ∷ (not (consulting (stage_in o)), WrongStage) ∷ []
operation_rows room Bar o n = no_connection o ∷ (not (consulting (stage_in o)), WrongStage) ∷ no_place (reports_last o) room ∷ []
operation_rows room (Instruct i) o n = no_connection o ∷ (is_some (period_in o), Pending) ∷ (too_long i.bursts, BurstsTooLong) ∷ (nat_le most_instructions (had o) || (is_some i.switch && nat_le most_switches (counted o)), LimitReached) ∷ []
operation_rows room (Advise v) o n = no_connection o ∷ (is_some (dues_in o).advice, Pending) ∷ []
operation_rows room Answer o n = no_connection o ∷ (not (waits (stage_in o)), WrongStage) ∷ []
operation_rows room Disconnect o n = no_connection o ∷ (consulting (stage_in o), WrongStage) ∷ no_place (reports_last o) room ∷ []
operation_rows room (Confirm k) o n = no_connection o ∷ (not (awaits k (awaited o)), WrongStage) ∷ []
operation_rows room Repeat o n = no_connection o ∷ (not (is_some (awaited o)), WrongStage) ∷ no_place true room ∷ []

-- whether a firing sends a report
abbrev pub timer_reports : Timer → Option Connection → Bool
timer_reports TariffSwitch o = false
timer_reports AdviceSwitch o = false
timer_reports Sound o = false
timer_reports PeriodEnd o = true
timer_reports ConfirmationLimit o = reports_last o

-- the rows of a firing, by the earliest due item
abbrev pub firing_rows : Bool → Core → Option Item → List (Bool × Refusal)
firing_rows room s None = (true, NothingDue) ∷ []
firing_rows room s (Some i) = no_place (timer_reports i.timer (s.at i.address)) room ∷ []

-- all rows of a call that carries a tick: an item that is due anywhere comes before every operation
abbrev pub rows : Bool → Call → Core → List (Bool × Refusal)
rows room (On t a x) s = untimely t s ∷ (not (lawful_address a && fits x), OutOfRange) ∷ (is_some (earliest (dues_at s) t), ItemDue) ∷ operation_rows room x (s.at a) s.count
rows room (Fire t) s = untimely t s ∷ firing_rows room s (earliest (dues_at s) t)
rows room Take s = []

-- the refusal of the first row whose test holds
abbrev pub first : List (Bool × Refusal) → Option Refusal
first [] = None
first (x ∷ xs) = cond x.0 (Some x.1) (first xs)
