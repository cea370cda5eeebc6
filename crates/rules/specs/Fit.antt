-- What every connection keeps to at a clock, so that each report that it can make is within the frame's rules. Assumes nothing.
use Rattle.std.specs.Prelude.{◌≡◌, ℕ, suc, ◌≤◌, max, Bool, true, false, not, ◌&&◌, ◌||◌, List, [], ◌∷◌, Some, None, Option, ◌==◌, nat_le}
use Rattle.report.specs.declared.report.Address.{Address}
use Rattle.report.specs.declared.report.Report.{Report}
use Rattle.report.specs.Limits.{last_tick, parties}
use Rattle.report.specs.Lawful.{within, lawful_address, same, or_zero, lawful}
use Rattle.rules.specs.declared.call.Operation.{Operation}
use Rattle.rules.specs.declared.call.Call.{Call}
use Rattle.rules.specs.declared.due.Timer.{Timer}
use Rattle.rules.specs.declared.due.Dues.{Dues}
use Rattle.rules.specs.declared.connection.Grant.{Grant}
use Rattle.rules.specs.declared.connection.Connection.{Connection}
use Rattle.rules.specs.Ranges.{fits}
use Rattle.rules.specs.Dues.{due_of}
use Rattle.rules.specs.Core.{Core, start, dues_in, answered_at}
use Rattle.rules.specs.Changes.{by_operation, by_timer}
use Rattle.rules.specs.Reports.{by_operation_sent, by_timer_sent}
use Rattle.rules.specs.Rows.{operation_rows, timer_reports, rows, first}
use Rattle.rules.specs.Rules.{effect, reports}
use Rattle.rules.specs.Sound.{sound}

-- the later of answer and last switch, from which a report's time counts
abbrev pub newest_tick : Connection → ℕ
newest_tick c = max (or_zero (answered_at c.stage)) (or_zero c.meter.last)

-- once instructed, the party is 1 or 2
abbrev pub party_fits : Grant → Bool
party_fits g = g.had == 0 || within 1 parties g.party

-- an interval is not 0, and was over by the newest tick
abbrev pub interval_fits : ℕ → Option ℕ → Bool
interval_fits n None = true
interval_fits n (Some i) = within 1 n i

-- a number that may be there is at least n
abbrev pub at_least : ℕ → Option ℕ → Bool
at_least n None = true
at_least n (Some d) = nat_le n d

-- a pending switch comes after the newest tick, a pending end or limit not before it
abbrev pub dues_fit : ℕ → Dues → Bool
dues_fit n d = at_least (suc n) d.tariff && at_least n d.end && at_least n d.limit

-- a limit runs exactly while a report awaits: the newest one sent, within the frame's rules, with the connection's own address
abbrev pub awaiting_fits : Address → ℕ → Option ℕ → Option Report → Bool
awaiting_fits a sent None None = true
awaiting_fits a sent None (Some r) = false
awaiting_fits a sent (Some d) None = false
awaiting_fits a sent (Some d) (Some r) = lawful r && r.number == sent && same r.address a

-- the connection at an address, which is a lawful one
abbrev pub fit : (clock : ℕ) → Address → Connection → Bool
fit clock a c = lawful_address a && sound c && party_fits c.grant && nat_le (newest_tick c) clock && interval_fits (newest_tick c) c.meter.interval && dues_fit (newest_tick c) c.dues && awaiting_fits a c.sent c.dues.limit c.awaiting

-- every connection of an engine is fit at its clock
abbrev pub AllFit : Core → Type 0
AllFit s = (a : Address) (c : Connection) → s.at a ≡ Some c → fit s.clock a c ≡ true

-- A new engine is fit, and an admitted call leaves every connection fit at the new clock; a refused one leaves all as it was.
pub record StaysFit : Type 0 where
  pub at_first : (w : ℕ) → AllFit (start w)
  pub ever_after : (room : Bool) (c : Call) (s : Core) → first (rows room c s) ≡ None → AllFit s → AllFit (effect c s)

-- nothing is sent, or one report within the frame's rules, for which a place is free
abbrev pub Sendable : Bool → List Report → Type 0
Sendable room [] = Unit {0}
Sendable room (r ∷ rs) = (lawful r ≡ true) × (room ≡ true) × (rs ≡ [])

-- what an admitted call sends from a fit engine can be sent
abbrev pub SendsLawful : Type 0
SendsLawful = (room : Bool) (c : Call) (s : Core) → first (rows room c s) ≡ None → AllFit s → Sendable room (reports c s)

-- the connection that may be at an address is fit
abbrev pub fit_in : (clock : ℕ) → Address → Option Connection → Bool
fit_in clock a None = true
fit_in clock a (Some c) = fit clock a c

-- nothing there is due before d
abbrev pub DueFrom : ℕ → Option Connection → Type 0
DueFrom d o = (k : Timer) (q : ℕ) → due_of (dues_in o) k ≡ Some q → d ≤ q

-- The same of one connection by itself: it stays fit as the clock goes on, by an admitted operation and by a firing, and what these send can be sent.
pub record EachStaysFit : Type 0 where
  pub later : (clock t : ℕ) (a : Address) (o : Option Connection) → clock ≤ t → fit_in clock a o ≡ true → fit_in t a o ≡ true
  pub by_operations : (x : Operation) (a : Address) (t : ℕ) (room : Bool) (n : ℕ) (o : Option Connection) → lawful_address a ≡ true → fits x ≡ true → t ≤ last_tick → DueFrom (suc t) o → first (operation_rows room x o n) ≡ None → fit_in t a o ≡ true → fit_in t a (by_operation x t o) ≡ true
  pub by_firings : (w : ℕ) (k : Timer) (a : Address) (d t : ℕ) (o : Option Connection) → due_of (dues_in o) k ≡ Some d → d ≤ t → t ≤ last_tick → DueFrom d o → fit_in t a o ≡ true → fit_in t a (by_timer w k a d t o) ≡ true
  pub operations_send : (x : Operation) (a : Address) (t : ℕ) (room : Bool) (n : ℕ) (o : Option Connection) → t ≤ last_tick → first (operation_rows room x o n) ≡ None → fit_in t a o ≡ true → Sendable room (by_operation_sent x a t o)
  pub firings_send : (k : Timer) (a : Address) (d t : ℕ) (room : Bool) (o : Option Connection) → due_of (dues_in o) k ≡ Some d → d ≤ last_tick → (timer_reports k o && not room) ≡ false → fit_in t a o ≡ true → Sendable room (by_timer_sent k a d o)
