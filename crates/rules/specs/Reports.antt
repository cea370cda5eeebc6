-- The reports that an occurrence sends. Assumes nothing.
use Rattle.std.specs.Prelude.{ℕ, cond, List, [], ◌∷◌, Some, None, Option, ◌==◌}
use Rattle.report.specs.declared.report.Address.{Address}
use Rattle.report.specs.declared.report.Standing.TheVariants.{Active, Ended, Released}
use Rattle.report.specs.declared.report.Report.{Report}
use Rattle.rules.specs.declared.call.Operation.{Operation}
use Rattle.rules.specs.declared.call.Operation.TheVariants.{SetUp, Continue, Bar, Instruct, Advise, Answer, Disconnect, Confirm, Repeat}
use Rattle.rules.specs.declared.due.Timer.{Timer}
use Rattle.rules.specs.declared.due.Timer.TheVariants.{TariffSwitch, AdviceSwitch, Sound, PeriodEnd, ConfirmationLimit}
use Rattle.rules.specs.declared.connection.Connection.{Connection}
use Rattle.rules.specs.Occurrences.{Event, does, fires, Occurrence}
use Rattle.rules.specs.Changes.{made, releases}

-- only an ending connection that ever had an instruction sends a last report
abbrev pub last_report : Address → ℕ → Option Connection → List Report
last_report a d None = []
last_report a d (Some c) = cond (c.grant.had == 0) [] (made a d Ended c ∷ [])

-- a period end sends a report, with the release mark the last
abbrev pub end_report : Address → ℕ → Option Connection → List Report
end_report a d None = []
end_report a d (Some c) = made a d (cond (releases c.grant.period) Released Active) c ∷ []

-- a report that may be there, as a list
abbrev pub listed : Option Report → List Report
listed None = []
listed (Some r) = r ∷ []

-- the report that awaits confirmation
abbrev pub awaited : Option Connection → Option Report
awaited None = None
awaited (Some c) = c.awaiting

-- what an operation sends: ends send a last report, and a repeat the awaiting report once more, unchanged
abbrev pub by_operation_sent : Operation → Address → ℕ → Option Connection → List Report
by_operation_sent SetUp a t o = []
by_operation_sent Continue a t o = []
by_operation_sent Bar a t o = last_report a t o
by_operation_sent (Instruct i) a t o = []
by_operation_sent (Advise v) a t o = []
by_operation_sent Answer a t o = []
by_operation_sent Disconnect a t o = last_report a t o
by_operation_sent (Confirm n) a t o = []
by_operation_sent Repeat a t o = listed (awaited o)

-- what a firing sends: a period end its report, a due confirmation limit a last one
abbrev pub by_timer_sent : Timer → Address → ℕ → Option Connection → List Report
by_timer_sent TariffSwitch a d o = []
by_timer_sent AdviceSwitch a d o = []
by_timer_sent Sound a d o = []
by_timer_sent PeriodEnd a d o = end_report a d o
by_timer_sent ConfirmationLimit a d o = last_report a d o

-- what an event as of d sends
abbrev pub by_event_sent : Event → Address → ℕ → Option Connection → List Report
by_event_sent (does x) a d o = by_operation_sent x a d o
by_event_sent (fires k) a d o = by_timer_sent k a d o

-- what an occurrence sends
abbrev pub sends : Occurrence → Option Connection → List Report
sends x o = by_event_sent x.event x.address x.asof o
