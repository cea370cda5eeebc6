-- What becomes of the connection that an occurrence befalls. Assumes nothing.
use Rattle.std.specs.Prelude.{ℕ, ◌+◌, Bool, false, cond, Some, None, Option}
use Rattle.std.specs.Option.{option_map}
use Rattle.report.specs.declared.report.Address.{Address}
use Rattle.report.specs.declared.report.Standing.{Standing}
use Rattle.report.specs.declared.report.Standing.TheVariants.{Active}
use Rattle.report.specs.declared.report.Report.{Report}
use Rattle.rules.specs.declared.call.Instruction.{Instruction}
use Rattle.rules.specs.declared.call.EValues.{EValues}
use Rattle.rules.specs.declared.call.Advice.{Advice}
use Rattle.rules.specs.declared.call.Operation.{Operation}
use Rattle.rules.specs.declared.call.Operation.TheVariants.{SetUp, Continue, Bar, Instruct, Advise, Answer, Disconnect, Confirm, Repeat}
use Rattle.rules.specs.declared.due.Timer.{Timer}
use Rattle.rules.specs.declared.due.Timer.TheVariants.{TariffSwitch, AdviceSwitch, Sound, PeriodEnd, ConfirmationLimit}
use Rattle.rules.specs.declared.connection.Stage.{Stage}
use Rattle.rules.specs.declared.connection.Stage.TheVariants.{Consultation, Waiting, Answered}
use Rattle.rules.specs.declared.connection.Period.{Period}
use Rattle.rules.specs.declared.connection.StoredSets.{StoredSets}
use Rattle.rules.specs.declared.connection.Connection.{Connection}
use Rattle.rules.specs.Periods.{Terms, none_due, dues_answered, dues_instructed, dues_advised, dues_confirmed, dues_switched, dues_changed, dues_sounded, dues_closed}
use Rattle.rules.specs.Times.{time_at, interval_at, elapsed_by}
use Rattle.rules.specs.Occurrences.{Event, does, fires, Occurrence}
use Rattle.rules.specs.Core.{answered_at}

-- the period that an instruction at the tick t opens
abbrev pub period_of : ℕ → Instruction → Period
period_of t i = record { maximum = i.maximum; release = i.release; bursts = i.bursts; given = t }

-- the terms of an open period
abbrev pub terms_of : Period → Terms
terms_of p = record { given = p.given; maximum = p.maximum; release = p.release; warning = option_map (λ b. b.numbers.warning) p.bursts }

-- The report that a connection makes as of a tick: one number up, and the time by the answer and the switches counted.
abbrev pub made : Address → ℕ → Standing → Connection → Report
made a d standing c = record {
  address = a;
  number = c.sent + 1;
  party = c.grant.party;
  tick = d;
  standing = standing;
  elapsed = elapsed_by c.meter.switches c.meter.interval (time_at (answered_at c.stage) c.meter.last d);
}

-- set-up: a connection in consultation
abbrev pub fresh : Connection
fresh = record {
  stage = Consultation;
  grant = record { had = 0; party = 0; period = None; previous = None };
  meter = record { switches = 0; last = None; interval = None };
  sets = record { first = None; second = None };
  dues = none_due;
  sent = 0;
  awaiting = None;
}

-- continue: it waits for the answer
abbrev pub continued : Connection → Connection
continued c = record { stage = Waiting; grant = c.grant; meter = c.meter; sets = c.sets; dues = c.dues; sent = c.sent; awaiting = c.awaiting }

-- instruct: a period opens, with no interval yet, and an awaiting report is confirmed
abbrev pub instructed : ℕ → Instruction → Connection → Connection
instructed t i c = record {
  stage = c.stage;
  grant = record { had = c.grant.had + 1; party = i.party; period = Some (period_of t i); previous = c.grant.previous };
  meter = record { switches = c.meter.switches; last = c.meter.last; interval = None };
  sets = c.sets;
  dues = dues_instructed (answered_at c.stage) c.grant.previous t i c.dues;
  sent = c.sent;
  awaiting = None;
}

-- before the answer the first set is stored; after it, it is ordered at once
abbrev pub stored : Stage → EValues → Option EValues
stored Consultation v = Some v
stored Waiting v = Some v
stored (Answered t) v = None

-- advise: the sets are stored over any earlier ones
abbrev pub advised : ℕ → Advice → Connection → Connection
advised t v c = record {
  stage = c.stage;
  grant = c.grant;
  meter = c.meter;
  sets = record { first = stored c.stage v.first; second = option_map (λ x. x.set) v.second };
  dues = dues_advised t v.second c.dues;
  sent = c.sent;
  awaiting = c.awaiting;
}

-- answer: an open period starts, and a stored first set is ordered
abbrev pub answered : ℕ → Connection → Connection
answered t c = record {
  stage = Answered t;
  grant = c.grant;
  meter = c.meter;
  sets = record { first = None; second = c.sets.second };
  dues = dues_answered t (option_map terms_of c.grant.period) c.dues;
  sent = c.sent;
  awaiting = c.awaiting;
}

-- confirm: the wait ends
abbrev pub confirmed : Connection → Connection
confirmed c = record { stage = c.stage; grant = c.grant; meter = c.meter; sets = c.sets; dues = dues_confirmed c.dues; sent = c.sent; awaiting = None }

-- a tariff switch counts one switch, and after the answer an interval ends with it
abbrev pub switched : ℕ → Connection → Connection
switched d c = record {
  stage = c.stage;
  grant = c.grant;
  meter = record { switches = c.meter.switches + 1; last = Some d; interval = interval_at (answered_at c.stage) c.meter.last d };
  sets = c.sets;
  dues = dues_switched c.dues;
  sent = c.sent;
  awaiting = c.awaiting;
}

-- before the answer the second set becomes the first; after it, it is ordered
abbrev pub taken_over : Stage → StoredSets → StoredSets
taken_over Consultation s = record { first = s.second; second = None }
taken_over Waiting s = record { first = s.second; second = None }
taken_over (Answered t) s = record { first = s.first; second = None }

-- an advice switch
abbrev pub changed_over : Connection → Connection
changed_over c = record { stage = c.stage; grant = c.grant; meter = c.meter; sets = taken_over c.stage c.sets; dues = dues_changed c.dues; sent = c.sent; awaiting = c.awaiting }

-- a sound
abbrev pub sounded : Connection → Connection
sounded c = record { stage = c.stage; grant = c.grant; meter = c.meter; sets = c.sets; dues = dues_sounded c.dues; sent = c.sent; awaiting = c.awaiting }

-- a period end without the release mark closes the period, drops unspent switches, and its report awaits confirmation
abbrev pub closed : Address → ℕ → ℕ → Connection → Connection
closed a d limit c = record {
  stage = c.stage;
  grant = record { had = c.grant.had; party = c.grant.party; period = None; previous = Some d };
  meter = record { switches = c.meter.switches; last = c.meter.last; interval = None };
  sets = record { first = c.sets.first; second = None };
  dues = dues_closed limit c.dues;
  sent = c.sent + 1;
  awaiting = Some (made a d Active c);
}

-- whether the open period has the release mark
abbrev pub releases : Option Period → Bool
releases None = false
releases (Some p) = p.release

-- what an operation at the tick t makes of the connection
abbrev pub by_operation : Operation → ℕ → Option Connection → Option Connection
by_operation SetUp t o = Some fresh
by_operation Continue t o = option_map continued o
by_operation Bar t o = None
by_operation (Instruct i) t o = option_map (instructed t i) o
by_operation (Advise v) t o = option_map (advised t v) o
by_operation Answer t o = option_map (answered t) o
by_operation Disconnect t o = None
by_operation (Confirm n) t o = option_map confirmed o
by_operation Repeat t o = o

-- a period end at d, fired at t: the release mark ends the connection, else the report awaits confirmation for w ticks
abbrev pub at_end : ℕ → Address → ℕ → ℕ → Option Connection → Option Connection
at_end w a d t None = None
at_end w a d t (Some c) = cond (releases c.grant.period) None (Some (closed a d (t + w) c))

-- what a timer due at d, fired at t, makes of the connection; w is the wait
abbrev pub by_timer : ℕ → Timer → Address → ℕ → ℕ → Option Connection → Option Connection
by_timer w TariffSwitch a d t o = option_map (switched d) o
by_timer w AdviceSwitch a d t o = option_map changed_over o
by_timer w Sound a d t o = option_map sounded o
by_timer w PeriodEnd a d t o = at_end w a d t o
by_timer w ConfirmationLimit a d t o = None

-- what an event, as of d in a call at t, makes of the connection
abbrev pub by_event : ℕ → Event → Address → ℕ → ℕ → Option Connection → Option Connection
by_event w (does x) a d t o = by_operation x t o
by_event w (fires k) a d t o = by_timer w k a d t o

-- what an occurrence makes of the connection
abbrev pub becomes : ℕ → Occurrence → Option Connection → Option Connection
becomes w x o = by_event w x.event x.address x.asof x.at o
