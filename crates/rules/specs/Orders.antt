-- The order that the host is given: ended, advise, sound or nothing, the first that applies. Assumes nothing.
use Rattle.std.specs.Prelude.{cond, Some, None, Option}
use Rattle.bursts.specs.declared.list.BurstList.{BurstList}
use Rattle.rules.specs.declared.call.EValues.{EValues}
use Rattle.rules.specs.declared.call.Operation.{Operation}
use Rattle.rules.specs.declared.call.Operation.TheVariants.{SetUp, Continue, Bar, Instruct, Advise, Answer, Disconnect, Confirm, Repeat}
use Rattle.rules.specs.declared.call.OrderKind.{OrderKind}
use Rattle.rules.specs.declared.call.OrderKind.TheVariants as order-kind
use Rattle.rules.specs.declared.call.Order.{Order}
use Rattle.rules.specs.declared.due.Timer.{Timer}
use Rattle.rules.specs.declared.due.Timer.TheVariants.{TariffSwitch, AdviceSwitch, Sound, PeriodEnd, ConfirmationLimit}
use Rattle.rules.specs.declared.connection.Stage.{Stage}
use Rattle.rules.specs.declared.connection.Stage.TheVariants.{Consultation, Waiting, Answered}
use Rattle.rules.specs.declared.connection.Period.{Period}
use Rattle.rules.specs.declared.connection.StoredSets.{StoredSets}
use Rattle.rules.specs.declared.connection.Connection.{Connection}
use Rattle.rules.specs.Occurrences.{Event, does, fires, Occurrence}
use Rattle.rules.specs.Changes.{releases}

-- advise, if there is a set
abbrev pub advise_set : Option EValues → OrderKind
advise_set None = order-kind.Nothing
advise_set (Some v) = order-kind.Advise v

-- advise, after the answer
abbrev pub advise_answered : Stage → Option EValues → OrderKind
advise_answered Consultation v = order-kind.Nothing
advise_answered Waiting v = order-kind.Nothing
advise_answered (Answered t) v = advise_set v

-- the stage; where there is no connection, none matters
abbrev pub stage_in : Option Connection → Stage
stage_in None = Consultation
stage_in (Some c) = c.stage

-- the stored sets
abbrev pub sets_in : Option Connection → StoredSets
sets_in None = record { first = None; second = None }
sets_in (Some c) = c.sets

-- the open period
abbrev pub period_in : Option Connection → Option Period
period_in None = None
period_in (Some c) = c.grant.period

-- sound a burst list, if there is one
abbrev pub sound_list : Option BurstList → OrderKind
sound_list None = order-kind.Nothing
sound_list (Some b) = order-kind.Sound b

-- sound the burst list of the open period
abbrev pub sound_of : Option Period → OrderKind
sound_of None = order-kind.Nothing
sound_of (Some p) = sound_list p.bursts

-- what an operation orders: the answer, or advise after it, orders the first set sent
abbrev pub by_operation_order : Operation → Option Connection → OrderKind
by_operation_order SetUp o = order-kind.Nothing
by_operation_order Continue o = order-kind.Nothing
by_operation_order Bar o = order-kind.Ended
by_operation_order (Instruct i) o = order-kind.Nothing
by_operation_order (Advise v) o = advise_answered (stage_in o) (Some v.first)
by_operation_order Answer o = advise_set (sets_in o).first
by_operation_order Disconnect o = order-kind.Ended
by_operation_order (Confirm n) o = order-kind.Nothing
by_operation_order Repeat o = order-kind.Nothing

-- what a firing orders: after the answer a due advice switch orders the second set sent
abbrev pub by_timer_order : Timer → Option Connection → OrderKind
by_timer_order TariffSwitch o = order-kind.Nothing
by_timer_order AdviceSwitch o = advise_answered (stage_in o) (sets_in o).second
by_timer_order Sound o = sound_of (period_in o)
by_timer_order PeriodEnd o = cond (releases (period_in o)) order-kind.Ended order-kind.Nothing
by_timer_order ConfirmationLimit o = order-kind.Ended

-- what an event orders
abbrev pub by_event_order : Event → Option Connection → OrderKind
by_event_order (does x) o = by_operation_order x o
by_event_order (fires k) o = by_timer_order k o

-- what an occurrence orders, for its address
abbrev pub orders : Occurrence → Option Connection → Order
orders x o = record { address = x.address; kind = by_event_order x.event o }
