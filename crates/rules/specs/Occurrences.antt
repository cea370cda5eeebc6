-- What an admitted call comes to: something that befalls one connection, as of one tick. Assumes nothing.
use Rattle.std.specs.Prelude.{ℕ, Some, None, Option}
use Rattle.report.specs.declared.report.Address.{Address}
use Rattle.rules.specs.declared.call.Operation.{Operation}
use Rattle.rules.specs.declared.call.Call.{Call}
use Rattle.rules.specs.declared.call.Call.TheVariants.{On, Fire, Take}
use Rattle.rules.specs.declared.due.Timer.{Timer}
use Rattle.rules.specs.declared.due.Dues.{Dues}
use Rattle.rules.specs.declared.due.Item.{Item}
use Rattle.rules.specs.Dues.{earliest}

-- a call's operation, or the firing of a timer
pub data Event : Type 0 where
  does : Operation → Event
  fires : Timer → Event

-- what befalls the connection of an address, as of which tick, in a call at which tick
pub record Occurrence : Type 0 where
  pub event : Event
  pub address : Address
  pub asof : ℕ
  pub at : ℕ

-- a firing at t is as of the item's due tick
abbrev pub fired : ℕ → Option Item → Option Occurrence
fired t None = None
fired t (Some i) = Some (record { event = fires i.timer; address = i.address; asof = i.tick; at = t })

-- a call at the tick t: an operation is as of t, fire carries out the earliest due item, and take befalls no connection
abbrev pub occurrence : (Address → Dues) → ℕ → Call → Option Occurrence
occurrence f t (On _ a x) = Some (record { event = does x; address = a; asof = t; at = t })
occurrence f t (Fire _) = fired t (earliest f t)
occurrence f t Take = None
