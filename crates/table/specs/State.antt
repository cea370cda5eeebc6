-- What a table means to the rules, and what a call of it does. Assumes nothing.
use Rattle.std.specs.Prelude.{◌≡◌, ℕ, ◌+◌, ◌-◌, ◌<◌, Bool, true, false, not, ◌&&◌, List, [], ◌∷◌, is_some, Some, None, Ok, Err, Option, Result}
use Rattle.report.specs.declared.report.Address.{Address}
use Rattle.report.specs.declared.report.Report.{Report}
use Rattle.report.specs.declared.refusal.Refusal.{Refusal}
use Rattle.report.specs.declared.refusal.Refusal.TheVariants.{OutOfRange, ItemDue}
use Rattle.report.specs.Lawful.{lawful_address}
use Rattle.rules.specs.declared.call.Call.{Call}
use Rattle.rules.specs.declared.call.Reply.{Reply}
use Rattle.rules.specs.declared.call.Reply.TheVariants.{Refused, Done}
use Rattle.rules.specs.declared.connection.Connection.{Connection}
use Rattle.rules.specs.ByAddress.{put}
use Rattle.rules.specs.Core.{Core, dues_at}
use Rattle.rules.specs.Dues.{earliest}
use Rattle.rules.specs.Fit.{Sendable}
use Rattle.rules.specs.Limits.{connections}
use Rattle.rules.specs.Reports.{listed}
use Rattle.rules.specs.Rows.{untimely}
use Rattle.rules.specs.Rules.{bit, rule}
use Rattle.table.specs.declared.place.Place.{Place}
use Rattle.table.specs.declared.place.Outcome.{Outcome}
use Rattle.table.specs.declared.table.Table.{Table}
use Rattle.table.specs.declared.tick.Tick.{Tick}
use Rattle.table.specs.Places.{find, used}

-- the core of a clock, a wait and places
abbrev pub held : ℕ → ℕ → List (Option Place) → Core
held clock wait ss = record { clock = clock; wait = wait; at = find ss; count = used ss }

-- the core of a table: which connection is where, by address
abbrev pub core_of : Table → Core
core_of t = held t.clock t.wait t.slots

-- at the tick t the connection at the address a becomes o
abbrev pub moved : ℕ → Address → Option Connection → Core → Core
moved t a o s = record { clock = t; wait = s.wait; at = put s.at a o; count = (s.count + bit o) - bit (s.at a) }

-- the rows that every operation begins with; in_range is whether its values are within their ranges
abbrev pub heads : ℕ → Address → Bool → Core → List (Bool × Refusal)
heads t a in_range s = untimely t s ∷ (not (lawful_address a && in_range), OutOfRange) ∷ (is_some (earliest (dues_at s) t), ItemDue) ∷ []

-- x where nothing refuses, else the refusal
abbrev pub admitted : {X : Type 0} → X → Option Refusal → Result X Refusal
admitted x None = Ok x
admitted x (Some e) = Err e

-- the tick of a call, or its refusal
abbrev pub tick_of : Result Tick Refusal → Result ℕ Refusal
tick_of (Ok t) = Ok t.at
tick_of (Err e) = Err e

-- a new connection has a place, and only one that is there ends
abbrev pub RoomFor : Bool → ℕ → Option Connection → Type 0
RoomFor true n o = Unit {0}
RoomFor false n o = (n < connections) × (is_some o ≡ true)

-- what a call of a table answers, as a reply
abbrev pub told : Result Outcome Refusal → Reply
told (Ok x) = Done x.order
told (Err e) = Refused e

-- the reports that it hands out
abbrev pub sent_by : Result Outcome Refusal → List Report
sent_by (Ok x) = listed x.report
sent_by (Err e) = []

-- a refused call leaves the whole table as it was
abbrev pub UnlessRefused : Result Outcome Refusal → Table → Table → Type 0
UnlessRefused (Ok x) before after = Unit {0}
UnlessRefused (Err e) before after = after ≡ before

-- A call of a table follows the rule: the core that it leaves, its reply and the reports sent are the rule's. A report that it hands out is within
-- the frame's rules and has a free place, and a refusal alters nothing.
pub record FollowsRule (room : Bool) (call : Call) (before : Table) (r : Result Outcome Refusal) (after : Table) : Type 0 where
  pub core : core_of after ≡ (rule room call (core_of before)).core
  pub reply : told r ≡ (rule room call (core_of before)).reply
  pub sent : sent_by r ≡ (rule room call (core_of before)).sent
  pub sendable : Sendable room (sent_by r)
  pub unaltered : UnlessRefused r before after
