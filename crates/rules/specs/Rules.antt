-- The rule of every call that carries a tick. Assumes nothing.
use Rattle.std.specs.Prelude.{ℕ, ◌+◌, ◌-◌, Bool, List, [], Some, None, Option}
use Rattle.report.specs.declared.report.Report.{Report}
use Rattle.report.specs.declared.refusal.Refusal.{Refusal}
use Rattle.rules.specs.declared.call.Call.{Call}
use Rattle.rules.specs.declared.call.OrderKind.TheVariants as order-kind
use Rattle.rules.specs.declared.call.Order.{Order}
use Rattle.rules.specs.declared.call.Reply.{Reply}
use Rattle.rules.specs.declared.call.Reply.TheVariants.{Refused, Done}
use Rattle.rules.specs.ByAddress.{put}
use Rattle.rules.specs.Occurrences.{Occurrence, occurrence}
use Rattle.rules.specs.Core.{Core, dues_at, tick}
use Rattle.rules.specs.Changes.{becomes}
use Rattle.rules.specs.Reports.{sends}
use Rattle.rules.specs.Orders.{orders}
use Rattle.rules.specs.Rows.{rows, first}

-- 1 where there is something, else 0
abbrev pub bit : {X : Type 0} → Option X → ℕ
bit None = 0
bit (Some x) = 1

-- the core after an occurrence: the clock is at the call's tick, and one connection has become what it becomes
abbrev pub after : Option Occurrence → Core → Core
after None s = s
after (Some x) s = let new = becomes s.wait x (s.at x.address) in
    record { clock = x.at; wait = s.wait; at = put s.at x.address new; count = (s.count + bit new) - bit (s.at x.address) }

-- the reports of an occurrence
abbrev pub reports_of : Option Occurrence → Core → List Report
reports_of None s = []
reports_of (Some x) s = sends x (s.at x.address)

-- the order of an occurrence
abbrev pub order_of : Option Occurrence → Core → Order
order_of None s = record { address = record { kind = 0; number = 0 }; kind = order-kind.Nothing }
order_of (Some x) s = orders x (s.at x.address)

-- the core that an admitted call leaves
abbrev pub effect : Call → Core → Core
effect c s = after (occurrence (dues_at s) (tick c) c) s

-- the reports that an admitted call sends
abbrev pub reports : Call → Core → List Report
reports c s = reports_of (occurrence (dues_at s) (tick c) c) s

-- the order that an admitted call writes
abbrev pub order : Call → Core → Order
order c s = order_of (occurrence (dues_at s) (tick c) c) s

-- what a call comes to: the core that it leaves, the reports that it sends, and its reply
pub record Ruled : Type 0 where
  pub core : Core
  pub sent : List Report
  pub reply : Reply

-- by the refusal, if there is one; a refusal alters nothing
abbrev pub ruled : Call → Core → Option Refusal → Ruled
ruled c s (Some e) = record { core = s; sent = []; reply = Refused e }
ruled c s None = record { core = effect c s; sent = reports c s; reply = Done (order c s) }

-- the rule: room is whether the link has a free place
abbrev pub rule : Bool → Call → Core → Ruled
rule room c s = ruled c s (first (rows room c s))
