-- Calls played one after another over a ring of reports, by computation. Assumes nothing.
use Rattle.std.specs.Prelude.{ℕ, ◌+◌, ◌-◌, List, [], ◌∷◌, ◌++◌, length}
use Rattle.report.specs.declared.report.Report.{Report}
use Rattle.report.specs.declared.refusal.Refusal.TheVariants.{NothingWaits}
use Rattle.rules.specs.declared.call.Call.{Call}
use Rattle.rules.specs.declared.call.Call.TheVariants.{On, Fire, Take}
use Rattle.rules.specs.declared.call.Reply.{Reply}
use Rattle.rules.specs.declared.call.Reply.TheVariants.{Refused, Took}
use Rattle.rules.specs.Core.{start}
use Rattle.rules.specs.Rules.{Ruled, rule}
use Rattle.rules.specs.Steps.{State, room}

-- what a call leaves, and its reply
pub record Turn : Type 0 where
  pub state : State
  pub reply : Reply

-- a call that carries a tick: what it sends is appended
abbrev pub ruled_turn : State → Ruled → Turn
ruled_turn s r = record { state = record { core = r.core; view = record { waiting = s.view.waiting ++ r.sent; free = s.view.free - length r.sent; capacity = s.view.capacity } }; reply = r.reply }

-- a take: the oldest report goes, and its place is free
abbrev pub take_turn : State → List Report → Turn
take_turn s [] = record { state = s; reply = Refused NothingWaits }
take_turn s (r ∷ rs) = record { state = record { core = s.core; view = record { waiting = rs; free = s.view.free + 1; capacity = s.view.capacity } }; reply = Took r }

-- any call
abbrev pub turn : Call → State → Turn
turn (On t a x) s = ruled_turn s (rule (room s) (On t a x) s.core)
turn (Fire t) s = ruled_turn s (rule (room s) (Fire t) s.core)
turn Take s = take_turn s s.view.waiting

-- the replies to calls
abbrev pub plays : State → List Call → List Reply
plays s [] = []
plays s (c ∷ cs) = (turn c s).reply ∷ plays (turn c s).state cs

-- what calls leave
abbrev pub left : State → List Call → State
left s [] = s
left s (c ∷ cs) = left (turn c s).state cs

-- a new engine with the wait w over an empty ring with so many places
abbrev pub ring : ℕ → ℕ → State
ring w places = record { core = start w; view = record { waiting = []; free = places; capacity = places } }
