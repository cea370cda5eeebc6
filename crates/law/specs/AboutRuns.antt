-- Which runs there are, what they leave in the link, and how many firings they can hold. Assumes nothing.
use Rattle.std.specs.Prelude.{◌≡◌, ℕ, ◌-◌, ◌*◌, ◌≤◌, Bool, true, ◌&&◌, List, [], ◌∷◌, ◌++◌, length}
use Rattle.report.specs.declared.report.Report.{Report}
use Rattle.rules.specs.declared.call.Call.{Call}
use Rattle.rules.specs.declared.call.Reply.{Reply}
use Rattle.rules.specs.Limits.{connections, timers}
use Rattle.rules.specs.Core.{start}
use Rattle.rules.specs.Rules.{rule}
use Rattle.link.specs.Links.{View}
use Rattle.rules.specs.Steps.{State, room, Follows, Run}
use Rattle.rules.specs.Fit.{AllFit}
use Rattle.law.specs.Law.{admitted, firings}

-- from every fit engine over every link, every list of calls has a run; a new engine is fit
abbrev pub NeverStuck : Type 0
NeverStuck = (s : State) (calls : List Call) → AllFit s.core → (replies : List Reply) × (s' : State) × Run s calls replies s'

-- what a beginning of a run was answered, and where it led: the rest goes on from there
pub record Begins (s : State) (calls more : List Call) (replies : List Reply) (s' : State) : Type 0 where
  pub answered : List Reply
  pub rest : List Reply
  pub between : State
  pub all : replies ≡ answered ++ rest
  pub first_part : Run s calls answered between
  pub second_part : Run between more rest s'

-- every beginning of a run is a run, so what holds after every run holds at each call of one
abbrev pub Beginnings : Type 0
Beginnings = (calls more : List Call) (replies : List Reply) (s s' : State) → Run s (calls ++ more) replies s' → Begins s calls more replies s'

-- a link with reports after those that waited, and a free place used for each
abbrev pub appended : View → List Report → View
appended v rs = record { waiting = v.waiting ++ rs; free = v.free - length rs; capacity = v.capacity }

-- a call that carries a tick leaves the link with what it sends appended, and nothing else of it altered
abbrev pub Appends : Type 0
Appends = (c : Call) (s s' : State) (r : Reply) → Follows (rule (room s) c s.core) s r s' → s'.view ≡ appended s.view (rule (room s) c s.core).sent

-- whether all calls were admitted
abbrev pub all_admitted : List Reply → Bool
all_admitted [] = true
all_admitted (r ∷ rs) = admitted r && all_admitted rs

-- after any run, no more firings at one tick are admitted in a row than there can be timers
abbrev pub FiringsStop : Type 0
FiringsStop = (w : ℕ) (calls : List Call) (replies : List Reply) (v : View) (s s' : State) (t n : ℕ) (rs : List Reply) → v.waiting ≡ [] → Run (record { core = start w; view = v }) calls replies s → Run s (firings n t) rs s' → all_admitted rs ≡ true → n ≤ connections * timers
