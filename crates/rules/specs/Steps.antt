-- What a call does to an engine and its link. Assumes nothing.
use Rattle.std.specs.Prelude.{◌≡◌, Bool, List, [], ◌∷◌, ◌++◌, Ok, Err, Result, nat_lt}
use Rattle.report.specs.declared.report.Report.{Report}
use Rattle.report.specs.declared.refusal.Refusal.{Refusal}
use Rattle.rules.specs.declared.call.Call.{Call}
use Rattle.rules.specs.declared.call.Call.TheVariants.{On, Fire, Take}
use Rattle.rules.specs.declared.call.Reply.{Reply}
use Rattle.rules.specs.declared.call.Reply.TheVariants.{Refused, Done, Took}
use Rattle.rules.specs.Core.{Core}
use Rattle.rules.specs.Rules.{Ruled, rule}
use Rattle.link.specs.Links.{View, Sends, Takes}

-- an engine over a link
pub record State : Type 0 where
  pub core : Core
  pub view : View

-- the reports are handed to the link one after another, and the link takes each
abbrev pub Delivers : List Report → View → View → Type 0
Delivers [] v w = w ≡ v
Delivers (r ∷ rs) v w = (u : View) × Sends v r (Ok tt) u × Delivers rs u w

-- whether the link has a free place
abbrev pub room : State → Bool
room s = nat_lt 0 s.view.free

-- a call leaves the core that the rule says, is answered so, and hands its reports to the link
pub record Follows (rule : Ruled) (before : State) (r : Reply) (after : State) : Type 0 where
  pub core : after.core ≡ rule.core
  pub reply : r ≡ rule.reply
  pub view : Delivers rule.sent before.view after.view

-- the reply of a take
abbrev pub took : Result Report Refusal → Reply
took (Ok r) = Took r
took (Err e) = Refused e

-- a take is the link's, and leaves the core as it was
pub record TakesFrom (before : State) (r : Reply) (after : State) : Type 0 where
  pub core : after.core ≡ before.core
  pub answer : Result Report Refusal
  pub reply : r ≡ took answer
  pub view : Takes before.view answer after.view

-- what a call does
abbrev pub Does : Call → State → Reply → State → Type 0
Does (On t a x) s r s' = Follows (rule (room s) (On t a x) s.core) s r s'
Does (Fire t) s r s' = Follows (rule (room s) (Fire t) s.core) s r s'
Does Take s r s' = TakesFrom s r s'

-- each call in its turn, by the rules
pub data Run : State → List Call → List Reply → State → Type 0 where
  over : {s : State} → Run s [] [] s
  then : {s m s' : State} {c : Call} {r : Reply} {cs : List Call} {rs : List Reply} → Does c s r m → Run m cs rs s' → Run s (c ∷ cs) (r ∷ rs) s'

-- the report that a reply hands out
abbrev pub handed : Reply → List Report
handed (Refused e) = []
handed (Done o) = []
handed (Took r) = r ∷ []

-- the reports that the takes of a run handed out, in order
abbrev pub taken : List Reply → List Report
taken [] = []
taken (r ∷ rs) = handed r ++ taken rs
