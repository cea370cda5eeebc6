-- What an engine holds besides its link. Assumes nothing.
use Rattle.std.specs.Prelude.{ℕ, Some, None, Option}
use Rattle.report.specs.declared.report.Address.{Address}
use Rattle.rules.specs.declared.call.Call.{Call}
use Rattle.rules.specs.declared.call.Call.TheVariants.{On, Fire, Take}
use Rattle.rules.specs.declared.due.Dues.{Dues}
use Rattle.rules.specs.declared.connection.Stage.{Stage}
use Rattle.rules.specs.declared.connection.Stage.TheVariants.{Consultation, Waiting, Answered}
use Rattle.rules.specs.declared.connection.Connection.{Connection}
use Rattle.rules.specs.Ranges.{clamped}
use Rattle.rules.specs.Periods.{none_due}

-- the clock, the wait, the connection at each address, and how many connections there are
pub record Core : Type 0 where
  pub clock : ℕ
  pub wait : ℕ
  pub at : Address → Option Connection
  pub count : ℕ

-- a new engine: the clock is at 0, and there is no connection
abbrev pub start : ℕ → Core
start w = record { clock = 0; wait = clamped w; at = λ a. None; count = 0 }

-- what is due of a connection; nothing where there is none
abbrev pub dues_in : Option Connection → Dues
dues_in None = none_due
dues_in (Some c) = c.dues

-- what is due at each address
abbrev pub dues_at : Core → Address → Dues
dues_at s a = dues_in (s.at a)

-- the tick that a call carries; take carries none
abbrev pub tick : Call → ℕ
tick (On t a x) = t
tick (Fire t) = t
tick Take = 0

-- the answer's tick, if there was an answer
abbrev pub answered_at : Stage → Option ℕ
answered_at Consultation = None
answered_at Waiting = None
answered_at (Answered t) = Some t
