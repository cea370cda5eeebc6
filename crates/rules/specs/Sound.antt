-- What every connection keeps to, so that no number of it outgrows its type. Assumes nothing.
use Rattle.std.specs.Prelude.{◌≡◌, ℕ, Bool, true, false, ◌&&◌, is_some, Some, None, Option, nat_le, nat_lt}
use Rattle.report.specs.declared.report.Address.{Address}
use Rattle.report.specs.Limits.{last_tick}
use Rattle.rules.specs.declared.call.Call.{Call}
use Rattle.rules.specs.declared.connection.Period.{Period}
use Rattle.rules.specs.declared.connection.Connection.{Connection}
use Rattle.rules.specs.Limits.{most_instructions, most_switches, longest_period}
use Rattle.rules.specs.Core.{Core}
use Rattle.rules.specs.Rows.{rows, first}
use Rattle.rules.specs.Rules.{effect}

-- a number that may be there is at most n
abbrev pub at_most : ℕ → Option ℕ → Bool
at_most n None = true
at_most n (Some x) = nat_le x n

-- an open period is no longer than a period may be, and was given by the last tick
abbrev pub period_fits : Option Period → Bool
period_fits None = true
period_fits (Some p) = nat_le p.maximum longest_period && nat_le p.given last_tick

-- if a, then b
abbrev pub implies : Bool → Bool → Bool
implies true b = b
implies false b = true

-- No more instructions than there may be, and no more reports sent than instructions had; an open period's report is still to come. No more
-- switches counted than there may be, and fewer while one is pending. A period that ended, or was given, did so by the last tick.
abbrev pub sound : Connection → Bool
sound c = nat_le c.grant.had most_instructions
    && (nat_le c.sent c.grant.had
    && (implies (is_some c.grant.period) (nat_lt c.sent c.grant.had)
    && (implies (is_some c.dues.end) (is_some c.grant.period)
    && (nat_le c.meter.switches most_switches
    && (implies (is_some c.dues.tariff) (nat_lt c.meter.switches most_switches)
    && (at_most last_tick c.grant.previous
    && period_fits c.grant.period))))))

-- every connection of an engine is so
abbrev pub AllSound : Core → Type 0
AllSound s = (a : Address) (c : Connection) → s.at a ≡ Some c → sound c ≡ true

-- An admitted call leaves every connection so; a refused one leaves all as it was, and a new engine has none.
abbrev pub StaysSound : Type 0
StaysSound = (room : Bool) (c : Call) (s : Core) → first (rows room c s) ≡ None → AllSound s → AllSound (effect c s)
