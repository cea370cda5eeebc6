-- Which values of a call are within their ranges. Assumes nothing.
use Rattle.std.specs.Prelude.{ℕ, Bool, true, cond, ◌&&◌, List, [], ◌∷◌, Some, None, Option, nat_le, nat_lt}
use Rattle.report.specs.Limits.{report_numbers, parties}
use Rattle.report.specs.Lawful.{within}
use Rattle.rules.specs.declared.call.SecondSet.{SecondSet}
use Rattle.rules.specs.declared.call.Operation.{Operation}
use Rattle.rules.specs.declared.call.Operation.TheVariants.{SetUp, Continue, Bar, Instruct, Advise, Answer, Disconnect, Confirm, Repeat}
use Rattle.rules.specs.Limits.{longest_period, longest_switch, largest_e_value, longest_wait}

-- the wait that an engine keeps to: the one given, clamped to 1 to 600
abbrev pub clamped : ℕ → ℕ
clamped w = cond (nat_lt w 1) 1 (cond (nat_lt longest_wait w) longest_wait w)

-- a tariff switch, if one is asked, comes 1 to 86,400 seconds later
abbrev pub seconds_fit : Option ℕ → Bool
seconds_fit None = true
seconds_fit (Some n) = within 1 longest_switch n

-- each e-value is absent or 0 to 8,191
abbrev pub values_fit : List (Option ℕ) → Bool
values_fit [] = true
values_fit (None ∷ vs) = values_fit vs
values_fit (Some v ∷ vs) = nat_le v largest_e_value && values_fit vs

-- a second set, if there is one, has e-values too, and comes 1 to 86,400 seconds later
abbrev pub second_fits : Option SecondSet → Bool
second_fits None = true
second_fits (Some s) = values_fit s.set.values && within 1 longest_switch s.seconds

-- every value of a call, but for its tick and address
abbrev pub fits : Operation → Bool
fits SetUp = true
fits Continue = true
fits Bar = true
fits (Instruct i) = within 1 longest_period i.maximum && within 1 parties i.party && seconds_fit i.switch
fits (Advise a) = values_fit a.first.values && second_fits a.second
fits Answer = true
fits Disconnect = true
fits (Confirm n) = within 1 report_numbers n
fits Repeat = true
