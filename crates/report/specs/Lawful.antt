-- The frame's rules on a report. Assumes nothing.
use Rattle.std.specs.Prelude.{ℕ, ◌+◌, Bool, true, false, ◌&&◌, Some, None, Option, ◌==◌, nat_le}
use Rattle.report.specs.declared.report.Address.{Address}
use Rattle.report.specs.declared.report.Elapsed.{Elapsed}
use Rattle.report.specs.declared.report.Elapsed.TheVariants.{Plain, Switched}
use Rattle.report.specs.declared.report.Standing.{Standing}
use Rattle.report.specs.declared.report.Standing.TheVariants.{Active, Ended, Released}
use Rattle.report.specs.declared.report.Report.{Report}
use Rattle.report.specs.Limits.{last_tick, address_kinds, address_numbers, report_numbers, parties}

-- n is from low to high, both included
abbrev pub within : ℕ → ℕ → ℕ → Bool
within low high n = nat_le low n && nat_le n high

-- a leg or a temporary connection, with a number from 1 to 127
abbrev pub lawful_address : Address → Bool
lawful_address a = within 1 address_kinds a.kind && within 1 address_numbers a.number

-- x and a are one address
abbrev pub same : Address → Address → Bool
same x a = x.kind == a.kind && x.number == a.number

-- the elapsed time, in either form
abbrev pub time_of : Elapsed → ℕ
time_of (Plain n) = n
time_of (Switched n i) = n

-- an absent number counts as 0
abbrev pub or_zero : Option ℕ → ℕ
or_zero None = 0
or_zero (Some i) = i

-- the interval, 0 where there is none
abbrev pub interval_of : Elapsed → ℕ
interval_of (Plain n) = 0
interval_of (Switched n i) = or_zero i

-- an interval that is present is not 0
abbrev pub some_counted : Option ℕ → Bool
some_counted None = true
some_counted (Some i) = nat_le 1 i

abbrev pub counted : Elapsed → Bool
counted (Plain n) = true
counted (Switched n i) = some_counted i

-- a last report is not active; only the release mark's ending is released at expiry
abbrev pub is_active : Standing → Bool
is_active Active = true
is_active Ended = false
is_active Released = false

abbrev pub is_released : Standing → Bool
is_released Active = false
is_released Ended = false
is_released Released = true

-- the frame's rules: every field within its range, and time and interval together not past the tick
abbrev pub lawful : Report → Bool
lawful r = lawful_address r.address && within 1 report_numbers r.number && within 1 parties r.party && nat_le r.tick last_tick && counted r.elapsed && nat_le (time_of r.elapsed + interval_of r.elapsed) r.tick
