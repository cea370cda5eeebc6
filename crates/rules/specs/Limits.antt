-- The numbers that bound an engine's calls, each under one name. Assumes nothing.
use Rattle.std.specs.Prelude.{ℕ, ◌-◌}
use Rattle.report.specs.Limits.{tariffs}

-- a second has so many ticks
abbrev pub second : ℕ
second = 10

-- an engine holds up to so many connections
abbrev pub connections : ℕ
connections = 16

-- a connection has up to so many instructions
abbrev pub most_instructions : ℕ
most_instructions = 9999

-- a connection has up to so many tariff switches: each leads to one tariff more
abbrev pub most_switches : ℕ
most_switches = tariffs - 1

-- the longest period, in ticks
abbrev pub longest_period : ℕ
longest_period = 864000

-- a switch comes at most so many seconds after its call
abbrev pub longest_switch : ℕ
longest_switch = 86400

-- the largest e-value
abbrev pub largest_e_value : ℕ
largest_e_value = 8191

-- the longest wait for a confirmation, in ticks; the shortest is 1
abbrev pub longest_wait : ℕ
longest_wait = 600

-- a connection has so many timers
abbrev pub timers : ℕ
timers = 5
