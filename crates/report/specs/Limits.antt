-- The numbers that bound a call, each under one name. Assumes nothing.
use Rattle.std.specs.Prelude.{ℕ}

-- the last tick that a call or a report can carry; a tick is a tenth of a second
abbrev pub last_tick : ℕ
last_tick = 2000000000

-- kinds of address: 1 a leg, 2 a temporary or SRF connection
abbrev pub address_kinds : ℕ
address_kinds = 2

-- addresses of one kind are numbered from 1 up to this
abbrev pub address_numbers : ℕ
address_numbers = 127

-- the reports of one connection are numbered from 1 up to this
abbrev pub report_numbers : ℕ
report_numbers = 10000

-- a report speaks of party 1 or 2
abbrev pub parties : ℕ
parties = 2

-- an account has ticks for tariffs 1 up to this
abbrev pub tariffs : ℕ
tariffs = 16

-- so many accounts can be open at once
abbrev pub open_accounts : ℕ
open_accounts = 16
