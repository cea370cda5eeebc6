-- Places with connections, by address. Assumes nothing.
use Rattle.std.specs.Prelude.{ℕ, Bool, true, false, cond, not, ◌&&◌, List, [], ◌∷◌, slice_index_or, is_some, Some, None, Option}
use Rattle.std.specs.List.{count_by}
use Rattle.report.specs.declared.report.Address.{Address}
use Rattle.report.specs.Lawful.{same}
use Rattle.rules.specs.declared.connection.Connection.{Connection}
use Rattle.rules.specs.Fit.{fit}
use Rattle.table.specs.declared.place.Place.{Place}

-- whether a place has the address a
abbrev pub holds : Address → Option Place → Bool
holds a None = false
holds a (Some p) = same a p.address

-- the connection in a place
abbrev pub within : Option Place → Option Connection
within None = None
within (Some p) = Some p.connection

-- the connection at an address
abbrev pub find : List (Option Place) → Address → Option Connection
find [] a = None
find (s ∷ ss) a = cond (holds a s) (within s) (find ss a)

-- what stands in a place; nothing where there is no such place
abbrev pub in_place : List (Option Place) → Option ℕ → Option Place
in_place ss None = None
in_place ss (Some i) = slice_index_or ss i None

-- whether a place is free
abbrev pub is_free : Option Place → Bool
is_free s = not (is_some s)

-- how many places are taken
unfoldable pub used : List (Option Place) → ℕ
used ss = count_by is_some ss

-- no place further on has the address of this one
abbrev pub alone : Option Place → List (Option Place) → Bool
alone None ss = true
alone (Some p) ss = not (is_some (find ss p.address))

-- no two places have one address
abbrev pub distinct : List (Option Place) → Bool
distinct [] = true
distinct (s ∷ ss) = alone s ss && distinct ss

-- the connection in a place is fit at the clock
abbrev pub fit_place : ℕ → Option Place → Bool
fit_place clock None = true
fit_place clock (Some p) = fit clock p.address p.connection
