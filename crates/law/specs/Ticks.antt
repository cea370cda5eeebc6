-- The answered ticks of a connection, counted tick by tick. Assumes nothing.
use Rattle.std.specs.Prelude.{ℕ, zero, suc, ◌+◌, ◌-◌, cond, List, [], ◌∷◌, Some, None, Option, ◌==◌, nat_le}

-- how many switches are at or before the tick x
abbrev pub passed : List ℕ → ℕ → ℕ
passed [] x = 0
passed (s ∷ ss) x = cond (nat_le s x) 1 0 + passed ss x

-- of the n ticks from the answer on, those with k − 1 switches at or before them
abbrev pub tally : List ℕ → ℕ → ℕ → ℕ → ℕ
tally ss k answer zero = 0
tally ss k answer (suc n) = tally ss k answer n + cond (passed ss (answer + n) + 1 == k) 1 0

-- the answered ticks of tariff k: from the answer, included, to the tick d, excluded; before an answer there are none
abbrev pub answered_ticks : Option ℕ → List ℕ → ℕ → ℕ → ℕ
answered_ticks None ss d k = 0
answered_ticks (Some answer) ss d k = tally ss k answer (d - answer)

-- the whole answered time, from answer to end
abbrev pub whole_time : Option ℕ → ℕ → ℕ
whole_time None d = 0
whole_time (Some answer) d = d - answer
