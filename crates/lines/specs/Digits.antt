-- The digits of a number. Assumes nothing.
use Rattle.std.specs.Prelude.{ℕ, ◌+◌, ◌/◌, ◌%◌, List, [], ◌∷◌, ◌++◌}

-- the two digits of a number below 10 ^ 2
abbrev pub two_digits : ℕ → List ℕ
two_digits n = (48 + n / 10) ∷ (48 + n % 10) ∷ []

-- the four digits of a number below 10 ^ 4
abbrev pub four_digits : ℕ → List ℕ
four_digits n = two_digits (n / 100) ++ two_digits (n % 100)

-- the eight digits of a number below 10 ^ 8
abbrev pub eight_digits : ℕ → List ℕ
eight_digits n = four_digits (n / 10000) ++ four_digits (n % 10000)

-- no number of 32 bits has more digits
abbrev pub decimal_size : ℕ
decimal_size = 10

-- no number of 64 bits has more digits
abbrev pub long_size : ℕ
long_size = 20
