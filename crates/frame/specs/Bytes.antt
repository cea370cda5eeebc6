-- Numbers in bytes, the least byte first. Assumes nothing.
use Rattle.std.specs.Prelude.{ℕ, ◌+◌, ◌*◌, ◌/◌, ◌%◌, ◌<◌, List, [], ◌∷◌, slice_index}

-- the two bytes of a number
abbrev pub le16 : ℕ → List ℕ
le16 n = n % 256 ∷ n / 256 % 256 ∷ []

-- the four bytes of a number
abbrev pub le32 : ℕ → List ℕ
le32 n = n % 256 ∷ n / 256 % 256 ∷ n / 65536 % 256 ∷ n / 16777216 % 256 ∷ []

-- the number in the two bytes from place i on
abbrev pub at16 : List ℕ → ℕ → ℕ
at16 b i = slice_index b i + slice_index b (i + 1) * 256

-- the number in the four bytes from place i on
abbrev pub at32 : List ℕ → ℕ → ℕ
at32 b i = slice_index b i + slice_index b (i + 1) * 256 + slice_index b (i + 2) * 65536 + slice_index b (i + 3) * 16777216

-- each of them is a byte
abbrev pub AllBytes : List ℕ → Type 0
AllBytes b = (k : ℕ) → slice_index b k < 256
