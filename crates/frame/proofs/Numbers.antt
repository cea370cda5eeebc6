-- A number and its bytes, the least byte first, tell each other. Assumes nothing.
use Rattle.std.proofs.Common.{◌≡◌, ℕ, ◌+◌, ◌*◌, ◌/◌, ◌%◌, ◌<◌, [], ◌∷◌, sym, ap, ◌∙◌, arith}
use Rattle.std.proofs.lemmas.Nat.{shr-shr}
use Rattle.frame.specs.Bytes.{le16, le32}

-- division by a power of 256 goes byte by byte
by_bytes : (n : ℕ) → (n / 65536 ≡ n / 256 / 256) × (n / 16777216 ≡ n / 256 / 256 / 256)
by_bytes n =
    let e : n / 256 / 256 ≡ n / 65536 = shr-shr n 8 8 in
    let f : n / 256 / 256 / 256 ≡ n / 16777216 = ap (λ m. m / 256) e ∙ shr-shr n 16 8 in
    (sym e, sym f)

-- two bytes of a number make the number
pub le16_number : (n x y : ℕ) → n < 65536 → x ≡ n % 256 → y ≡ n / 256 % 256 → x + y * 256 ≡ n
le16_number n x y h a b = omega arith

nested : (n x y z w : ℕ) → n < 4294967296 → x ≡ n % 256 → y ≡ n / 256 % 256 → z ≡ n / 256 / 256 % 256 → w ≡ n / 256 / 256 / 256 % 256 → x + y * 256 + z * 65536 + w * 16777216 ≡ n
nested n x y z w h a b c d = omega arith

-- four bytes of a number make the number
pub le32_number : (n x y z w : ℕ) → n < 4294967296 → x ≡ n % 256 → y ≡ n / 256 % 256 → z ≡ n / 65536 % 256 → w ≡ n / 16777216 % 256 → x + y * 256 + z * 65536 + w * 16777216 ≡ n
le32_number n x y z w h a b c d =
    let e = by_bytes n in
    nested n x y z w h a b (c ∙ ap (λ m. m % 256) e.0) (d ∙ ap (λ m. m % 256) e.1)

-- the number that two bytes make has those bytes
pub le16_bytes : (n x y : ℕ) → x < 256 → y < 256 → n ≡ x + y * 256 → le16 n ≡ x ∷ y ∷ []
le16_bytes n x y h k e =
    let v : (n % 256 ≡ x) × (n / 256 % 256 ≡ y) = omega arith in
    λ i. v.0 i ∷ v.1 i ∷ []

-- the number that four bytes make has those bytes
pub le32_bytes : (n x y z w : ℕ) → x < 256 → y < 256 → z < 256 → w < 256 → n ≡ x + y * 256 + z * 65536 + w * 16777216 → le32 n ≡ x ∷ y ∷ z ∷ w ∷ []
le32_bytes n x y z w h k l m e =
    let d = by_bytes n in
    let v : (n % 256 ≡ x) × (n / 256 % 256 ≡ y) × (n / 65536 % 256 ≡ z) × (n / 16777216 % 256 ≡ w) = omega arith in
    λ i. v.0 i ∷ v.1 i ∷ v.2 i ∷ v.3 i ∷ []
