-- The digits of a number: the table that they are read from, and a number's last two, four or eight digits apart from the others. Assumes nothing.
use Rattle.std.proofs.Common.{◌≡◌, ℕ, zero, suc, ◌+◌, ◌-◌, ◌*◌, ◌/◌, ◌%◌, ◌^◌, ◌<◌, ◌≤◌, Bool, true, T, ◌&&◌, eqb, ◌++◌, get_or, length, decimal, ap, ◌∙◌, append_assoc, length-append, inl, inr, arith, eq-zero-or-pos, eqb→eq}
use Rattle.std.proofs.lemmas.Fmt.{decimal_digit, decimal_step, length-decimal-le}
use lib.Ieee.Fits.{and_l, and_r}
use Rattle.lines.specs.declared.decimal.TheConstants.{PAIRS}
use Rattle.lines.specs.Digits.{two_digits, four_digits, eight_digits, decimal_size, long_size}

abbrev are_pairs : ℕ → Bool
are_pairs zero = true
are_pairs (suc n) = (eqb (get_or PAIRS (n * 2) 0) (48 + n / 10) && eqb (get_or PAIRS (n * 2 + 1) 0) (48 + n % 10)) && are_pairs n

below : (m n : ℕ) → T (are_pairs m) → n < m → (get_or PAIRS (n * 2) 0 ≡ 48 + n / 10) × (get_or PAIRS (n * 2 + 1) 0 ≡ 48 + n % 10)
below zero n t lt = absurd (omega arith)
below (suc m) n t lt =
    elim (eq-zero-or-pos (m - n)) [
      | inl z ↦ let e : n ≡ m = omega arith in let here = and_l _ (are_pairs m) t in rw e (eqb→eq _ _ (and_l _ _ here), eqb→eq _ _ (and_r _ _ here))
      | inr g ↦ below m n (and_r _ (are_pairs m) t) (omega arith)
    ]

-- what the table of digits holds
pub PAIRS_at : (n : ℕ) → n < 100 → (get_or PAIRS (n * 2) 0 ≡ 48 + n / 10) × (get_or PAIRS (n * 2 + 1) 0 ≡ 48 + n % 10)
PAIRS_at n lt = below 100 n tt lt

pub decimal_two : (n : ℕ) → 10 ≤ n → n < 100 → decimal n ≡ two_digits n
decimal_two n lo hi = rw (decimal_step n lo (omega arith), decimal_digit (n / 10) (omega arith))

pub decimal-two : (n : ℕ) → 100 ≤ n → n < 2 ^ 64 → decimal n ≡ decimal (n / 100) ++ two_digits (n % 100)
decimal-two n lo hi =
    let a : n / 10 / 10 ≡ n / 100 = omega arith in
    let b : n / 10 % 10 ≡ n % 100 / 10 = omega arith in
    let c : n % 10 ≡ n % 100 % 10 = omega arith in
    rw (decimal_step n (omega arith) hi, decimal_step (n / 10) (omega arith) (omega arith), append_assoc, a, b, ← c)

pub decimal-four : (n : ℕ) → 10000 ≤ n → n < 2 ^ 64 → decimal n ≡ decimal (n / 10000) ++ four_digits (n % 10000)
decimal-four n lo hi =
    let a : n / 100 / 100 ≡ n / 10000 = omega arith in
    let b : n / 100 % 100 ≡ n % 10000 / 100 = omega arith in
    let c : n % 10000 % 100 ≡ n % 100 = omega arith in
    rw (decimal-two n (omega arith) hi, decimal-two (n / 100) (omega arith) (omega arith), append_assoc, a, b, c)

pub decimal-eight : (n : ℕ) → 100000000 ≤ n → n < 2 ^ 64 → decimal n ≡ decimal (n / 100000000) ++ eight_digits (n % 100000000)
decimal-eight n lo hi =
    let a : n / 10000 / 10000 ≡ n / 100000000 = omega arith in
    let b : n / 10000 % 10000 ≡ n % 100000000 / 10000 = omega arith in
    let c : n % 100000000 % 10000 ≡ n % 10000 = omega arith in
    rw (decimal-four n (omega arith) hi, decimal-four (n / 10000) (omega arith) (omega arith), append_assoc (decimal (n / 10000 / 10000)) (four_digits (n / 10000 % 10000)) (four_digits (n % 10000)), a, b, c)

pub length-decimal : (n : ℕ) → n < 2 ^ 32 → length (decimal n) ≤ decimal_size
length-decimal n fits = length-decimal-le 10 n (omega arith) (omega arith) (omega arith)

pub length-long : (n : ℕ) → n < 2 ^ 64 → length (decimal n) ≤ long_size
length-long n fits = length-decimal-le 20 n (omega arith) (omega arith) (omega arith)

pub ruleset lengths = (length-decimal, length-append)

pub ruleset decimals = (length-decimal, length-long, PAIRS_at, decimal_digit, decimal_two, decimal-two, decimal-four, decimal-eight)
