-- Of how many addresses a test is true. Assumes nothing.
use Rattle.std.proofs.Common.{◌≡◌, ℕ, zero, suc, ◌+◌, ◌<◌, ◌≤◌, Bool, true, false, ◌⊎◌, sym, refl, ap, ◌∙◌, subst, inl, inr, arith}
use Rattle.std.proofs.lemmas.Bool.{cases_eq}
use Rattle.report.specs.declared.report.Address.{Address}
use Rattle.report.specs.Lawful.{lawful_address}
use Rattle.report.specs.Limits.{address_numbers}
use Rattle.report.proofs.Addresses.{kinds}
use Rattle.account.specs.Rule.{bit_of, many_to, many}

-- a test that is true wherever another is, is true at least as often
bit_le : (a b : Bool) → (a ≡ true → b ≡ true) → bit_of a ≤ bit_of b
bit_le true b h = let e = h refl in rw e (omega arith)
bit_le false b h = omega arith

pub below_le : (n k : ℕ) (f g : Address → Bool) → ((a : Address) → f a ≡ true → g a ≡ true) → many_to n k f ≤ many_to n k g
below_le zero k f g h = omega arith
below_le (suc n) k f g h = let ih = below_le n k f g h in let b = bit_le (f (record { kind = k; number = suc n })) (g (record { kind = k; number = suc n })) (h (record { kind = k; number = suc n })) in omega arith

below_less : (n k m : ℕ) (f g : Address → Bool) → ((a : Address) → f a ≡ true → g a ≡ true) → 1 ≤ m → m ≤ n → f (record { kind = k; number = m }) ≡ false → g (record { kind = k; number = m }) ≡ true → many_to n k f < many_to n k g
below_less zero k m f g h o l p q = absurd (omega arith)
below_less (suc n) k m f g h o l p q =
    elim (cases_eq m (suc n)) [
      | inl here ↦ let r = below_le n k f g h in rw (rw here at p, rw here at q) (omega arith)
      | inr off ↦
          let r = below_less n k m f g h o (omega arith) p q in
          let b = bit_le (f (record { kind = k; number = suc n })) (g (record { kind = k; number = suc n })) (h (record { kind = k; number = suc n })) in
          omega arith
    ]

less_le : (a b c d : ℕ) → a < c → b ≤ d → a + b < c + d
less_le a b c d p q = omega arith

le_less : (a b c d : ℕ) → a ≤ c → b < d → a + b < c + d
le_less a b c d p q = omega arith

pub many_less : (f g : Address → Bool) (a : Address) → lawful_address a ≡ true → ((x : Address) → f x ≡ true → g x ≡ true) → f a ≡ false → g a ≡ true → many f < many g
many_less f g a ok h p q = go (kinds a ok).0 (kinds a ok).1 (kinds a ok).2
  where
    go : (a.kind ≡ 1) ⊎ (a.kind ≡ 2) → 1 ≤ a.number → a.number ≤ address_numbers → many f < many g
    go (inl one) o l = less_le (many_to address_numbers 1 f) (many_to address_numbers 2 f) (many_to address_numbers 1 g) (many_to address_numbers 2 g) (below_less address_numbers 1 a.number f g h o l (subst (λ (k : ℕ). f (record { kind = k; number = a.number }) ≡ false) one p) (subst (λ (k : ℕ). g (record { kind = k; number = a.number }) ≡ true) one q)) (below_le address_numbers 2 f g h)
    go (inr two) o l = le_less (many_to address_numbers 1 f) (many_to address_numbers 2 f) (many_to address_numbers 1 g) (many_to address_numbers 2 g) (below_le address_numbers 1 f g h) (below_less address_numbers 2 a.number f g h o l (subst (λ (k : ℕ). f (record { kind = k; number = a.number }) ≡ false) two p) (subst (λ (k : ℕ). g (record { kind = k; number = a.number }) ≡ true) two q))

-- a change at one address
below_same : (n k : ℕ) (f g : Address → Bool) → ((m : ℕ) → m ≤ n → f (record { kind = k; number = m }) ≡ g (record { kind = k; number = m })) → many_to n k f ≡ many_to n k g
below_same zero k f g h = refl
below_same (suc n) k f g h = let ih = below_same n k f g (λ m l. h m (omega arith)) in let e = ap bit_of (h (suc n) (omega arith)) in omega arith

below_change : (n k m : ℕ) (f g : Address → Bool) → 1 ≤ m → m ≤ n → ((x : Address) → (x ≡ record { kind = k; number = m } → ⊥) → f x ≡ g x) → many_to n k f + bit_of (g (record { kind = k; number = m })) ≡ many_to n k g + bit_of (f (record { kind = k; number = m }))
below_change zero k m f g o l h = absurd (omega arith)
below_change (suc n) k m f g o l h =
    elim (cases_eq m (suc n)) [
      | inl here ↦
          let s = below_same n k f g (λ x lx. h (record { kind = k; number = x }) (λ e. let w : x ≡ m = ap (λ (a : Address). a.number) e in omega arith)) in
          rw here (omega arith)
      | inr other ↦
          let s = below_change n k m f g o (omega arith) h in
          let e = ap bit_of (h (record { kind = k; number = suc n }) (λ e. other (sym (ap (λ (a : Address). a.number) e)))) in
          omega arith
    ]

first_moves : (f1 f2 g1 g2 x y x' y' : ℕ) → f1 + y ≡ g1 + x → f2 ≡ g2 → x' ≡ x → y' ≡ y → (f1 + f2) + y' ≡ (g1 + g2) + x'
first_moves f1 f2 g1 g2 x y x' y' p q r s = omega arith

second_moves : (f1 f2 g1 g2 x y x' y' : ℕ) → f2 + y ≡ g2 + x → f1 ≡ g1 → x' ≡ x → y' ≡ y → (f1 + f2) + y' ≡ (g1 + g2) + x'
second_moves f1 f2 g1 g2 x y x' y' p q r s = omega arith

pub many_change : (f g : Address → Bool) (a : Address) → lawful_address a ≡ true → ((x : Address) → (x ≡ a → ⊥) → f x ≡ g x) → many f + bit_of (g a) ≡ many g + bit_of (f a)
many_change f g a ok h = go (kinds a ok).0 (kinds a ok).1 (kinds a ok).2
  where
    go : (a.kind ≡ 1) ⊎ (a.kind ≡ 2) → 1 ≤ a.number → a.number ≤ address_numbers → many f + bit_of (g a) ≡ many g + bit_of (f a)
    go (inl one) o l =
        let is : a ≡ record { kind = 1; number = a.number } = ap (λ k. record { kind = k; number = a.number }) one in
        first_moves (many_to address_numbers 1 f) (many_to address_numbers 2 f) (many_to address_numbers 1 g) (many_to address_numbers 2 g) (bit_of (f (record { kind = 1; number = a.number }))) (bit_of (g (record { kind = 1; number = a.number }))) (bit_of (f a)) (bit_of (g a))
        (below_change address_numbers 1 a.number f g o l (λ x n. h x (λ e. n (e ∙ is))))
        (below_same address_numbers 2 f g (λ m l. h (record { kind = 2; number = m }) (λ e. let w : 2 ≡ a.kind = ap (λ (a : Address). a.kind) e in omega arith)))
        (ap (λ x. bit_of (f x)) is) (ap (λ x. bit_of (g x)) is)
    go (inr two) o l =
        let is : a ≡ record { kind = 2; number = a.number } = ap (λ k. record { kind = k; number = a.number }) two in
        second_moves (many_to address_numbers 1 f) (many_to address_numbers 2 f) (many_to address_numbers 1 g) (many_to address_numbers 2 g) (bit_of (f (record { kind = 2; number = a.number }))) (bit_of (g (record { kind = 2; number = a.number }))) (bit_of (f a)) (bit_of (g a))
        (below_change address_numbers 2 a.number f g o l (λ x n. h x (λ e. n (e ∙ is))))
        (below_same address_numbers 1 f g (λ m l. h (record { kind = 1; number = m }) (λ e. let w : 1 ≡ a.kind = ap (λ (a : Address). a.kind) e in omega arith)))
        (ap (λ x. bit_of (f x)) is) (ap (λ x. bit_of (g x)) is)
