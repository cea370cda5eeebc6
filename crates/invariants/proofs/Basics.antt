-- Small facts on tests, options and lists. Assumes nothing.
use Rattle.std.proofs.Common.{◌≡◌, ℕ, ◌<◌, ◌≤◌, Bool, true, false, not, ◌&&◌, ◌||◌, eqb, ltb, leb, List, [], ◌∷◌, Some, None, Option, sym, refl, ap, ◌∙◌, arith}
use Rattle.std.proofs.lemmas.Bool.Decides.{nat_tests}
use Rattle.report.specs.Limits.{last_tick}

pub differ : false ≡ true → ⊥
differ e = let w : ◌≡◌ {A = ℕ} 0 1 = cc in omega arith

-- options
pub none_some : {X : Type 0} {x : X} → ◌≡◌ {A = Option X} None (Some x) → ⊥
none_some h = let w : ◌≡◌ {A = ℕ} 0 1 = cc in omega arith

pub some_same : {X : Type 0} {x y : X} → ◌≡◌ {A = Option X} (Some x) (Some y) → x ≡ y
some_same h = cc

-- lists
pub nil_cons : {X : Type 0} {x : X} {xs : List X} → ◌≡◌ {A = List X} [] (x ∷ xs) → ⊥
nil_cons h = let w : ◌≡◌ {A = ℕ} 0 1 = cc in omega arith

pub same_head : {X : Type 0} {x y : X} {xs ys : List X} → ◌≡◌ {A = List X} (x ∷ xs) (y ∷ ys) → x ≡ y
same_head h = cc

pub same_tail : {X : Type 0} {x y : X} {xs ys : List X} → ◌≡◌ {A = List X} (x ∷ xs) (y ∷ ys) → xs ≡ ys
same_tail h = cc

-- tests of two parts
pub and_left : (a b : Bool) → (a && b) ≡ true → a ≡ true
and_left true b e = refl
and_left false b e = e

pub and_right : (a b : Bool) → (a && b) ≡ true → b ≡ true
and_right true b e = e
and_right false b e = absurd (differ e)

pub and_true : {a b : Bool} → a ≡ true → b ≡ true → (a && b) ≡ true
and_true {a} {b} p q = ap (λ x. x && b) p ∙ q

pub or_left : (a b : Bool) → (a || b) ≡ false → a ≡ false
or_left true b e = e
or_left false b e = refl

pub or_right : (a b : Bool) → (a || b) ≡ false → b ≡ false
or_right true b e = absurd (differ (sym e))
or_right false b e = e

pub not_not : (b : Bool) → not b ≡ false → b ≡ true
not_not true e = refl
not_not false e = absurd (differ (sym e))

-- tests of numbers
pub le_of : (m n : ℕ) → leb m n ≡ true → m ≤ n
le_of m n e = grind (arith, nat_tests)

pub leb_of : (m n : ℕ) → m ≤ n → leb m n ≡ true
leb_of m n e = grind (arith, nat_tests)

pub less_of : (m n : ℕ) → leb m n ≡ false → n < m
less_of m n e = grind (arith, nat_tests)

pub some_of : (n : ℕ) → ltb 0 n ≡ true → 0 < n
some_of n e = grind (arith, nat_tests)

pub of_some : (n : ℕ) → 0 < n → ltb 0 n ≡ true
of_some n h = grind (arith, nat_tests)

pub not_zero : (n : ℕ) → eqb n 0 ≡ false → 0 < n
not_zero n e = grind (arith, nat_tests)

pub le_through : (k m n : ℕ) → k ≤ m → m ≤ n → k ≤ n
le_through k m n p q = omega arith

-- a tick within its limit and not before the clock
pub in_range : (t clock : ℕ) → (ltb last_tick t || ltb t clock) ≡ false → t ≤ last_tick
in_range t clock e = not_past t (or_left (ltb last_tick t) (ltb t clock) e)
  where
    not_past : (t : ℕ) → ltb last_tick t ≡ false → t ≤ last_tick
    not_past t e = grind (arith, nat_tests)

pub not_early : (t clock : ℕ) → (ltb last_tick t || ltb t clock) ≡ false → clock ≤ t
not_early t clock e = at t clock (or_right (ltb last_tick t) (ltb t clock) e)
  where
    at : (t clock : ℕ) → ltb t clock ≡ false → clock ≤ t
    at t clock e = grind (arith, nat_tests)
