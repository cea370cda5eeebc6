-- When two addresses are one. Assumes nothing.
use Rattle.std.proofs.Common.{◌≡◌, ℕ, ◌≤◌, Bool, true, false, ◌&&◌, eqb, leb, ◌⊎◌, sym, refl, ap, ◌∙◌, subst, inl, inr, arith}
use Rattle.std.proofs.lemmas.Bool.{and_parts, and_from, eq-eqb, cases_Bool}
use Rattle.std.proofs.lemmas.Bool.Decides.{nat_tests}
use Rattle.report.specs.declared.report.Address.{Address}
use Rattle.report.specs.declared.report.Report.{Report}
use Rattle.report.specs.Lawful.{within, lawful_address, same, lawful}
use Rattle.report.specs.Limits.{address_kinds, address_numbers}

pub same_address : (x a : Address) → same x a ≡ true → x ≡ a
same_address x a e =
    let parts = and_parts (eqb x.kind a.kind) (eqb x.number a.number) e in
    let k : x.kind ≡ a.kind = grind (arith, nat_tests) in
    let n : x.number ≡ a.number = grind (arith, nat_tests) in
    ap (λ y. record { kind = y; number = x.number }) k ∙ ap (λ y. record { kind = a.kind; number = y }) n

pub same_self : (a : Address) → same a a ≡ true
same_self a = and_from (eqb a.kind a.kind) (eqb a.number a.number) (eq-eqb a.kind a.kind refl) (eq-eqb a.number a.number refl)

-- two addresses that are not one are not the same
pub same_not : (x a : Address) → same x a ≡ false → x ≡ a → ⊥
same_not x a e p =
    let t : same x a ≡ true = subst (λ y. same x y ≡ true) p (same_self x) in
    let z : true ≡ false = sym t ∙ e in
    grind arith

pub not_same : (x a : Address) → (x ≡ a → ⊥) → same x a ≡ false
not_same x a h = elim (cases_Bool (same x a)) [ inl t ↦ absurd (h (same_address x a t)) | inr f ↦ f ]

pub same_swap : (x a : Address) → same x a ≡ same a x
same_swap x a = grind (arith, nat_tests)

one_or_two : (k : ℕ) → 1 ≤ k → k ≤ 2 → (k ≡ 1) ⊎ (k ≡ 2)
one_or_two k l h = grind arith

-- a lawful address is of one of the two kinds, and its number within the numbers
pub kinds : (a : Address) → lawful_address a ≡ true → ((a.kind ≡ 1) ⊎ (a.kind ≡ 2)) × (1 ≤ a.number) × (a.number ≤ address_numbers)
kinds a e =
    let both = and_parts (within 1 address_kinds a.kind) (within 1 address_numbers a.number) e in
    let k = and_parts (leb 1 a.kind) (leb a.kind address_kinds) both.0 in
    let n = and_parts (leb 1 a.number) (leb a.number address_numbers) both.1 in
    let low : 1 ≤ a.kind = grind (arith, nat_tests) in
    let high : a.kind ≤ 2 = grind (arith, nat_tests) in
    let some : 1 ≤ a.number = grind (arith, nat_tests) in
    let few : a.number ≤ address_numbers = grind (arith, nat_tests) in
    (one_or_two a.kind low high, some, few)

-- a report within the frame's rules has a lawful address
pub lawful_there : (r : Report) → lawful r ≡ true → lawful_address r.address ≡ true
lawful_there r e = and_first (lawful_address r.address) _ _ _ _ _ e
  where
    and_first : (p q s t u v : Bool) → (p && q && s && t && u && v) ≡ true → p ≡ true
    and_first true q s t u v e = refl
    and_first false q s t u v e = e
