-- The laws of the account rule. Assumes nothing.
use Rattle.std.proofs.Common.{◌≡◌, ℕ, ◌+◌, ◌<◌, ◌≤◌, Bool, true, false, cond, eqb, ltb, leb, ◌⊎◌, List, ◌∷◌, is_some, Some, None, Ok, Option, Result, sym, refl, ap, ◌∙◌, subst, inl, inr, arith}
use Rattle.std.proofs.lemmas.Bool.{cases_Bool, cond_both, cond-true, eq-eqb, eqb-true, leb-true, leb-false}
use Rattle.report.specs.declared.report.Address.{Address}
use Rattle.report.specs.declared.report.Elapsed.{Elapsed}
use Rattle.report.specs.declared.report.Elapsed.TheVariants.{Plain, Switched}
use Rattle.report.specs.declared.report.Report.{Report}
use Rattle.report.specs.declared.refusal.Refusal.{Refusal}
use Rattle.report.specs.Lawful.{same, lawful, lawful_address, is_active}
use Rattle.report.specs.Limits.{open_accounts, tariffs}
use Rattle.report.proofs.Addresses.{same_address, same_self, not_same, lawful_there}
use Rattle.account.specs.Rule.{Account, upd, opened, becomes, next, then_in, past_first, read, numbered, Slot, Book, bit_of, many, is_open, written, settled, going_on, opening, by_open, read_one}
use Rattle.account.specs.Follow.{newest}
use Rattle.account.specs.Laws.{NoFewer, AccountLaws}
use Rattle.account.proofs.Many.{many_change}
use Rattle.account.proofs.Holding.{holds_none}

same_book : {b c : Book} → ◌≡◌ {A = Result Book Refusal} (Ok b) (Ok c) → b ≡ c
same_book h = cc

-- what an admitted report did to the book
data Done (r : Report) (b : Book) : Book → Type 0 where
  repeat : (acc : Account) → (b r.address).open_at ≡ Some acc → Done r b b
  on : (acc acc' : Account) → (b r.address).open_at ≡ Some acc → read r.elapsed acc ≡ Some acc' → Done r b (written b r.address (settled r (b r.address).closed acc'))
  first : (acc' : Account) → (b r.address).open_at ≡ None → many (is_open b) < open_accounts → Done r b (written b r.address (settled r (b r.address).closed acc'))

module _ (r : Report) (b : Book) where
  done_on : (acc : Account) (o : Option Account) → (b r.address).open_at ≡ Some acc → read r.elapsed acc ≡ o → (b' : Book) → going_on b r o ≡ Ok b' → Done r b b'
  done_on acc None is e b' h = cc
  done_on acc (Some x) is e b' h = subst (Done r b) (same_book h) (on acc x is e)

  done_first : (o : Option Account) → (b r.address).open_at ≡ None → (b' : Book) → opening b r o ≡ Ok b' → Done r b b'
  done_first None is b' h = cc
  done_first (Some x) is b' h = elim (cases_Bool (leb open_accounts (many (is_open b)))) [
    | inl e ↦ let f = rw e at h in cc
    | inr e ↦ subst (Done r b) (same_book (rw e at h)) (first x is (leb-false open_accounts (many (is_open b)) e))
  ]

  done_by : (o : Option Account) → (b r.address).open_at ≡ o → (b' : Book) → by_open b r o ≡ Ok b' → Done r b b'
  done_by None is b' h = elim (cases_Bool (eqb r.number 1)) [ inl e ↦ done_first (read r.elapsed opened) is b' (rw e at h) | inr e ↦ let f = rw e at h in cc ]
  done_by (Some acc) is b' h = elim (cases_Bool (eqb r.number acc.last)) [
    | inl e ↦ subst (Done r b) (same_book (rw e at h)) (repeat acc is)
    | inr e ↦ elim (cases_Bool (eqb r.number (acc.last + 1))) [ inl f ↦ done_on acc (read r.elapsed acc) is refl b' (rw (e, f) at h) | inr f ↦ let g = rw (e, f) at h in cc ]
  ]

  admitted : (b' : Book) → read_one r b ≡ Ok b' → (lawful r ≡ true) × Done r b b'
  admitted b' h = elim (cases_Bool (lawful r)) [ inl e ↦ (e, done_by (b r.address).open_at refl b' (rw e at h)) | inr e ↦ let f = rw e at h in cc ]

-- a step of the rule makes no ticks fewer
abbrev Grown : Account → Option Account → Type 0
Grown acc None = Unit {0}
Grown acc (Some x) = (k : ℕ) → acc.ticks k ≤ x.ticks k

becomes_grown : (n : ℕ) (acc : Account) → Grown acc (becomes n acc)
becomes_grown n acc = cond_both (leb (acc.ticks acc.current) n) _ _ (Grown acc) (λ e k. at k (leb-true (acc.ticks acc.current) n e)) (λ _. tt)
  where
    at : (k : ℕ) → acc.ticks acc.current ≤ n → acc.ticks k ≤ upd acc.ticks acc.current n k
    at k l = elim (cases_Bool (eqb k acc.current)) [ inl e ↦ rw (e, eqb-true k acc.current e) l | inr e ↦ rw e (omega arith) ]

next_grown : (acc : Account) → Grown acc (next acc)
next_grown acc = cond_both (ltb acc.current tariffs) _ _ (Grown acc) (λ _ k. omega arith) (λ _. tt)

then_grown : (acc : Account) (o : Option Account) (f : Account → Option Account) → Grown acc o → ((x : Account) → Grown x (f x)) → Grown acc (then_in o f)
then_grown acc None f h g = tt
then_grown acc (Some x) f h g = both (f x) (g x)
  where
    both : (o : Option Account) → Grown x o → Grown acc o
    both None l = tt
    both (Some y) l = λ k. let p = h k in let q = l k in omega arith

past_grown : (acc : Account) → Grown acc (past_first acc)
past_grown acc = cond_both (eqb acc.current 1) _ _ (Grown acc) (λ _. cond_both (eqb (acc.ticks 1) 0) _ _ (Grown acc) (λ _. next_grown acc) (λ _. tt)) (λ _ k. omega arith)

read_grown : (e : Elapsed) (acc : Account) → Grown acc (read e acc)
read_grown (Plain n) acc = cond_both (eqb acc.current 1) _ _ (Grown acc) (λ _. becomes_grown n acc) (λ _. tt)
read_grown (Switched n None) acc = then_grown acc (past_first acc) (becomes n) (past_grown acc) (becomes_grown n)
read_grown (Switched n (Some i)) acc = then_grown acc (becomes i acc) (λ x. then_in (next x) (becomes n)) (becomes_grown i acc) (λ x. then_grown x (next x) (becomes n) (next_grown x) (becomes_grown n))

module _ (r : Report) (b : Book) where
  at_own : (s : Slot) → written b r.address s r.address ≡ s
  at_own s = rw same_self

  newest_settled : (acc : Account) (closed : List Account) → newest (settled r closed acc) ≡ Some (numbered r.number acc)
  newest_settled acc closed = elim (cases_Bool (is_active r.standing)) [ inl e ↦ rw e | inr e ↦ rw e ]

  fewer_not : (acc : Account) → (b r.address).open_at ≡ Some acc → (b' : Book) → Done r b b' → NoFewer acc (newest (b' r.address))
  fewer_not acc is b' (repeat x at) = subst (NoFewer acc) (sym (ap (λ o. newest (record { open_at = o; closed = (b r.address).closed })) is)) (λ k. omega arith)
  fewer_not acc is b' (on x y at e) =
      let own : acc ≡ x = let q : Some acc ≡ Some x = sym is ∙ at in cc in
      let grown = subst (Grown x) e (read_grown r.elapsed x) in
      subst (NoFewer acc) (sym (ap newest (at_own (settled r (b r.address).closed y)) ∙ newest_settled y (b r.address).closed)) (λ k. subst (λ (z : Account). z.ticks k ≤ y.ticks k) (sym own) (grown k))
  fewer_not acc is b' (first y at l) = let q : None ≡ Some acc = sym at ∙ is in cc

  others_stay : (b' : Book) → Done r b b' → (x : Address) → same x r.address ≡ false → b' x ≡ b x
  others_stay b' (repeat acc at) x e = refl
  others_stay b' (on acc y at f) x e = rw e
  others_stay b' (first y at l) x e = rw e

  settled_closed : (acc : Account) (closed : List Account) → ((settled r closed acc).closed ≡ closed) ⊎ ((y : Account) × ((settled r closed acc).closed ≡ y ∷ closed))
  settled_closed acc closed = elim (cases_Bool (is_active r.standing)) [ inl e ↦ rw e (inl refl) | inr e ↦ rw e (inr (numbered r.number acc, refl)) ]

  ClosedSo : (Slot) → (x : Address) → Type 0
  ClosedSo s x = (s.closed ≡ (b x).closed) ⊎ ((acc : Account) × (s.closed ≡ acc ∷ (b x).closed))

  written_closed : (y : Account) (x : Address) → ClosedSo (written b r.address (settled r (b r.address).closed y) x) x
  unfolding ClosedSo
  written_closed y x = elim (cases_Bool (same x r.address)) [
    | inl t ↦
        let is = same_address x r.address t in
        subst (λ z. ClosedSo (written b r.address (settled r (b r.address).closed y) z) z) (sym is) (subst (λ s. ClosedSo s r.address) (sym (at_own (settled r (b r.address).closed y))) (settled_closed y (b r.address).closed))
    | inr f ↦ rw f (inl refl)
  ]

  closed_kept : (b' : Book) → Done r b b' → (x : Address) → ((b' x).closed ≡ (b x).closed) ⊎ ((acc : Account) × ((b' x).closed ≡ acc ∷ (b x).closed))
  unfolding ClosedSo
  closed_kept b' (repeat acc at) x = inl refl
  closed_kept b' (on acc y at f) x = written_closed y x
  closed_kept b' (first y at l) x = written_closed y x

  -- a change at one address changes how many accounts are open by its own alone
  counted : lawful_address r.address ≡ true → (s : Slot) → many (is_open b) + bit_of (is_some s.open_at) ≡ many (is_open (written b r.address s)) + bit_of (is_open b r.address)
  counted ok s = ap (λ n. many (is_open b) + n) (ap (λ (z : Slot). bit_of (is_some z.open_at)) (sym (at_own s))) ∙ many_change (is_open b) (is_open (written b r.address s)) r.address ok (λ x ne. sym (ap (λ v. is_some (cond v s (b x)).open_at) (not_same x r.address ne)))

  bit_most : (v : Bool) → bit_of v ≤ 1
  bit_most true = omega arith
  bit_most false = omega arith

  few_open : lawful_address r.address ≡ true → (b' : Book) → Done r b b' → many (is_open b) ≤ open_accounts → many (is_open b') ≤ open_accounts
  few_open ok b' (repeat acc at) l = l
  few_open ok b' (on acc y at f) l = still (many (is_open b)) (many (is_open (written b r.address (settled r (b r.address).closed y)))) _ _ open_accounts (counted ok (settled r (b r.address).closed y)) (bit_most (is_some (settled r (b r.address).closed y).open_at)) (ap (λ o. bit_of (is_some o)) at) l
    where
      still : (m m' p q n : ℕ) → m + p ≡ m' + q → p ≤ 1 → q ≡ 1 → m ≤ n → m' ≤ n
      still m m' p q n e a c d = omega arith
  few_open ok b' (first y at less) l = one_more (many (is_open b)) (many (is_open (written b r.address (settled r (b r.address).closed y)))) _ _ open_accounts (counted ok (settled r (b r.address).closed y)) (bit_most (is_some (settled r (b r.address).closed y).open_at)) less
    where
      one_more : (m m' p q n : ℕ) → m + p ≡ m' + q → p ≤ 1 → m < n → m' ≤ n
      one_more m m' p q n e a d = omega arith

repeated : (r : Report) (b : Book) (acc : Account) → lawful r ≡ true → (b r.address).open_at ≡ Some acc → r.number ≡ acc.last → read_one r b ≡ Ok b
repeated r b acc ok is e = cond-true (lawful r) _ _ ok ∙ (ap (by_open b r) is ∙ cond-true (eqb r.number acc.last) _ _ (eq-eqb r.number acc.last e))

pub account_laws : AccountLaws
account_laws = record {
  at_first = holds_none;
  never_fewer = λ r b b' acc is h. fewer_not r b acc is b' (admitted r b b' h).1;
  repeats = repeated;
  apart = λ r b b' h. others_stay r b b' (admitted r b b' h).1;
  closed_stay = λ r b b' x h. closed_kept r b b' (admitted r b b' h).1 x;
  few = λ r b b' l h. few_open r b (lawful_there r (admitted r b b' h).0) b' (admitted r b b' h).1 l;
  sampled = refl;
}
