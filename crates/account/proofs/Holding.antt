-- Records that hold a book's open accounts, and what a write of one record makes of that. Assumes nothing.
use Rattle.std.proofs.Common.{◌≡◌, ℕ, ◌+◌, ◌<◌, Bool, true, false, cond, ◌⊎◌, List, [], ◌∷◌, length, get_or, set, replicate, is_some, Some, None, sym, refl, ap, ◌∙◌, subst, inl, inr, arith}
use Rattle.std.proofs.lemmas.Bool.Decides.{nat_tests}
use Rattle.std.proofs.lemmas.Bool.{and_parts, cases_eq, cases_Bool, false≢true, ltb-true, ltb-false}
use Rattle.std.specs.List.{position_or_len, count_by}
use Rattle.std.proofs.lemmas.List.Sums.{fails_before_first, passes_at_first, count_by-le-length, sum_by-cons, sum_by-set}
use Rattle.std.proofs.lemmas.List.{get_or-set_same, get_or-set_other, length-set, get_or-replicate}
use Rattle.report.specs.declared.report.Address.{Address}
use Rattle.report.specs.Lawful.{same, lawful_address}
use Rattle.report.proofs.Addresses.{same_address, same_self, not_same, same_not}
use Rattle.account.specs.declared.record.AccountRecord.{AccountRecord}
use Rattle.report.specs.Limits.{open_accounts}
use Rattle.account.specs.Rule.{Slot, Book, no_accounts, bit_of, many, is_open, written}
use Rattle.account.specs.Records.{closed_record, no_record, open_record, open_for, is_closed, account_of, has}
use Rattle.account.specs.Follow.{LieIn, Holds}
use Rattle.account.proofs.Many.{many_change}

-- whether one of the records passes, record by record
module _ (p : AccountRecord → Bool) (ys : List AccountRecord) where
  pub has_none : has p ys ≡ false → (i : ℕ) → i < length ys → p (get_or ys i no_record) ≡ false
  has_none e i lt = let all = ltb-false (position_or_len p ys) (length ys) e in fails_before_first p ys i no_record (omega arith)

  pub has_at : has p ys ≡ true → p (get_or ys (position_or_len p ys) no_record) ≡ true
  has_at e = passes_at_first p ys no_record (ltb-true (position_or_len p ys) (length ys) e)

-- records that are all open, and records of which one is closed
pub opens_full : (ys : List AccountRecord) → has is_closed ys ≡ false → count_by open_record ys ≡ length ys
opens_full [] e = refl
opens_full (y ∷ ys) e = let ih = opens_full ys in grind (arith, nat_tests, sum_by-cons (λ x. cond (open_record x) 1 0) y ys)

pub opens_less : (ys : List AccountRecord) → has is_closed ys ≡ true → count_by open_record ys < length ys
opens_less [] e = absurd (false≢true e)
opens_less (y ∷ ys) e = let ih = opens_less ys in let m = count_by-le-length open_record ys in grind (arith, nat_tests, sum_by-cons (λ x. cond (open_record x) 1 0) y ys)

bit_is : (v : Bool) → bit_of v ≡ cond v 1 0
bit_is true = refl
bit_is false = refl

-- One record is written, and with it the accounts of one address: only this record could be open for the address, it is open for no other, and what
-- is written into it is the address's open account, or closed where there is none.
module _ (ys : List AccountRecord) (b : Book) (a : Address) (n : ℕ) (y : AccountRecord) (s : Slot) (lt : n < length ys)
    (only : (j : ℕ) → j < length ys → open_for a (get_or ys j no_record) ≡ true → j ≡ n)
    (no_other : (x : Address) → (x ≡ a → ⊥) → open_for x (get_or ys n no_record) ≡ false)
    (mine : open_for a y ≡ open_record y)
    (shown : s.open_at ≡ cond (open_record y) (Some (account_of y)) None)
    (was : is_open b a ≡ open_record (get_or ys n no_record))
    (ok : lawful_address a ≡ true) (old : LieIn ys b) where
  at_n : get_or (set ys n y) n no_record ≡ y
  at_n = get_or-set_same ys n y no_record lt

  off_n : (i : ℕ) → (i ≡ n → ⊥) → get_or (set ys n y) i no_record ≡ get_or ys i no_record
  off_n i ne = get_or-set_other ys n i y no_record ne

  inside : (i : ℕ) → i < length (set ys n y) → i < length ys
  inside i h = rw length-set at h

  here : written b a s a ≡ s
  here = rw same_self

  elsewhere : (x : Address) → (x ≡ a → ⊥) → written b a s x ≡ b x
  elsewhere x ne = let e = not_same x a ne in rw e

  -- the written record is open for the address alone
  written_for : (x : Address) → open_for x y ≡ true → x ≡ a
  written_for x e =
      let p = and_parts (open_record y) (same y.address x) e in
      let q = and_parts (open_record y) (same y.address a) (mine ∙ p.0) in
      sym (same_address y.address x p.1) ∙ same_address y.address a q.1

  is_n : (i : ℕ) → i < length ys → open_for a (get_or (set ys n y) i no_record) ≡ true → i ≡ n
  is_n i lti e = elim (cases_eq i n) [ inl is ↦ is | inr ne ↦ only i lti (rw (off_n i ne) at e) ]

  not_n : (x : Address) (i : ℕ) → (x ≡ a → ⊥) → open_for x (get_or (set ys n y) i no_record) ≡ true → i ≡ n → ⊥
  not_n x i ne e is = ne (written_for x (rw (is, at_n) at e))

  cases_address : (x : Address) → (x ≡ a) ⊎ (x ≡ a → ⊥)
  cases_address x = elim (cases_Bool (same x a)) [ inl t ↦ inl (same_address x a t) | inr f ↦ inr (same_not x a f) ]

  new_apart : (i j : ℕ) (x : Address) → i < length ys → j < length ys → open_for x (get_or (set ys n y) i no_record) ≡ true → open_for x (get_or (set ys n y) j no_record) ≡ true → i ≡ j
  new_apart i j x li lj ei ej =
      elim (cases_address x) [
        | inl is ↦
            is_n i li (rw is at ei) ∙ sym (is_n j lj (rw is at ej))
        | inr ne ↦
            old.apart i j x li lj
            (rw (off_n i (not_n x i ne ei)) at ei)
            (rw (off_n j (not_n x j ne ej)) at ej)
      ]

  mine_open : (i : ℕ) → i ≡ n → open_for a (get_or (set ys n y) i no_record) ≡ true → open_record y ≡ true
  mine_open i is e = sym mine ∙ (rw (is, at_n) at e)

  new_there : (i : ℕ) (x : Address) → i < length ys → open_for x (get_or (set ys n y) i no_record) ≡ true → (written b a s x).open_at ≡ Some (account_of (get_or (set ys n y) i no_record))
  new_there i x li e =
      elim (cases_address x) [
        | inl is ↦
            let f = rw is at e in
            let at = is_n i li f in
            rw (is, here, shown, mine_open i at f, at, at_n)
        | inr ne ↦
            let off = off_n i (not_n x i ne e) in
            rw (elsewhere x ne, off) (old.there i x li (rw off at e))
      ]

  closed_there : open_for a y ≡ false → s.open_at ≡ None
  closed_there e = rw (shown, sym mine ∙ e)

  new_nowhere : (x : Address) → ((i : ℕ) → i < length ys → open_for x (get_or (set ys n y) i no_record) ≡ false) → (written b a s x).open_at ≡ None
  new_nowhere x h =
      elim (cases_address x) [
        | inl is ↦
            rw (is, here) (closed_there (rw (is, at_n) at (h n lt)))
        | inr ne ↦
            rw (elsewhere x ne) (old.nowhere x (λ i li. elim (cases_eq i n) [ inl at ↦ rw at (no_other x ne) | inr off ↦ rw (off_n i off) at (h i li) ]))
      ]

  open_as : is_open (written b a s) a ≡ open_record y
  open_as = elim (cases_Bool (open_record y)) [ inl e ↦ rw (here, shown, e) | inr e ↦ rw (here, shown, e) ]

  new_count : many (is_open (written b a s)) ≡ count_by open_record (set ys n y)
  new_count =
      let change = many_change (is_open b) (is_open (written b a s)) a ok (λ x ne. sym (ap (λ (z : Slot). is_some z.open_at) (elsewhere x ne))) in
      let before = ap bit_of was ∙ bit_is (open_record (get_or ys n no_record)) in
      let after = ap bit_of open_as ∙ bit_is (open_record y) in
      let w = sum_by-set (λ x. cond (open_record x) 1 0) ys n y no_record lt in
      let c = old.count in
      joined (many (is_open b)) (many (is_open (written b a s))) (count_by open_record ys) (count_by open_record (set ys n y)) (bit_of (is_open b a)) (bit_of (is_open (written b a s) a)) (cond (open_record (get_or ys n no_record)) 1 0) (cond (open_record y) 1 0) change before after w c
    where
      joined : (m m' o o' p q p' q' : ℕ) → m + q ≡ m' + p → p ≡ p' → q ≡ q' → o' + p' ≡ o + q' → m ≡ o → m' ≡ o'
      joined m m' o o' p q p' q' c1 c2 c3 c4 c5 = omega arith

  pub lie_in_after : LieIn (set ys n y) (written b a s)
  lie_in_after = record {
    apart = λ i j x li lj. new_apart i j x (inside i li) (inside j lj);
    there = λ i x li. new_there i x (inside i li);
    nowhere = λ x h. new_nowhere x (λ i li. h i (subst (λ m. i < m) (sym (length-set ys n y)) li));
    count = new_count;
  }

-- closed records hold no accounts
all_closed : (i : ℕ) (a : Address) → i < open_accounts → open_for a (get_or (replicate open_accounts closed_record) i no_record) ≡ false
all_closed i a lt = ap (open_for a) (get_or-replicate open_accounts i closed_record no_record lt)

pub holds_none : Holds (replicate open_accounts closed_record) no_accounts
holds_none = record {
  enough = omega arith;
  lie = record {
    apart = λ i j a li lj hi hj. absurd (false≢true (sym (all_closed i a li) ∙ hi));
    there = λ i a li h. absurd (false≢true (sym (all_closed i a li) ∙ h));
    nowhere = λ a h. refl;
    count = refl;
  };
}
