-- A report that is read at records is read by the account rule. Assumes nothing.
use Rattle.std.proofs.Common.{◌≡◌, ℕ, ◌+◌, ◌<◌, Bool, true, false, cond, not, eqb, leb, List, ◌∷◌, length, get_or, set, is_some, Some, None, Ok, Err, Option, Result, sym, refl, ap, ◌∙◌, subst, inl, inr, arith, length-take}
use Rattle.std.proofs.lemmas.Bool.{and_parts, and_from, and_left, cases_Bool, cond-true, cond-false, ltb-true, not-true, false≢true}
use Rattle.std.proofs.lemmas.Bool.Decides.{nat_tests}
use Rattle.std.proofs.lemmas.List.{length-set}
use Rattle.std.proofs.Math.Seq.{take-set-lt}
use Rattle.std.specs.List.{position_or_len, count_by}
use Rattle.report.specs.declared.report.Address.{Address}
use Rattle.report.specs.declared.report.Report.{Report}
use Rattle.report.specs.declared.refusal.Refusal.{Refusal}
use Rattle.report.specs.Lawful.{same, lawful, is_active}
use Rattle.report.specs.Limits.{open_accounts}
use Rattle.report.proofs.Addresses.{same_address, same_self, lawful_there}
use Rattle.account.specs.declared.record.AccountRecord.{AccountRecord}
use Rattle.account.specs.declared.record.Status.{Status}
use Rattle.account.specs.declared.record.Status.TheVariants.{Open, Closed, Repeat}
use Rattle.account.specs.declared.record.Reading.{Reading}
use Rattle.account.specs.Rule.{Account, opened, read, numbered, Slot, Book, many, is_open, written, settled, going_on, opening, by_open}
use Rattle.account.specs.Records.{closed_record, no_record, open_record, open_for, is_closed, account_of, counting, has, place_for, Said, status_of, said_of_left, said_of_open, said_of_first, if_free, said_in, said, says, kept, Answers, Leaves}
use Rattle.account.specs.Follow.{LieIn, Holds, newest, status_at, Follows}
use Rattle.account.proofs.Holding.{has_none, has_at, opens_full, opens_less, lie_in_after}

-- the book after what is said of a report
abbrev after : Status → Book → Address → Account → Book
after Open b a acc = written b a (record { open_at = Some acc; closed = (b a).closed })
after Closed b a acc = written b a (record { open_at = None; closed = acc ∷ (b a).closed })
after Repeat b a acc = b

abbrev onto : Book → Address → Result Said Refusal → Result Book Refusal
onto b a (Err e) = Err e
onto b a (Ok s) = Ok (after s.status b a s.account)

module _ (b : Book) (r : Report) where
  settled_is : (acc : Account) → written b r.address (settled r (b r.address).closed acc) ≡ after (status_of r) b r.address (numbered r.number acc)
  settled_is acc = elim (cases_Bool (is_active r.standing)) [ inl e ↦ rw e | inr e ↦ rw e ]

  left_is : (o : Option Account) → going_on b r o ≡ onto b r.address (said_of_left r o)
  left_is None = refl
  left_is (Some acc) = ap Ok (settled_is acc)

  open_is : (acc : Account) → by_open b r (Some acc) ≡ onto b r.address (said_of_open acc r)
  open_is acc =
      elim (cases_Bool (eqb r.number acc.last)) [
        | inl e ↦ rw e
        | inr e ↦ elim (cases_Bool (eqb r.number (acc.last + 1))) [ inl f ↦ rw (e, f) (left_is (read r.elapsed acc)) | inr f ↦ rw (e, f) ]
      ]

  opening_is : (free : Bool) (o : Option Account) → leb open_accounts (many (is_open b)) ≡ not free → opening b r o ≡ onto b r.address (if_free free (said_of_left r o))
  opening_is free None e = refl
  opening_is true (Some acc) e = rw e (ap Ok (settled_is acc))
  opening_is false (Some acc) e = rw e

  first_is : (free : Bool) → leb open_accounts (many (is_open b)) ≡ not free → by_open b r None ≡ onto b r.address (if_free free (said_of_first r))
  first_is free e = elim (cases_Bool (eqb r.number 1)) [ inl f ↦ rw f (opening_is free (read r.elapsed opened) e) | inr f ↦ rw f ]

  -- what is said of a report is the rule's status and the newest account after it
  abbrev RightSaid : Result Said Refusal → Type 0
  RightSaid (Err e) = Unit {0}
  RightSaid (Ok s) = (s.status ≡ status_at r (b r.address).open_at) × (newest (after s.status b r.address s.account r.address) ≡ Some s.account)

  here : (s : Slot) → newest (written b r.address s r.address) ≡ newest s
  here s = rw same_self

  newest_left : (acc : Account) → newest (after (status_of r) b r.address acc r.address) ≡ Some acc
  newest_left acc = elim (cases_Bool (is_active r.standing)) [ inl e ↦ rw (e, same_self) | inr e ↦ rw (e, same_self) ]

  right_left : (o : Option Account) → status_of r ≡ status_at r (b r.address).open_at → RightSaid (said_of_left r o)
  right_left None e = tt
  right_left (Some acc) e = (e, newest_left (numbered r.number acc))

  right_open : (acc : Account) → (b r.address).open_at ≡ Some acc → RightSaid (said_of_open acc r)
  right_open acc is =
      elim (cases_Bool (eqb r.number acc.last)) [
        | inl e ↦ rw (e, is, e) (refl, refl)
        | inr e ↦ elim (cases_Bool (eqb r.number (acc.last + 1))) [ inl f ↦ rw (e, f) (right_left (read r.elapsed acc) (rw (is, e))) | inr f ↦ rw (e, f) tt ]
      ]

  right_first : (free : Bool) → (b r.address).open_at ≡ None → RightSaid (if_free free (said_of_first r))
  right_first free is =
      elim (cases_Bool (eqb r.number 1)) [
        | inl e ↦ rw e (if_right (said_of_left r (read r.elapsed opened)) free (right_left (read r.elapsed opened) (rw is)))
        | inr e ↦ rw e tt
      ]
    where
      if_right : (o : Result Said Refusal) (f : Bool) → RightSaid o → RightSaid (if_free f o)
      if_right (Err e) f h = tt
      if_right (Ok s) true h = h
      if_right (Ok s) false h = tt

-- Where the record for a report lies among those that count: it alone can be open for the address, and it is open for no other.
record Spot (ys : List AccountRecord) (b : Book) (a : Address) (n : ℕ) : Type 0 where
  inside : n < length ys
  only : (j : ℕ) → j < length ys → open_for a (get_or ys j no_record) ≡ true → j ≡ n
  no_other : (x : Address) → (x ≡ a → ⊥) → open_for x (get_or ys n no_record) ≡ false
  was : is_open b a ≡ open_record (get_or ys n no_record)

module _ (ys : List AccountRecord) (b : Book) (a : Address) (old : LieIn ys b) where
  found : has (open_for a) ys ≡ true → (b a).open_at ≡ Some (account_of (get_or ys (position_or_len (open_for a) ys) no_record))
  found e = old.there (position_or_len (open_for a) ys) a (ltb-true (position_or_len (open_for a) ys) (length ys) e) (has_at (open_for a) ys e)

  none_found : has (open_for a) ys ≡ false → (b a).open_at ≡ None
  none_found e = old.nowhere a (has_none (open_for a) ys e)

  spot_open : has (open_for a) ys ≡ true → Spot ys b a (position_or_len (open_for a) ys)
  spot_open e =
      let n : ℕ = position_or_len (open_for a) ys in
      let lt = ltb-true n (length ys) e in
      let is = has_at (open_for a) ys e in
      let parts = and_parts (open_record (get_or ys n no_record)) (same (get_or ys n no_record).address a) is in
      record {
        inside = lt;
        only = λ j lj h. old.apart j n a lj lt h is;
        no_other = λ x ne. elim (cases_Bool (open_for x (get_or ys n no_record))) [
          | inl t ↦ absurd (ne (sym (same_address (get_or ys n no_record).address x (and_parts (open_record (get_or ys n no_record)) (same (get_or ys n no_record).address x) t).1) ∙ same_address (get_or ys n no_record).address a parts.1))
          | inr f ↦ f
        ];
        was = ap is_some (found e) ∙ sym parts.0;
      }

  spot_closed : has (open_for a) ys ≡ false → has is_closed ys ≡ true → Spot ys b a (position_or_len is_closed ys)
  spot_closed e f =
      let n : ℕ = position_or_len is_closed ys in
      let closed : open_record (get_or ys n no_record) ≡ false = not-true (open_record (get_or ys n no_record)) (has_at is_closed ys f) in
      record {
        inside = ltb-true n (length ys) f;
        only = λ j lj h. absurd (false≢true (sym (has_none (open_for a) ys e j lj) ∙ h));
        no_other = λ x ne. and_left (open_record (get_or ys n no_record)) (same (get_or ys n no_record).address x) closed;
        was = ap is_some (none_found e) ∙ sym closed;
      }

-- where something is said of a first report, a record is free for its account
said_free : (free : Bool) (o : Result Said Refusal) (s : Said) → if_free free o ≡ Ok s → free ≡ true
said_free true o s e = refl
said_free false (Err x) s e = cc
said_free false (Ok x) s e = cc

-- an account can be opened while fewer are open than there are records
fewer : (m o l n : ℕ) → m ≡ o → o < l → l ≡ n → leb n m ≡ false
fewer m o l n p q e = grind (arith, nat_tests)

as_many : (m o l n : ℕ) → m ≡ o → o ≡ l → l ≡ n → leb n m ≡ true
as_many m o l n p q e = grind (arith, nat_tests)

module _ (ys : List AccountRecord) (b : Book) (r : Report) (old : LieIn ys b) (all : length ys ≡ open_accounts) where
  full : leb open_accounts (many (is_open b)) ≡ not (has is_closed ys)
  full = elim (cases_Bool (has is_closed ys)) [
    | inl free ↦ rw free (fewer (many (is_open b)) (count_by open_record ys) (length ys) open_accounts old.count (opens_less ys free) all)
    | inr none ↦ rw none (as_many (many (is_open b)) (count_by open_record ys) (length ys) open_accounts old.count (opens_full ys none) all)
  ]

  -- what the rule makes of a report is what is said of it at the records
  rule_is : by_open b r (b r.address).open_at ≡ onto b r.address (said_in ys r)
  rule_is = elim (cases_Bool (has (open_for r.address) ys)) [
    | inl e ↦ rw (e, found ys b r.address old e) (open_is b r (account_of (get_or ys (position_or_len (open_for r.address) ys) no_record)))
    | inr e ↦ rw (e, none_found ys b r.address old e) (first_is b r (has is_closed ys) full)
  ]

  right_in : RightSaid b r (said_in ys r)
  right_in = elim (cases_Bool (has (open_for r.address) ys)) [
    | inl e ↦ rw e (right_open b r (account_of (get_or ys (position_or_len (open_for r.address) ys) no_record)) (found ys b r.address old e))
    | inr e ↦ rw e (right_first b r (has is_closed ys) (none_found ys b r.address old e))
  ]

  spot_for : (s : Said) → said_in ys r ≡ Ok s → Spot ys b r.address (place_for r ys)
  spot_for s h = elim (cases_Bool (has (open_for r.address) ys)) [
    | inl e ↦ rw e (spot_open ys b r.address old e)
    | inr e ↦ rw e (spot_closed ys b r.address old e (said_free (has is_closed ys) (said_of_first r) s (rw e at h)))
  ]

module _ (xs new : List AccountRecord) (b : Book) (r : Report) (ok : lawful r ≡ true) (old : Holds xs b) where
  counted : length (counting xs) ≡ open_accounts
  counted = let e = old.enough in omega (arith, length-take open_accounts xs)

  holds_set : (y : AccountRecord) (s : Slot) (said-there : Said) → said_in (counting xs) r ≡ Ok said-there → open_for r.address y ≡ open_record y → s.open_at ≡ cond (open_record y) (Some (account_of y)) None → new ≡ set xs (place_for r (counting xs)) y → Holds new (written b r.address s)
  holds_set y s x h mine shown is =
      let spot = spot_for (counting xs) b r old.lie counted x h in
      let short : place_for r (counting xs) < open_accounts = let n = spot.inside in omega (arith, counted) in
      let lie = lie_in_after (counting xs) b r.address (place_for r (counting xs)) y s spot.inside spot.only spot.no_other mine shown spot.was (lawful_there r ok) old.lie in
      record {
        enough = let e = old.enough in let l = ap length is ∙ length-set xs (place_for r (counting xs)) y in omega arith;
        lie = subst (λ zs. LieIn zs (written b r.address s)) (sym (ap counting is ∙ take-set-lt open_accounts xs (place_for r (counting xs)) y short)) lie;
      }

  holds_after : (x : Reading) (st : Status) → said_in (counting xs) r ≡ Ok (says x) → x.account.address ≡ r.address → open_record x.account ≡ true → new ≡ kept st xs (place_for r (counting xs)) x.account → Holds new (after st b r.address (account_of x.account))
  holds_after x Open h a o is =
      holds_set x.account (record { open_at = Some (account_of x.account); closed = (b r.address).closed }) (says x) h
      (and_from (open_record x.account) (same x.account.address r.address) o (subst (λ z. same x.account.address z ≡ true) a (same_self x.account.address)) ∙ sym o)
      (sym (ap (λ v. cond v (Some (account_of x.account)) None) o)) is
  holds_after x Closed h a o is = holds_set closed_record (record { open_at = None; closed = account_of x.account ∷ (b r.address).closed }) (says x) h refl refl is
  holds_after x Repeat h a o is = subst (λ zs. Holds zs b) (sym is) old

-- Reading a report at records that hold a book is reading it by the rule.
pub follows : (xs new : List AccountRecord) (b : Book) (r : Report) (x : Result Reading Refusal) → Answers (said xs r) r x → Leaves xs r x new → Holds xs b → Follows b r x new
follows xs new b r (Err e) h l old = elim (cases_Bool (lawful r)) [
  | inl ok ↦ cond-true (lawful r) _ _ ok ∙ (rule_is (counting xs) b r old.lie (counted xs new b r ok old) ∙ ap (onto b r.address) (sym (cond-true (lawful r) _ _ ok) ∙ h))
  | inr no-law ↦ cond-false (lawful r) _ _ no-law ∙ ap (onto b r.address) (sym (cond-false (lawful r) _ _ no-law) ∙ h)
]
follows xs new b r (Ok x) h l old = elim (cases_Bool (lawful r)) [
  | inl ok ↦
      let there : said_in (counting xs) r ≡ Ok (says x) = sym (cond-true (lawful r) _ _ ok) ∙ h.0 in
      let right = subst (RightSaid b r) there (right_in (counting xs) b r old.lie (counted xs new b r ok old)) in (
        after x.status b r.address (account_of x.account),
        cond-true (lawful r) _ _ ok ∙ (rule_is (counting xs) b r old.lie (counted xs new b r ok old) ∙ ap (onto b r.address) there),
        holds_after xs new b r ok old x x.status there h.1 h.2 l,
        right.1,
        right.0,
      )
  | inr no-law ↦ let e = sym (cond-false (lawful r) _ _ no-law) ∙ h.0 in cc
]
