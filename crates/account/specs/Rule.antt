-- The account rule: what a list of reports comes to, by address. Assumes nothing.
use Rattle.std.specs.Prelude.{ℕ, zero, suc, ◌+◌, Bool, true, false, cond, List, [], ◌∷◌, ◌++◌, map, is_some, Some, None, Ok, Err, Option, Result, ◌==◌, nat_le, nat_lt}
use Rattle.report.specs.declared.report.Address.{Address}
use Rattle.report.specs.declared.report.Elapsed.{Elapsed}
use Rattle.report.specs.declared.report.Elapsed.TheVariants.{Plain, Switched}
use Rattle.report.specs.declared.report.Report.{Report}
use Rattle.report.specs.declared.refusal.Refusal.{Refusal}
use Rattle.report.specs.declared.refusal.Refusal.TheVariants.{OutOfRange, AccountRule, AccountsFull}
use Rattle.report.specs.Lawful.{same, is_active, lawful}
use Rattle.report.specs.Limits.{address_numbers, tariffs, open_accounts}

-- the number last read, the current tariff, and the ticks of each tariff, from 1 on
pub record Account : Type 0 where
  pub last : ℕ
  pub current : ℕ
  pub ticks : ℕ → ℕ

-- f with the value n at k
abbrev pub upd : (ℕ → ℕ) → ℕ → ℕ → ℕ → ℕ
upd f k n x = cond (x == k) n (f x)

-- an account that nothing was read into: tariff 1 is current, and no tariff has ticks
abbrev pub opened : Account
opened = record { last = 0; current = 1; ticks = λ k. 0 }

-- the current ticks become n, and may not become fewer
abbrev pub becomes : ℕ → Account → Option Account
becomes n acc = cond (nat_le (acc.ticks acc.current) n) (Some (record { last = acc.last; current = acc.current; ticks = upd acc.ticks acc.current n })) None

-- the next tariff becomes current, of which there must be one
abbrev pub next : Account → Option Account
next acc = cond (nat_lt acc.current tariffs) (Some (record { last = acc.last; current = acc.current + 1; ticks = acc.ticks })) None

-- a step on what an earlier step left, if it left something
abbrev pub then_in : Option Account → (Account → Option Account) → Option Account
then_in None f = None
then_in (Some acc) f = f acc

-- a switch before the answer left tariff 1 without ticks: tariff 2 becomes current
abbrev pub past_first : Account → Option Account
past_first acc = cond (acc.current == 1) (cond (acc.ticks 1 == 0) (next acc) None) (Some acc)

-- Plain form: the current tariff must be 1, and its ticks become the time. Switch form without interval: past tariff 1, the current ticks become
-- the time. Switch form with interval: the current ticks become the interval, the next tariff becomes current, and its ticks become the time.
abbrev pub read : Elapsed → Account → Option Account
read (Plain n) acc = cond (acc.current == 1) (becomes n acc) None
read (Switched n None) acc = then_in (past_first acc) (becomes n)
read (Switched n (Some i)) acc = then_in (becomes i acc) (λ x. then_in (next x) (becomes n))

-- the accounts of an address: the open one, if one is, and the closed ones, newest first
pub record Slot : Type 0 where
  pub open_at : Option Account
  pub closed : List Account

-- the accounts of all addresses
abbrev pub Book : Type 0
Book = Address → Slot

-- before any report is read
abbrev pub no_accounts : Book
no_accounts a = record { open_at = None; closed = [] }

-- 1 for true, 0 for false
abbrev pub bit_of : Bool → ℕ
bit_of true = 1
bit_of false = 0

-- of how many addresses of kind k, with numbers 1 to n, f is true
abbrev pub many_to : ℕ → ℕ → (Address → Bool) → ℕ
many_to zero k f = 0
many_to (suc n) k f = many_to n k f + bit_of (f (record { kind = k; number = suc n }))

-- of how many addresses f is true
abbrev pub many : (Address → Bool) → ℕ
many f = many_to address_numbers 1 f + many_to address_numbers 2 f

-- whether an account is open at an address
abbrev pub is_open : Book → Address → Bool
is_open b a = is_some (b a).open_at

-- the account, with n as the number last read
abbrev pub numbered : ℕ → Account → Account
numbered n acc = record { last = n; current = acc.current; ticks = acc.ticks }

-- where a report leaves its account: a last report closes it
abbrev pub settled : Report → List Account → Account → Slot
settled r closed acc = cond (is_active r.standing) (record { open_at = Some (numbered r.number acc); closed = closed }) (record { open_at = None; closed = numbered r.number acc ∷ closed })

-- the book with other accounts at one address
abbrev pub written : Book → Address → Slot → Book
written b a s x = cond (same x a) s (b x)

-- a report to an open account
abbrev pub going_on : Book → Report → Option Account → Result Book Refusal
going_on b r None = Err AccountRule
going_on b r (Some acc) = Ok (written b r.address (settled r (b r.address).closed acc))

-- a report that opens an account, of which only so many can be open
abbrev pub opening : Book → Report → Option Account → Result Book Refusal
opening b r None = Err AccountRule
opening b r (Some acc) = cond (nat_le open_accounts (many (is_open b))) (Err AccountsFull) (Ok (written b r.address (settled r (b r.address).closed acc)))

-- A report numbered 1 opens an account where none is open. The number last read is a repeat and is passed over; any other must be one higher.
abbrev pub by_open : Book → Report → Option Account → Result Book Refusal
by_open b r None = cond (r.number == 1) (opening b r (read r.elapsed opened)) (Err AccountRule)
by_open b r (Some acc) = cond (r.number == acc.last) (Ok b) (cond (r.number == acc.last + 1) (going_on b r (read r.elapsed acc)) (Err AccountRule))

-- one report
abbrev pub read_one : Report → Book → Result Book Refusal
read_one r b = cond (lawful r) (by_open b r (b r.address).open_at) (Err OutOfRange)

-- reading goes on from a book, and stops at a refusal
abbrev pub then_read : Result Book Refusal → (Book → Result Book Refusal) → Result Book Refusal
then_read (Err e) f = Err e
then_read (Ok b) f = f b

-- a list of reports in order, up to one refused
abbrev pub read_list : List Report → Book → Result Book Refusal
read_list [] b = Ok b
read_list (r ∷ rs) b = then_read (read_one r b) (read_list rs)

-- the open account, if one is, as a list
abbrev pub open_list : Option Account → List Account
open_list None = []
open_list (Some x) = x ∷ []

-- the accounts of an address, newest first, and what each tariff of them shows
abbrev pub accounts_at : Slot → List Account
accounts_at s = open_list s.open_at ++ s.closed

abbrev pub accounts : Slot → List (ℕ → ℕ)
accounts s = map (λ x. x.ticks) (accounts_at s)

-- all tariffs together, from 1 to n
abbrev pub total : ℕ → (ℕ → ℕ) → ℕ
total zero f = 0
total (suc n) f = total n f + f (suc n)
