-- Accounts in records of the host's: what every record means, and what reading a report does to them. Assumes nothing.
use Rattle.std.specs.Prelude.{◌≡◌, ℕ, ◌+◌, ◌<◌, Bool, true, cond, not, ◌&&◌, List, [], ◌∷◌, length, take, replicate, Some, None, Ok, Err, Option, Result, ◌==◌, nat_lt, slice_index, slice_index_or, slice_set}
use Rattle.std.specs.List.{position_or_len}
use Rattle.report.specs.declared.report.Address.{Address}
use Rattle.report.specs.declared.report.Report.{Report}
use Rattle.report.specs.declared.refusal.Refusal.{Refusal}
use Rattle.report.specs.declared.refusal.Refusal.TheVariants.{OutOfRange, AccountRule, AccountsFull}
use Rattle.report.specs.Lawful.{within, same, is_active, lawful}
use Rattle.report.specs.Limits.{tariffs, open_accounts}
use Rattle.account.specs.declared.record.AccountRecord.{AccountRecord}
use Rattle.account.specs.declared.record.Status.{Status}
use Rattle.account.specs.declared.record.Status.TheVariants.{Open, Closed, Repeat}
use Rattle.account.specs.declared.record.Reading.{Reading}
use Rattle.account.specs.Rule.{Account, opened, read, numbered}

-- the record that closing an account leaves
abbrev pub closed_record : AccountRecord
closed_record = record { address = record { kind = 0; number = 0 }; last = 0; tariff = 0; ticks = replicate tariffs 0 }

-- what stands for a record past the last one
abbrev pub no_record : AccountRecord
no_record = record { address = record { kind = 0; number = 0 }; last = 0; tariff = 0; ticks = [] }

-- a record is an open account while its tariff is a tariff
abbrev pub open_record : AccountRecord → Bool
open_record x = within 1 tariffs x.tariff

-- the ticks of tariff k in a list that begins with those of tariff 1; no tariff past the list has ticks
abbrev pub ticks_of : List ℕ → ℕ → ℕ
ticks_of ts k = slice_index (0 ∷ ts) k

-- the account that an open record is
abbrev pub account_of : AccountRecord → Account
account_of x = record { last = x.last; current = x.tariff; ticks = ticks_of x.ticks }

-- the record is the open account of an address
abbrev pub open_for : Address → AccountRecord → Bool
open_for a x = open_record x && same x.address a

-- the record is free for an account
abbrev pub is_closed : AccountRecord → Bool
is_closed x = not (open_record x)

-- so many records count as the most accounts that can be open; those further on are left alone
abbrev pub counting : List AccountRecord → List AccountRecord
counting xs = take open_accounts xs

-- What is said of a report that is read: what became of its account, and the account.
pub record Said : Type 0 where
  pub status : Status
  pub account : Account

-- a last report closes its account
abbrev pub status_of : Report → Status
status_of r = cond (is_active r.standing) Open Closed

-- of a report by which the rule leaves an account, or none
abbrev pub said_of_left : Report → Option Account → Result Said Refusal
said_of_left r None = Err AccountRule
said_of_left r (Some acc) = Ok (record { status = status_of r; account = numbered r.number acc })

-- of a report to an open account
abbrev pub said_of_open : Account → Report → Result Said Refusal
said_of_open acc r = cond (r.number == acc.last) (Ok (record { status = Repeat; account = acc })) (cond (r.number == acc.last + 1) (said_of_left r (read r.elapsed acc)) (Err AccountRule))

-- of a report where no account is open
abbrev pub said_of_first : Report → Result Said Refusal
said_of_first r = cond (r.number == 1) (said_of_left r (read r.elapsed opened)) (Err AccountRule)

-- of an account that is to be opened, if a record is free for it
abbrev pub if_free : Bool → Result Said Refusal → Result Said Refusal
if_free free (Err e) = Err e
if_free free (Ok x) = cond free (Ok x) (Err AccountsFull)

-- whether one of the records passes
abbrev pub has : (AccountRecord → Bool) → List AccountRecord → Bool
has p xs = nat_lt (position_or_len p xs) (length xs)

-- the place of the record for a report: of its open account, else the first closed one
abbrev pub place_for : Report → List AccountRecord → ℕ
place_for r xs = cond (has (open_for r.address) xs) (position_or_len (open_for r.address) xs) (position_or_len is_closed xs)

-- of a report within the frame's rules, at the records that count
abbrev pub said_in : List AccountRecord → Report → Result Said Refusal
said_in xs r = cond (has (open_for r.address) xs) (said_of_open (account_of (slice_index_or xs (position_or_len (open_for r.address) xs) no_record)) r) (if_free (has is_closed xs) (said_of_first r))

-- of any report, at handed records
abbrev pub said : List AccountRecord → Report → Result Said Refusal
said xs r = cond (lawful r) (said_in (counting xs) r) (Err OutOfRange)

-- what a reading says
abbrev pub says : Reading → Said
says x = record { status = x.status; account = account_of x.account }

-- what a report leaves in the records: its account in one of them, or the closed record; a repeat leaves all as they were
abbrev pub kept : Status → List AccountRecord → ℕ → AccountRecord → List AccountRecord
kept Open xs n x = slice_set xs n x
kept Closed xs n x = slice_set xs n closed_record
kept Repeat xs n x = xs

-- an answer says what the rules have said, of an account of the report's own address with a tariff
abbrev pub Answers : Result Said Refusal → Report → Result Reading Refusal → Type 0
Answers o r (Ok x) = (o ≡ Ok (says x)) × (x.account.address ≡ r.address) × (open_record x.account ≡ true)
Answers o r (Err e) = o ≡ Err e

-- what an answer leaves in the records; a refusal alters nothing
abbrev pub Leaves : List AccountRecord → Report → Result Reading Refusal → List AccountRecord → Type 0
Leaves old r (Ok x) new = new ≡ kept x.status old (place_for r (counting old)) x.account
Leaves old r (Err e) new = new ≡ old

-- an answer with the place of its record, which is one of the records
abbrev pub Finds : List AccountRecord → Report → Result (ℕ × Reading) Refusal → Type 0
Finds xs r (Ok x) = Answers (said xs r) r (Ok x.1) × (x.0 ≡ place_for r (counting xs)) × (x.0 < length xs)
Finds xs r (Err e) = Answers (said xs r) r (Err e)
