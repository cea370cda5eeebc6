-- The records and the account rule: what the records hold of a book of accounts, and that a report is read as the rule has it. Assumes nothing.
use Rattle.std.specs.Prelude.{◌≡◌, ℕ, ◌<◌, ◌≤◌, true, false, cond, List, [], ◌∷◌, length, take, Some, None, Ok, Err, Option, Result, ◌==◌, slice_index_or}
use Rattle.std.specs.List.{count_by}
use Rattle.report.specs.declared.report.Address.{Address}
use Rattle.report.specs.declared.report.Report.{Report}
use Rattle.report.specs.declared.refusal.Refusal.{Refusal}
use Rattle.report.specs.Limits.{open_accounts}
use Rattle.account.specs.declared.record.AccountRecord.{AccountRecord}
use Rattle.account.specs.declared.record.Status.{Status}
use Rattle.account.specs.declared.record.Status.TheVariants.{Repeat}
use Rattle.account.specs.declared.record.Reading.{Reading}
use Rattle.account.specs.declared.record.Stop.{Stop}
use Rattle.account.specs.Rule.{Account, Slot, Book, many, is_open, read_one, read_list, accounts_at}
use Rattle.report.specs.declared.report.Standing.TheVariants.{Active}
use Rattle.report.specs.declared.report.Elapsed.TheVariants.{Plain}
use Rattle.account.specs.Records.{no_record, open_record, open_for, account_of, counting, status_of, said, Answers, Leaves}

-- The open accounts of a book lie in the records, each in one.
pub record LieIn (ys : List AccountRecord) (b : Book) : Type 0 where
  -- no two records are open for one address
  pub apart : (i j : ℕ) (a : Address) → i < length ys → j < length ys → open_for a (slice_index_or ys i no_record) ≡ true → open_for a (slice_index_or ys j no_record) ≡ true → i ≡ j
  -- an open record is the open account of its address
  pub there : (i : ℕ) (a : Address) → i < length ys → open_for a (slice_index_or ys i no_record) ≡ true → (b a).open_at ≡ Some (account_of (slice_index_or ys i no_record))
  -- where no record is open for an address, no account is
  pub nowhere : (a : Address) → ((i : ℕ) → i < length ys → open_for a (slice_index_or ys i no_record) ≡ false) → (b a).open_at ≡ None
  -- as many accounts are open as records
  pub count : many (is_open b) ≡ count_by open_record ys

-- the records of a host hold a book: there are enough of them, and its open accounts lie in those that count
pub record Holds (xs : List AccountRecord) (b : Book) : Type 0 where
  pub enough : open_accounts ≤ length xs
  pub lie : LieIn (counting xs) b

-- the newest account of an address
abbrev pub first_of : List Account → Option Account
first_of [] = None
first_of (x ∷ xs) = Some x

abbrev pub newest : Slot → Option Account
newest s = first_of (accounts_at s)

-- what the rule makes of a report's account: the number last read is a repeat
abbrev pub status_at : Report → Option Account → Status
status_at r None = status_of r
status_at r (Some acc) = cond (r.number == acc.last) Repeat (status_of r)

-- A report is read as the account rule has it: refused as there, or else its account is what the rule leaves, and so are the accounts that the records hold.
abbrev pub Follows : Book → Report → Result Reading Refusal → List AccountRecord → Type 0
Follows b r (Err e) new = read_one r b ≡ Err e
Follows b r (Ok x) new = (b' : Book) × (read_one r b ≡ Ok b') × Holds new b' × (newest (b' r.address) ≡ Some (account_of x.account)) × (x.status ≡ status_at r (b r.address).open_at)

-- The reports of a list were read one after another, each admitted.
pub data Through : List AccountRecord → List Report → List AccountRecord → Type 0 where
  done : {xs : List AccountRecord} → Through xs [] xs
  more : {xs ys zs : List AccountRecord} {r : Report} {rs : List Report} (x : Reading) → Answers (said xs r) r (Ok x) → Leaves xs r (Ok x) ys → Through ys rs zs → Through xs (r ∷ rs) zs

-- what stands for a report past the last one
abbrev pub no_report : Report
no_report = record { address = record { kind = 0; number = 0 }; number = 0; party = 0; tick = 0; standing = Active; elapsed = Plain 0 }

-- what reading the report at an index answers and leaves in the records
abbrev pub ReadsAt : List AccountRecord → ℕ → Report → Result Reading Stop → List AccountRecord → Type 0
ReadsAt old i r (Ok x) new = Answers (said old r) r (Ok x) × Leaves old r (Ok x) new
ReadsAt old i r (Err s) new = (said old r ≡ Err s.refusal) × (s.index ≡ i) × (new ≡ old)

-- reading stopped at a report that is refused; those before it stay read, and it altered nothing
pub record Stopped (old : List AccountRecord) (rs : List Report) (s : Stop) (new : List AccountRecord) : Type 0 where
  pub inside : s.index < length rs
  pub before : Through old (take s.index rs) new
  pub refused : said new (slice_index_or rs s.index no_report) ≡ Err s.refusal

-- what reading a list of reports answers and leaves in the records
abbrev pub Reads : List AccountRecord → List Report → Result (Unit {0}) Stop → List AccountRecord → Type 0
Reads old rs (Ok _) new = Through old rs new
Reads old rs (Err s) new = Stopped old rs s new

-- The list is read as the account rule has it, up to the report that it refuses; the records then hold the accounts of those before.
abbrev pub FollowsAll : Book → List Report → Result (Unit {0}) Stop → List AccountRecord → Type 0
FollowsAll b rs (Ok _) new = (b' : Book) × (read_list rs b ≡ Ok b') × Holds new b'
FollowsAll b rs (Err s) new = (read_list rs b ≡ Err s.refusal) × ((b' : Book) × (read_list (take s.index rs) b ≡ Ok b') × Holds new b')
