-- Steps of the account rule on an account that is open. Assumes nothing.
use Rattle.std.specs.Prelude.{◌≡◌, ℕ, List, true, false, Some, None, Ok, Err, Option, Result, slice_index_or}
use Rattle.std.specs.List.{position_or_len}
use Rattle.report.specs.declared.report.Address.{Address}
use Rattle.report.specs.declared.refusal.Refusal.{Refusal}
use Rattle.report.specs.declared.refusal.Refusal.TheVariants.{AccountRule}
use Rattle.account.specs.declared.record.AccountRecord.{AccountRecord}
use Rattle.account.specs.declared.record.Status.{Status}
use Rattle.account.specs.declared.open_account.OpenAccount.{OpenAccount}
use Rattle.account.specs.Rule.{Account}
use Rattle.account.specs.Records.{Said, account_of, open_for, has, no_record}

-- A step of the rule on one account, done to its record: the account that the rule leaves, at the same address, or a refusal where it leaves none.
abbrev pub Moves : OpenAccount → Option Account → Result (Unit {0}) Refusal → OpenAccount → Type 0
Moves x o (Ok _) y = (o ≡ Some (account_of y.record)) × (y.record.address ≡ x.record.address)
Moves x o (Err e) y = (o ≡ None) × (e ≡ AccountRule)

-- An account takes a report by what is said of that: it is left as said, at the same address, with what became of it; or the report is refused as said.
abbrev pub TakesReport : OpenAccount → Result Said Refusal → Result Status Refusal → OpenAccount → Type 0
TakesReport x o (Ok s) y = (o ≡ Ok (record { status = s; account = account_of y.record })) × (y.record.address ≡ x.record.address)
TakesReport x o (Err e) y = o ≡ Err e

-- the first record that is the open account of an address, with its place, or none
abbrev pub OpenAt : List AccountRecord → Address → Option (ℕ × OpenAccount) → Type 0
OpenAt xs a None = has (open_for a) xs ≡ false
OpenAt xs a (Some x) = (has (open_for a) xs ≡ true) × (x.0 ≡ position_or_len (open_for a) xs) × (x.1.record ≡ slice_index_or xs x.0 no_record) × (x.1.record.address ≡ a)
