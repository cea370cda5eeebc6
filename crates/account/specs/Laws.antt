-- What the account rule comes to, whatever the reports. Assumes nothing.
use Rattle.std.specs.Prelude.{◌≡◌, ℕ, ◌≤◌, true, false, ◌⊎◌, List, [], ◌∷◌, replicate, Some, None, Ok, Err, Option, Result}
use Rattle.report.specs.declared.report.Address.{Address}
use Rattle.report.specs.declared.report.Standing.{Standing}
use Rattle.report.specs.declared.report.Standing.TheVariants.{Active, Ended}
use Rattle.report.specs.declared.report.Elapsed.{Elapsed}
use Rattle.report.specs.declared.report.Elapsed.TheVariants.{Plain, Switched}
use Rattle.report.specs.declared.report.Report.{Report}
use Rattle.report.specs.declared.refusal.Refusal.{Refusal}
use Rattle.report.specs.Lawful.{same, lawful}
use Rattle.report.specs.Limits.{open_accounts}
use Rattle.account.specs.Rule.{Account, Book, no_accounts, many, is_open, read_one, read_list, accounts}
use Rattle.account.specs.Records.{closed_record}
use Rattle.account.specs.Follow.{Holds, newest}

-- an account shows no fewer ticks of any tariff than another
abbrev pub NoFewer : Account → Option Account → Type 0
NoFewer acc None = ⊥
NoFewer acc (Some x) = (k : ℕ) → acc.ticks k ≤ x.ticks k

-- a sample: a connection that is reported three times, with a switch in its second period
abbrev pub sample_report : ℕ → ℕ → Standing → Elapsed → Report
sample_report n tick standing elapsed = record { address = record { kind = 1; number = 2 }; number = n; party = 1; tick = tick; standing = standing; elapsed = elapsed }

abbrev pub sample : List Report
sample = sample_report 1 700 Active (Plain 600) ∷ sample_report 2 1300 Active (Switched 400 (Some 800)) ∷ sample_report 3 1350 Ended (Switched 450 None) ∷ []

-- the accounts of an address after a list of reports
abbrev pub accounts_after : Result Book Refusal → Address → List (ℕ → ℕ)
accounts_after (Err e) a = []
accounts_after (Ok b) a = accounts (b a)

-- the ticks of tariffs 1 and 2 in each account
abbrev pub first_two : List (ℕ → ℕ) → List (ℕ × ℕ)
first_two [] = []
first_two (f ∷ fs) = (f 1, f 2) ∷ first_two fs

pub record AccountLaws : Type 0 where
  -- before any report is read, as many closed records as accounts can be open hold the book without accounts
  pub at_first : Holds (replicate open_accounts closed_record) no_accounts
  -- no report makes the ticks of a tariff fewer
  pub never_fewer : (r : Report) (b b' : Book) (acc : Account) → (b r.address).open_at ≡ Some acc → read_one r b ≡ Ok b' → NoFewer acc (newest (b' r.address))
  -- a repeat changes nothing, whatever else it says
  pub repeats : (r : Report) (b : Book) (acc : Account) → lawful r ≡ true → (b r.address).open_at ≡ Some acc → r.number ≡ acc.last → read_one r b ≡ Ok b
  -- the accounts of other addresses are not touched
  pub apart : (r : Report) (b b' : Book) → read_one r b ≡ Ok b' → (x : Address) → same x r.address ≡ false → b' x ≡ b x
  -- a closed account stays as it was
  pub closed_stay : (r : Report) (b b' : Book) (x : Address) → read_one r b ≡ Ok b' → ((b' x).closed ≡ (b x).closed) ⊎ ((acc : Account) × ((b' x).closed ≡ acc ∷ (b x).closed))
  -- never are more accounts open than can be
  pub few : (r : Report) (b b' : Book) → many (is_open b) ≤ open_accounts → read_one r b ≡ Ok b' → many (is_open b') ≤ open_accounts
  -- the sample is read, and its one account shows 800 ticks of tariff 1 and 450 of tariff 2
  pub sampled : first_two (accounts_after (read_list sample no_accounts) (record { kind = 1; number = 2 })) ≡ ((800, 450) ∷ [])
