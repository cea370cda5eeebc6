-- The first record that passes a test, of those that count. Assumes nothing.
use Rattle.std.proofs.Common.{◌≡◌, ℕ, ◌<◌, Bool, true, List, get_or, Some, sym, inl, inr, arith, length-take}
use Rattle.std.proofs.lemmas.Bool.{and_parts, cases_Bool}
use Rattle.std.proofs.lemmas.List.{get_or-take}
use Rattle.std.proofs.lemmas.List.Quantifiers.{position-Some}
use Rattle.std.specs.List.{position, position_or_len}
use Rattle.report.specs.declared.report.Address.{Address}
use Rattle.report.specs.Limits.{open_accounts}
use Rattle.report.proofs.Addresses.{same_address}
use Rattle.account.specs.declared.record.AccountRecord.{AccountRecord}
use Rattle.account.specs.Records.{no_record, counting, has, open_record, open_for}

-- whether a record passes, and where the first one is, by what a search for it gives
pub found : (p : AccountRecord → Bool) (xs : List AccountRecord) (i : ℕ) → Some i ≡ position p xs → (has p xs ≡ true) × (i ≡ position_or_len p xs)
found p xs i e = elim (cases_Bool (has p xs)) [ inl h ↦ let f = rw h at e in (h, (cc)) | inr h ↦ let f = rw h at e in cc ]

-- a record that was found as the open account of an address
pub record OpenThere (xs : List AccountRecord) (a : Address) (i : ℕ) : Type 0 where
  pub counts : get_or xs i no_record ≡ get_or (counting xs) i no_record
  pub open_one : open_record (get_or xs i no_record) ≡ true
  pub address : (get_or xs i no_record).address ≡ a

pub open_there : (xs : List AccountRecord) (a : Address) (i : ℕ) → Some i ≡ position (open_for a) (counting xs) → OpenThere xs a i
open_there xs a i e =
    let at = position-Some (open_for a) (counting xs) i no_record (sym e) in
    let short : i < open_accounts = let h = at.0 in omega (arith, length-take open_accounts xs) in
    let same : get_or (counting xs) i no_record ≡ get_or xs i no_record = get_or-take open_accounts xs i no_record short in
    let parts = and_parts _ _ (rw same at at.1) in
    record { counts = sym same; open_one = parts.0; address = same_address _ a parts.1 }
