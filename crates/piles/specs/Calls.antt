-- Sends and takes on a link, one after the other. Assumes nothing.
use Rattle.std.specs.Prelude.{◌≡◌, ℕ, ◌+◌, ◌≤◌, List, [], ◌∷◌, ◌++◌, length, Ok, Err}
use Rattle.report.specs.declared.refusal.Refusal.{Refusal}
use Rattle.report.specs.declared.report.Report.{Report}
use Rattle.link.specs.Links.{View, Sends, Takes}

-- calls as a link promises them, from one view to another, with the reports that were admitted and those that were handed out
pub data Calls : View → List Report → List Report → View → Type 0 where
  over : {v : View} → Calls v [] [] v
  admits : {v u w : View} {r : Report} {xs ys : List Report} → Sends v r (Ok tt) u → Calls u xs ys w → Calls v (r ∷ xs) ys w
  refuses : {v u w : View} {xs ys : List Report} (r : Report) (e : Refusal) → Sends v r (Err e) u → Calls u xs ys w → Calls v xs ys w
  hands_out : {v u w : View} {r : Report} {xs ys : List Report} → Takes v (Ok r) u → Calls u xs ys w → Calls v xs (r ∷ ys) w
  has_none : {v u w : View} {xs ys : List Report} (e : Refusal) → Takes v (Err e) u → Calls u xs ys w → Calls v xs ys w

-- What any calls come to: each admitted report is handed out once, behind those that waited and in the order of admission, or waits;
-- and no report costs more than one place.
pub record Keeps (v : View) (admitted handed : List Report) (w : View) : Type 0 where
  pub order : v.waiting ++ admitted ≡ handed ++ w.waiting
  pub places : v.free ≤ w.free + length admitted
  pub capacity : w.capacity ≡ v.capacity

-- The same from an empty link of so many places, which are all free again whenever nothing waits.
pub record KeepsAll (places : ℕ) (admitted handed : List Report) (w : View) : Type 0 where
  pub order : admitted ≡ handed ++ w.waiting
  pub room : places ≤ w.free + length admitted
  pub whole : w.waiting ≡ [] → w.free ≡ places
  pub capacity : w.capacity ≡ places
