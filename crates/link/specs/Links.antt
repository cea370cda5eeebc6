-- What a report link means, and what each call promises of it. Assumes nothing.
use Rattle.std.specs.Prelude.{◌≡◌, ℕ, ◌+◌, ◌-◌, ◌<◌, ◌≤◌, true, cond, List, [], ◌∷◌, ◌++◌, length, Ok, Err, Result}
use Rattle.report.specs.declared.refusal.Refusal.{Refusal}
use Rattle.report.specs.declared.refusal.Refusal.TheVariants.{OutOfRange, NoFreePlace, NothingWaits}
use Rattle.report.specs.declared.report.Report.{Report}
use Rattle.report.specs.Lawful.{lawful}

-- the waiting reports, oldest first, the free places and the fixed capacity
pub record View : Type 0 where
  pub waiting : List Report
  pub free : ℕ
  pub capacity : ℕ

-- the view with one report more, in a place that was free
abbrev pub with_one_more : View → Report → View
with_one_more v r = record { waiting = v.waiting ++ (r ∷ []); free = v.free - 1; capacity = v.capacity }

-- A send: a report outside the frame's rules is refused as out of range, else any report where no place is free; else it is appended.
abbrev pub Sends : View → Report → Result (Unit {0}) Refusal → View → Type 0
Sends v r (Ok _) w = (lawful r ≡ true) × (0 < v.free) × (w ≡ with_one_more v r)
Sends v r (Err e) w = (cond (lawful r) ((v.free ≡ 0) × (e ≡ NoFreePlace)) (e ≡ OutOfRange)) × (w ≡ v)

-- A take: the oldest comes out and the free places never become fewer; it is refused exactly where nothing waits.
abbrev pub Takes : View → Result Report Refusal → View → Type 0
Takes v (Ok r) w = (v.waiting ≡ r ∷ w.waiting) × (v.free ≤ w.free) × (w.capacity ≡ v.capacity)
Takes v (Err e) w = (v.waiting ≡ []) × (e ≡ NothingWaits) × (w ≡ v)

-- the free places and the waiting reports make up the capacity
abbrev pub MakesUp : View → Type 0
MakesUp v = v.free + length v.waiting ≡ v.capacity
