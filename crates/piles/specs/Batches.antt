-- What sending a row of reports to a link comes to, and taking a row from it. Assumes nothing.
use Rattle.std.specs.Prelude.{◌≡◌, ℕ, ◌-◌, ◌≤◌, min, cond, List, [], ◌∷◌, ◌++◌, length, take, drop, Some, None, Ok, Err, Option, Result, nat_lt}
use Rattle.report.specs.declared.refusal.Refusal.{Refusal}
use Rattle.report.specs.declared.refusal.Refusal.TheVariants.{NoFreePlace}
use Rattle.report.specs.declared.report.Report.{Report}
use Rattle.link.specs.Links.{View, Sends}
use Rattle.reserve.specs.Lies.{AllLawful}
use Rattle.piles.specs.declared.batches.Unsent.{Unsent}

-- how many of rs were sent: all of them, or those before the one that was refused
abbrev pub sent_count : List Report → Result (Unit {0}) Unsent → ℕ
sent_count rs (Ok _) = length rs
sent_count rs (Err u) = u.count

-- what the next one was refused with, if one was
abbrev pub refusal_of : Result (Unit {0}) Unsent → Option Refusal
refusal_of (Ok _) = None
refusal_of (Err u) = Some u.refusal

-- the view with the first n of rs more, each in a place that was free
abbrev pub with_first : View → List Report → ℕ → View
with_first v rs n = record { waiting = v.waiting ++ take n rs; free = v.free - n; capacity = v.capacity }

-- the first n of rs were sent, in their order: a place was free for each, and each is within the frame's rules
pub record SentFirst (v : View) (rs : List Report) (n : ℕ) (w : View) : Type 0 where
  pub few : n ≤ length rs
  pub room : n ≤ v.free
  pub admitted : AllLawful (take n rs)
  pub is : w ≡ with_first v rs n

-- the report after the first n of rs was refused with e, as the rule of a send has it at the view w
pub record RefusedNext (e : Refusal) (w : View) (rs : List Report) (n : ℕ) : Type 0 where
  pub next : Report
  pub others : List Report
  pub left : drop n rs ≡ next ∷ others
  pub why : Sends w next (Err e) w

-- why no more than the first n of rs were sent: there are no more, or the next one was refused
abbrev pub Stops : Option Refusal → View → List Report → ℕ → Type 0
Stops None w rs n = n ≡ length rs
Stops (Some e) w rs n = RefusedNext e w rs n

-- the n oldest were taken into the front of a place, in their order, and the rest of the place stays as it was; with none taken, the
-- link is as it was
pub record TookFirst (v : View) (old : List Report) (n : ℕ) (new : List Report) (w : View) : Type 0 where
  pub few : n ≤ length old
  pub size : length new ≡ length old
  pub out : v.waiting ≡ take n new ++ w.waiting
  pub rest : drop n new ≡ drop n old
  pub free : v.free ≤ w.free
  pub capacity : w.capacity ≡ v.capacity
  pub none : n ≡ 0 → w ≡ v

-- so many places, all of them free
abbrev pub empty : ℕ → View
empty places = record { waiting = []; free = places; capacity = places }

-- What an empty link of so many places does with a row of lawful reports: it takes them in their order, one to each place, and
-- refuses the one after the last place for want of a place.
pub record Fills (places : ℕ) (rs : List Report) (n : ℕ) (why : Option Refusal) (w : View) : Type 0 where
  pub count : n ≡ min (length rs) places
  pub refusal : why ≡ cond (nat_lt places (length rs)) (Some NoFreePlace) None
  pub list : w.waiting ≡ take n rs
  pub free : w.free ≡ places - n
  pub capacity : w.capacity ≡ places

-- What comes of a link whose reports all go into one place: the n that waited stand there in their order, nothing waits, and the
-- whole capacity is free.
pub record Empties (v : View) (n : ℕ) (new : List Report) (w : View) : Type 0 where
  pub count : n ≡ length v.waiting
  pub order : take n new ≡ v.waiting
  pub after : w ≡ empty v.capacity
