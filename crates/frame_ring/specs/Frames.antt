-- Reports that wait as frames in bytes. Assumes nothing.
use Rattle.std.specs.Prelude.{◌≡◌, ℕ, ◌+◌, ◌-◌, cond, List, length, Ok, Err}
use Rattle.report.specs.Lawful.{lawful}
use Rattle.report.specs.declared.refusal.Refusal.{Refusal}
use Rattle.report.specs.declared.refusal.Refusal.TheVariants.{NoFreePlace, OutOfRange}
use Rattle.report.specs.declared.report.Report.{Report}
use Rattle.ring.specs.Slots.{list, slot, after}
use Rattle.ring.specs.declared.window.Window.{Window}
use Rattle.link.specs.Links.{View, Sends, Takes, MakesUp}
use Rattle.frame_ring.specs.Places.{places_in, places, Filled}

-- what waits, oldest first
abbrev pub waiting : List ℕ → Window → List Report
waiting b w = list (places b) w

-- what waits, the places where nothing waits, and the whole places
abbrev pub bytes_view : List ℕ → Window → View
bytes_view b w = record { waiting = waiting b w; free = places_in b - length (waiting b w); capacity = places_in b }

-- the place that the next report is written into
abbrev pub next_place : List ℕ → Window → ℕ
next_place b w = slot (places_in b) w

-- the frame of r was written into the next place, and the report after it goes into the place after that one
pub record Wrote (b : List ℕ) (w : Window) (r : Report) (b' : List ℕ) (v : Window) : Type 0 where
  pub filled : Filled b (next_place b w) r b'
  pub next : next_place b' v ≡ after (places_in b) (next_place b w)

-- r waits behind the others, in the window v
pub record Appended (b : List ℕ) (w : Window) (r : Report) (b' : List ℕ) (v : Window) : Type 0 where
  pub sends : Sends (bytes_view b w) r (Ok tt) (bytes_view b' v)
  pub wrote : Wrote b w r b' v
  pub sum : MakesUp (bytes_view b' v)

-- r was refused as the link's rule says, and every byte is as it was
pub record NotAppended (b : List ℕ) (w : Window) (r : Report) (e : Refusal) (b' : List ℕ) : Type 0 where
  pub sends : Sends (bytes_view b w) r (Err e) (bytes_view b w)
  pub same : b' ≡ b
  pub sum : MakesUp (bytes_view b w)

-- an empty ring refused r, since no frame can hold it, or else since the bytes make no whole place; every byte is as it was
pub record NotSent (b : List ℕ) (r : Report) (e : Refusal) (b' : List ℕ) : Type 0 where
  pub why : cond (lawful r) ((places_in b ≡ 0) × (e ≡ NoFreePlace)) (e ≡ OutOfRange)
  pub same : b' ≡ b

-- one place more is free, and the next report goes where it would have gone
pub record Freed (b : List ℕ) (w v : Window) : Type 0 where
  pub free : (bytes_view b v).free ≡ (bytes_view b w).free + 1
  pub next : next_place b v ≡ next_place b w

-- r is the oldest, and v is the window that holds the others
pub record First (b : List ℕ) (w : Window) (r : Report) (v : Window) : Type 0 where
  pub takes : Takes (bytes_view b w) (Ok r) (bytes_view b v)
  pub freed : Freed b w v
  pub sum : MakesUp (bytes_view b v)
