-- What a `Fifo` means. Assumes nothing.
use Rattle.std.specs.Prelude.{◌≡◌, ℕ, ◌+◌, ◌-◌, ◌<◌, List, [], ◌∷◌, ◌++◌, length, slice_set}
use Rattle.ring.specs.Slots.{list, slot, after, free_in}
use Rattle.ring.specs.declared.fifo.Fifo.{Fifo}

module _ {T : Type 0} where
  -- the lent memory
  abbrev pub memory : Fifo T → List T
  memory f = f.places.now

  -- what waits, oldest first
  abbrev pub waiting : Fifo T → List T
  waiting f = list (memory f) f.window

  -- so many can wait: the places lent
  abbrev pub capacity : Fifo T → ℕ
  capacity f = length (memory f)

  -- the places where nothing waits
  abbrev pub free : Fifo T → ℕ
  free f = free_in (memory f) f.window

  -- the place that the next one to wait is written to
  abbrev pub next_slot : Fifo T → ℕ
  next_slot f = slot (capacity f) f.window

  -- x came to wait behind the others: one place was written, and every other place is as it was
  pub record Pushed (f : Fifo T) (x : T) (g : Fifo T) : Type 0 where
    pub room : length (waiting f) < capacity f
    pub list : waiting g ≡ waiting f ++ x ∷ []
    pub wrote : memory g ≡ slice_set (memory f) (next_slot f) x
    pub next : next_slot g ≡ after (capacity f) (next_slot f)
    pub free : free g ≡ free f - 1
    pub size : capacity g ≡ capacity f

  -- every place was taken, and nothing changed
  pub record NotPushed (f g : Fifo T) : Type 0 where
    pub full : length (waiting f) ≡ capacity f
    pub same : g ≡ f

  -- the oldest was x, and the others wait on; no place was written
  pub record Popped (f : Fifo T) (x : T) (g : Fifo T) : Type 0 where
    pub list : waiting f ≡ x ∷ waiting g
    pub memory : memory g ≡ memory f
    pub next : next_slot g ≡ next_slot f
    pub free : free g ≡ free f + 1
    pub size : capacity g ≡ capacity f

  -- nothing waited, and nothing changed
  pub record NotPopped (f g : Fifo T) : Type 0 where
    pub none : waiting f ≡ []
    pub same : g ≡ f
