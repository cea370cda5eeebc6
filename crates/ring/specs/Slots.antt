-- A queue in a row of places. Assumes nothing.
use Rattle.std.specs.Prelude.{◌≡◌, ℕ, ◌+◌, ◌-◌, ◌<◌, min, cond, List, [], ◌∷◌, ◌++◌, length, take, drop, nat_lt, slice_set}
use Rattle.ring.specs.declared.window.Window.{Window}
use Rattle.ring.specs.declared.window.Turn.{Turn}

-- where the queue begins: a head past the row means the first place
abbrev pub start_of : (size : ℕ) → Window → ℕ
start_of size w = cond (nat_lt w.head size) w.head 0

-- how many wait: a count past the size means all places
abbrev pub count_of : (size : ℕ) → Window → ℕ
count_of size w = min w.count size

-- the place `count` places after the place `head`, round the end of the row
abbrev pub place_of : (size head count : ℕ) → ℕ
place_of size head count = cond (nat_lt count (size - head)) (head + count) (count - (size - head))

-- the place after another, round the end of the row
abbrev pub after : (size place : ℕ) → ℕ
after size place = cond (nat_lt (place + 1) size) (place + 1) 0

-- the place behind those that wait
abbrev pub slot : (size : ℕ) → Window → ℕ
slot size w = place_of size (start_of size w) (count_of size w)

-- the window with one more behind those that wait
abbrev pub grown : (size : ℕ) → Window → Window
grown size w = record { head = start_of size w; count = count_of size w + 1 }

-- the window without the oldest
abbrev pub shrunk : (size : ℕ) → Window → Window
shrunk size w = record { head = after size (start_of size w); count = count_of size w - 1 }

-- one more comes to wait, in the place behind the others
pub record Enters (size : ℕ) (w : Window) (t : Turn) : Type 0 where
  pub room : count_of size w < size
  pub inside : t.place < size
  pub at : t.place ≡ slot size w
  pub grows : t.window ≡ grown size w

-- the oldest goes, and its place is free again
pub record Leaves (size : ℕ) (w : Window) (t : Turn) : Type 0 where
  pub some : 0 < count_of size w
  pub inside : t.place < size
  pub at : t.place ≡ start_of size w
  pub shrinks : t.window ≡ shrunk size w

module _ {T : Type 0} where
  -- the places from the one at `head` on, round to the one before it
  abbrev pub turned : List T → ℕ → List T
  turned xs head = drop head xs ++ take head xs

  -- what stands in `count` places from `head` on
  abbrev pub queue : List T → (head count : ℕ) → List T
  queue xs head count = take count (turned xs head)

  -- what waits, oldest first
  abbrev pub list : List T → Window → List T
  list xs w = queue xs (start_of (length xs) w) (count_of (length xs) w)

  -- the places where nothing waits
  abbrev pub free_in : List T → Window → ℕ
  free_in xs w = length xs - length (list xs w)

  -- x is written behind those that wait: into one place, and every other place stays
  pub record Appends (xs : List T) (w : Window) (x : T) (ys : List T) (v : Window) : Type 0 where
    pub room : length (list xs w) < length xs
    pub list : list ys v ≡ list xs w ++ x ∷ []
    pub wrote : ys ≡ slice_set xs (slot (length xs) w) x
    pub next : slot (length xs) v ≡ after (length xs) (slot (length xs) w)
    pub free : free_in ys v ≡ free_in xs w - 1
    pub size : length ys ≡ length xs

  -- every place is taken, and every place stays
  pub record Refused (xs : List T) (w : Window) (ys : List T) : Type 0 where
    pub full : length (list xs w) ≡ length xs
    pub same : ys ≡ xs

  -- x is the oldest, and v is the window that holds the others
  pub record Heads (xs : List T) (w : Window) (x : T) (v : Window) : Type 0 where
    pub list : list xs w ≡ x ∷ list xs v
    pub next : slot (length xs) v ≡ slot (length xs) w
    pub free : free_in xs v ≡ free_in xs w + 1
