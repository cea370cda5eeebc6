-- What a write behind a queue and a read at its front do to the list that the window means. Assumes nothing.
use Rattle.std.proofs.Common.{◌≡◌, ℕ, suc, ◌+◌, ◌-◌, ◌<◌, ◌≤◌, List, [], ◌∷◌, ◌++◌, length, get_or, take, drop, set, sym, ap, ◌∙◌, append_assoc, arith, length-append, length-drop, length-set, length-take, drop-set-lt}
use Rattle.std.proofs.Math.Seq.{take-set-lt}
use Rattle.std.proofs.lemmas.List.{length_push, take_more_set, drop_more, take_more, set-append_left, set-append_right, take-append-le, drop-set-add, take-set-le}
use Rattle.std.proofs.lemmas.Bool.Decides.{nat_tests}
use Rattle.std.proofs.lemmas.Grind.{common_steps}
use Rattle.ring.specs.Slots.{turned, queue, place_of, after, start_of, count_of, list, slot, grown, shrunk, Enters, Leaves, Appends, Heads}
use Rattle.ring.specs.declared.window.Turn.{Turn}
use Rattle.ring.specs.declared.window.Window.{Window}

-- a window that lies within the row means what it says
start_kept : (size h n : ℕ) → h < size → start_of size (record { head = h; count = n }) ≡ h
start_kept size h n lt = grind (arith, nat_tests)

count_kept : (size h n : ℕ) → n ≤ size → count_of size (record { head = h; count = n }) ≡ n
count_kept size h n le = omega arith

start_within : (size : ℕ) (w : Window) → 0 < size → start_of size w < size
start_within size w some = grind (arith, nat_tests)

after_within : (size h : ℕ) → h < size → after size h < size
after_within size h lt = grind (arith, nat_tests)

-- the place one further is the place after
further_on : (size h n : ℕ) → h < size → n < size → place_of size h (n + 1) ≡ after size (place_of size h n)
further_on size h n lt few = grind (arith, nat_tests)

-- counted from the place after, one less leads to the same place
from_after : (size h n : ℕ) → h < size → 0 < n → n ≤ size → place_of size (after size h) (n - 1) ≡ place_of size h n
from_after size h n lt some few = grind (arith, nat_tests)

-- where the next one is written, after a write and after a read
slot_grown : (size : ℕ) (w : Window) → count_of size w < size → slot size (grown size w) ≡ after size (slot size w)
slot_grown size w room =
    let h = start_of size w in
    let n = count_of size w in
    let inside = start_within size w (omega arith) in
    (λ i. place_of size (start_kept size h (n + 1) inside i) (count_kept size h (n + 1) (omega arith) i)) ∙ further_on size h n inside room

slot_shrunk : (size : ℕ) (w : Window) → 0 < count_of size w → slot size (shrunk size w) ≡ slot size w
slot_shrunk size w some =
    let h = start_of size w in
    let n = count_of size w in
    let inside = start_within size w (omega arith) in
    (λ i. place_of size (start_kept size (after size h) (n - 1) (after_within size h inside) i) (count_kept size (after size h) (n - 1) (omega arith) i)) ∙ from_after size h n inside some (omega arith)

module _ {T : Type 0} where
  length_turned : (xs : List T) (h : ℕ) → length (turned xs h) ≡ length xs
  length_turned xs h = simp (length-append, length-drop, length-take) (omega arith)

  -- a write past `head`, and one before it, is a write at `n` of the turned list
  set_after : (xs : List T) (h n : ℕ) (x : T) → h + n < length xs → turned (set xs (h + n) x) h ≡ set (turned xs h) n x
  set_after xs h n x lt = grind (arith, common_steps, drop-set-add h xs n x, take-set-le h xs (h + n) x, set-append_left (drop h xs) (take h xs) n x)

  set_before : (xs : List T) (h n : ℕ) (x : T) → h ≤ length xs → length xs - h ≤ n → n < length xs → turned (set xs (n - (length xs - h)) x) h ≡ set (turned xs h) n x
  set_before xs h n x le past lt =
      let i = n - (length xs - h) in
      grind (arith, common_steps, drop-set-lt h xs i x, take-set-lt h xs i x, set-append_right (drop h xs) (take h xs) (length xs - h) n x (length-drop h xs) past)

  pushed : (xs : List T) (h n : ℕ) (x : T) → h < length xs → n < length xs → queue (set xs (place_of (length xs) h n) x) h (n + 1) ≡ queue xs h n ++ x ∷ []
  pushed xs h n x lt few =
      let written : turned (set xs (place_of (length xs) h n) x) h ≡ set (turned xs h) n x = grind (arith, nat_tests, set_after xs h n x, set_before xs h n x) in
      ap (take (n + 1)) written ∙ take_more_set (turned xs h) n x (omega (arith, length_turned xs h))

  -- the oldest, and then what is left
  rest_of : (xs : List T) (h n : ℕ) (x : T) → h < length xs → x ≡ get_or xs h x → 0 < n → queue xs h n ≡ x ∷ take (n - 1) (drop (h + 1) xs ++ take h xs)
  rest_of xs h n x lt is some =
      let back : n ≡ suc (n - 1) = omega arith in
      let first : drop h xs ≡ x ∷ drop (h + 1) xs = drop_more xs h x lt ∙ ap (λ y. y ∷ drop (h + 1) xs) (sym is) in
      ap (λ k. take k (turned xs h)) back ∙ ap (λ l. take (suc (n - 1)) (l ++ take h xs)) first

  -- to turn one place further puts the oldest last, where fewer than all do not reach it
  further : (xs : List T) (h m : ℕ) (x : T) → h < length xs → m < length xs → take m (drop (h + 1) xs ++ take h xs) ≡ queue xs (h + 1) m
  further xs h m x lt few =
      let last = take_more xs h x lt in
      grind (arith, common_steps, append_assoc, take-append-le m (drop (h + 1) xs ++ take h xs) (get_or xs h x ∷ []))

  -- to turn by the whole row is not to turn
  whole : (xs : List T) (h : ℕ) → length xs ≤ h → turned xs h ≡ turned xs 0
  whole xs h past = grind (arith, common_steps)

  popped : (xs : List T) (h n : ℕ) (x : T) → h < length xs → x ≡ get_or xs h x → 0 < n → n ≤ length xs → queue xs h n ≡ x ∷ queue xs (after (length xs) h) (n - 1)
  popped xs h n x lt is some few =
      let rest = rest_of xs h n x lt is some in
      let on = further xs h (n - 1) x lt (omega arith) in
      grind (arith, common_steps, nat_tests, whole xs (h + 1))

  pub length_list : (xs : List T) (w : Window) → length (list xs w) ≡ count_of (length xs) w
  length_list xs w =
      simp (length-take, length-append, length-drop) (omega arith)

  plain : (xs : List T) (h n : ℕ) → h < length xs → n ≤ length xs → list xs (record { head = h; count = n }) ≡ queue xs h n
  plain xs h n lt le = (λ i. queue xs (start_kept (length xs) h n lt i) (count_kept (length xs) h n le i))

  appended : (xs : List T) (w : Window) (x : T) → count_of (length xs) w < length xs → list (set xs (slot (length xs) w) x) (grown (length xs) w) ≡ list xs w ++ x ∷ []
  appended xs w x room =
      let h = start_of (length xs) w in
      let n = count_of (length xs) w in
      let at = slot (length xs) w in
      let size = length-set xs at x in
      let inside = start_within (length xs) w (omega arith) in
      plain (set xs at x) h (n + 1) (omega arith) (omega arith) ∙ pushed xs h n x inside room

  removed : (xs : List T) (w : Window) (x : T) → 0 < count_of (length xs) w → x ≡ get_or xs (start_of (length xs) w) x → list xs w ≡ x ∷ list xs (shrunk (length xs) w)
  removed xs w x some is =
      let h = start_of (length xs) w in
      let n = count_of (length xs) w in
      let inside = start_within (length xs) w (omega arith) in
      popped xs h n x inside is some (omega arith) ∙ ap (λ l. x ∷ l) (sym (plain xs (after (length xs) h) (n - 1) (after_within (length xs) h inside) (omega arith)))

  -- a write into the place that the window gives next appends to the list
  pub appends : (xs : List T) (w : Window) (x : T) (t : Turn) → Enters (length xs) w t → Appends xs w x (set xs t.place x) t.window
  appends xs w x t e =
      let size = length xs in
      let wrote = ap (λ i. set xs i x) e.at in
      let more = (λ i. list (wrote i) (e.grows i)) ∙ appended xs w x e.room in
      let long = ap length more ∙ length_push (list xs w) x in
      let same = length-set xs t.place x in
      record {
        room = omega (arith, length_list xs w, e.room);
        list = more;
        wrote = wrote;
        next = ap (slot size) e.grows ∙ slot_grown size w e.room;
        free = omega (arith, long, same);
        size = same;
      }

  -- what stands in the window's first place is the oldest
  pub heads : (xs : List T) (w : Window) (x : T) (t : Turn) → Leaves (length xs) w t → x ≡ get_or xs t.place x → Heads xs w x t.window
  heads xs w x t e is =
      let size = length xs in
      let rest = removed xs w x e.some (is ∙ ap (λ i. get_or xs i x) e.at) ∙ ap (λ v. x ∷ list xs v) (sym e.shrinks) in
      record {
        list = rest;
        next = ap (slot size) e.shrinks ∙ slot_shrunk size w e.some;
        free = omega (arith, ap length rest, length_list xs w);
      }
