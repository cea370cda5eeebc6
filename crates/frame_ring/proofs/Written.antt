-- What a write into one place does to the bytes, and to the reports that their places mean. Assumes nothing.
use Rattle.std.proofs.Common.{⊎_elim, ◌≡◌, ℕ, ◌+◌, ◌-◌, ◌*◌, ◌/◌, ◌<◌, List, ◌++◌, length, get_or, take, drop, set, sym, ap, ◌∙◌, arith, take-append-drop}
use borrow.Rule.Slice.PartMut.{put_mid}
use Rattle.std.proofs.lemmas.List.FromFn.{length-map-range_with_len, get_or-map-range_with_len}
use Rattle.std.proofs.lemmas.List.{same_lists, get_or-set_same, get_or-set_other, length-set, length-append, length-take, length-drop, drop-drop}
use Rattle.std.proofs.lemmas.Slice.{between_is, take-put_mid_below, drop-put_mid, between-put_mid}
use Rattle.std.proofs.lemmas.Bool.{cases_eq}
use Rattle.std.proofs.lemmas.Bool.Decides.{nat_tests}
use Rattle.std.proofs.lemmas.Grind.{common_steps}
use Rattle.report.specs.declared.refusal.Refusal.{Refusal}
use Rattle.report.specs.declared.report.Report.{Report}
use Rattle.frame.specs.Frame.{frame, decode, FrameWritten, FrameUnwritten}
use Rattle.frame.proofs.Back.{not_back}
use Rattle.frame_ring.specs.Places.{places_in, place_at, places, Filled, NotFilled}

-- there is a report for each whole place
pub length_places : (b : List ℕ) → length (places b) ≡ places_in b
unfolding places
length_places b = length-map-range_with_len (place_at b) 0 (places_in b)

-- and it is what the place means
pub get_or-places : (b : List ℕ) (i : ℕ) (d : Report) → i < places_in b → get_or (places b) i d ≡ place_at b i
unfolding places
get_or-places b i d lt = get_or-map-range_with_len (place_at b) 0 (places_in b) i i d lt (omega arith)

-- the 24 bytes of place i
abbrev place : List ℕ → ℕ → List ℕ
place b i = take 24 (drop (24 * i) b)

-- the bytes with a part put into place i
abbrev put : List ℕ → ℕ → List ℕ → List ℕ
put b i part = put_mid (24 * i) 24 b part

-- a place ends where the next begins
up_to : (b : List ℕ) (i : ℕ) → place b i ≡ drop (24 * i) (take (24 * i + 24) b)
up_to b i = grind (arith, common_steps, between_is b (24 * i) (24 * i + 24))

-- a whole place has 24 bytes
length_place : (b : List ℕ) (i : ℕ) → i < places_in b → length (place b i) ≡ 24
length_place b i lt = simp (length-take, length-drop) (omega arith)

module _ (b part : List ℕ) (i : ℕ) (lt : i < places_in b) (long : length part ≡ 24) where
  length_put : length (put b i part) ≡ length b
  length_put = simp (length-append, length-take, length-drop) (omega arith)

  -- the place holds the part
  here : place (put b i part) i ≡ part
  here = grind (arith, common_steps, between-put_mid (24 * i) 24 b part (24 * i + 24))

  -- the places before it and after it stay, and so do the bytes past the last whole place
  earlier : (j : ℕ) → j < i → place (put b i part) j ≡ place b j
  earlier j less = up_to (put b i part) j ∙ ap (drop (24 * j)) (take-put_mid_below (24 * i) 24 b part (24 * j + 24) (omega arith) (omega arith)) ∙ sym (up_to b j)

  onward : (j : ℕ) → i < j → drop (24 * j) (put b i part) ≡ drop (24 * j) b
  onward j more = drop-put_mid (24 * i) 24 b part (24 * j) (omega arith) (omega arith) long

  other : (j : ℕ) → (j ≡ i → ⊥) → place (put b i part) j ≡ place b j
  other j ne = grind (arith, common_steps, earlier j, onward j)

  places_put : (r : Report) → decode part ≡ r → places (put b i part) ≡ set (places b) i r
  places_put r means =
      let c = put b i part in
      let kept = length_put in
      let size = length_places b in
      let size' = length_places c in
      let sized = length-set (places b) i r in
      same_lists (places c) (set (places b) i r) (omega arith)
      (λ j d h. ⊎_elim
      (λ is. grind (arith, common_steps, is, here, means, get_or-places c j d, get_or-set_same (places b) i r d))
      (λ ne. get_or-places c j d (omega arith) ∙ ap decode (other j ne) ∙ sym (get_or-places b j d (omega arith)) ∙ sym (get_or-set_other (places b) i j r d ne))
      (cases_eq j i))

-- the part of the bytes from 24 * i to 24 * i + 24 is a place
pub is_place : (b : List ℕ) (i : ℕ) → take (24 * i + 24 - 24 * i) (drop (24 * i) b) ≡ place b i
is_place b i = grind (arith, common_steps)

-- a write to that part is a write into the place
is_put : (b part : List ℕ) (i : ℕ) → put_mid (24 * i) (24 * i + 24 - 24 * i) b part ≡ put b i part
is_put b part i = grind (arith, common_steps)

-- the frame fills the place
fills : (b part fr : List ℕ) (i : ℕ) → part ≡ fr ++ drop 24 (place b i) → part ≡ fr
fills b part fr i e = grind (arith, common_steps)

-- what the writer leaves in that part fills the place
pub is_filled : (b part : List ℕ) (i : ℕ) (r : Report) → i < places_in b → FrameWritten r (take (24 * i + 24 - 24 * i) (drop (24 * i) b)) part → Filled b i r (put_mid (24 * i) (24 * i + 24 - 24 * i) b part)
is_filled b part i r lt w =
    let e = fills b part (frame r) i (w.bytes ∙ ap (λ l. frame r ++ drop 24 l) (is_place b i)) in
    let long : length part ≡ 24 = ap length e in
    let after = is_put b part i in
    let size = ap length after ∙ length_put b part i lt long in
    record {
      admitted = grind (arith, nat_tests, w.writable);
      inside = lt;
      bytes = after ∙ (λ k. take (24 * i) b ++ (e k ++ drop-drop 24 (24 * i) b k));
      size = size;
      past = (λ k. drop (24 * (size k / 24)) (after k)) ∙ onward b part i lt long (length b / 24) lt;
      places = ap places after ∙ places_put b part i lt long r w.means;
    }

-- and where it refuses the report, every byte stays
pub is_not_filled : (b part : List ℕ) (i : ℕ) (r : Report) (e : Refusal) → i < places_in b → FrameUnwritten e r (take (24 * i + 24 - 24 * i) (drop (24 * i) b)) part → NotFilled b e r (put_mid (24 * i) (24 * i + 24 - 24 * i) b part)
is_not_filled b part i r e lt w =
    let k = 24 * i + 24 - 24 * i in
    let p = not_back r _ e (omega (arith, ap length (is_place b i), length_place b i lt)) w.why in
    record {
      unlawful = p.unlawful;
      refused = p.refused;
      same = ap (λ l. take (24 * i) b ++ (l ++ drop k (drop (24 * i) b))) w.same ∙ ap (λ l. take (24 * i) b ++ l) (take-append-drop k (drop (24 * i) b)) ∙ take-append-drop (24 * i) b;
    }
