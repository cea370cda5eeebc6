-- What a write behind those that wait and a read of the oldest do to a ring of frames. Assumes nothing.
use Rattle.std.proofs.Common.{◌≡◌, ℕ, ◌+◌, ◌-◌, ◌/◌, Bool, cond, List, [], ◌∷◌, ◌++◌, length, Ok, Err, Result, sym, refl, ap, ◌∙◌, subst, arith, MatchResult}
use Rattle.std.proofs.lemmas.List.{length_push, nil_from_length}
use Rattle.report.specs.Lawful.{lawful}
use Rattle.report.specs.declared.refusal.Refusal.{Refusal}
use Rattle.report.specs.declared.refusal.Refusal.TheVariants.{OutOfRange, NoFreePlace}
use Rattle.report.specs.declared.report.Report.{Report}
use Rattle.ring.specs.Slots.{count_of, after, slot, list, Enters, Leaves}
use Rattle.ring.specs.declared.window.Turn.{Turn}
use Rattle.ring.specs.declared.window.Window.{Window}
use Rattle.ring.proofs.Turns.{length_list, appends, heads}
use Rattle.link.specs.Links.{Sends, MakesUp}
use Rattle.frame_ring.specs.Places.{places_in, place_at, places, Filled}
use Rattle.frame_ring.specs.Frames.{waiting, bytes_view, Appended, NotAppended, NotSent, First}
use Rattle.frame_ring.specs.Ring.{memory, frame_view, frame_whole, next_slot, Sent}
use Rattle.frame_ring.specs.declared.queue.FrameRing.{FrameRing}
use Rattle.frame_ring.proofs.Written.{length_places, get_or-places}

-- as many wait as the window says
pub length_waiting : (b : List ℕ) (w : Window) → length (waiting b w) ≡ count_of (places_in b) w
length_waiting b w = length_list (places b) w ∙ ap (λ n. count_of n w) (length_places b)

-- free places and waiting reports make up the capacity
pub makes_up : (b : List ℕ) (w : Window) → MakesUp (bytes_view b w)
makes_up b w = omega (arith, length_waiting b w)

-- a frame that was written into the place that the window gives next waits behind the others
pub is_appended : (b b' : List ℕ) (w : Window) (r : Report) (t : Turn) (size : ℕ) → size ≡ places_in b → Enters size w t → Filled b t.place r b' → Appended b w r b' t.window
is_appended b b' w r t size is enters f =
    let xs = places b in
    let n = length_places b in
    let e = subst (λ k. Enters k w t) is enters in
    let a = appends xs w r t (subst (λ k. Enters k w t) (sym n) e) in
    let more : waiting b' t.window ≡ waiting b w ++ r ∷ [] = ap (λ l. list l t.window) f.places ∙ a.list in
    let same : places_in b' ≡ places_in b = ap (λ k. k / 24) f.size in
    let longer = ap length more ∙ length_push (waiting b w) r in
    let fewer : places_in b' - length (waiting b' t.window) ≡ places_in b - length (waiting b w) - 1 = omega arith in
    record {
      sends = (f.admitted, omega (arith, a.room), λ i. record { waiting = more i; free = fewer i; capacity = same i });
      wrote = record {
        filled = subst (λ k. Filled b k r b') e.at f;
        next = ap (λ k. slot k t.window) (same ∙ sym n) ∙ a.next ∙ ap (λ k. after k (slot k w)) n;
      };
      sum = makes_up b' t.window;
    }

-- why a report is refused while no place is free
why_full : (ok : Bool) (free : ℕ) (e : Refusal) → free ≡ 0 → e ≡ cond ok NoFreePlace OutOfRange → cond ok ((free ≡ 0) × (e ≡ NoFreePlace)) (e ≡ OutOfRange)
why_full ok free e none is = grind arith

pub is_full : (b : List ℕ) (w : Window) (r : Report) (e : Refusal) (size : ℕ) → size ≡ places_in b → count_of size w ≡ size → e ≡ cond (lawful r) NoFreePlace OutOfRange → NotAppended b w r e b
is_full b w r e size is full why =
    let none : places_in b - length (waiting b w) ≡ 0 = omega (arith, length_waiting b w, ap (λ k. count_of k w) is) in
    record { sends = (why_full (lawful r) _ e none why, refl); same = refl; sum = makes_up b w }

-- the report in the window's first place is the oldest
pub is_first : (b : List ℕ) (w : Window) (r : Report) (t : Turn) (size : ℕ) → size ≡ places_in b → Leaves size w t → r ≡ place_at b t.place → First b w r t.window
is_first b w r t size is leaves reads =
    let xs = places b in
    let n = length_places b in
    let e = subst (λ k. Leaves k w t) is leaves in
    let h = heads xs w r t (subst (λ k. Leaves k w t) (sym n) e) (reads ∙ sym (get_or-places b t.place r e.inside)) in
    let one : (bytes_view b t.window).free ≡ (bytes_view b w).free + 1 = omega (arith, h.free, n) in
    record {
      takes = (h.list, omega arith, refl);
      freed = record { free = one; next = ap (λ k. slot k t.window) (sym n) ∙ h.next ∙ ap (λ k. slot k w) n };
      sum = makes_up b t.window;
    }

-- nothing waits in a window without places
pub none_waits : (b : List ℕ) (w : Window) (size : ℕ) → size ≡ places_in b → count_of size w ≡ 0 → waiting b w ≡ []
none_waits b w size is none = nil_from_length (waiting b w) (length_waiting b w ∙ ap (λ k. count_of k w) (sym is) ∙ none)

-- what one send through a ring in which nothing waited leaves in the bytes that were lent to it
pub sent-once :
    (f g : FrameRing) (b b' : List ℕ) (r : Report) (a : Result (Unit {0}) Refusal) → memory f ≡ b → next_slot f ≡ 0 → (frame_view f).waiting ≡ [] → b' ≡ memory g → Sends (frame_view f) r a (frame_view g) →
    MatchResult a (λ _. Sent f r g) (λ _. g ≡ f) → MatchResult a (λ _. Filled b 0 r b') (λ e. NotSent b r e b')
sent-once f g b b' r (Ok _) lent next none back sends wrote =
    subst (λ l. Filled b 0 r l) (sym back) (subst (λ l. Filled l 0 r (memory g)) lent (subst (λ i. Filled (memory f) i r (memory g)) next wrote.filled))
sent-once f g b b' r (Err e) lent next none back sends same =
    let all = frame_whole f none ∙ ap places_in lent in
    record { why = subst (λ k. cond (lawful r) ((k ≡ 0) × (e ≡ NoFreePlace)) (e ≡ OutOfRange)) all sends.0; same = back ∙ ap memory same ∙ lent }
