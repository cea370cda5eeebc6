-- How the reports of a reserve come, go and move down. Assumes nothing.
use Rattle.std.proofs.Common.{◌≡◌, ℕ, ◌+◌, ◌-◌, ◌<◌, ◌≤◌, true, false, List, [], ◌∷◌, ◌++◌, length, get_or, take, drop, Ok, sym, ap, ◌∙◌, subst, ⊎_elim, append_assoc, append-nil, arith, length-drop}
use Rattle.std.proofs.ByRecursion.{All-push, All-drop}
use Rattle.std.proofs.lemmas.List.{drop_more, take_more, nil_from_length, length_push}
use Rattle.std.proofs.lemmas.Bool.{cond-false, cases_eq, lt-ltb, le-ltb}
use Rattle.std.proofs.lemmas.Bool.Decides.{nat_tests}
use Rattle.std.proofs.lemmas.Grind.{common_steps}
use Rattle.report.specs.declared.report.Report.{Report}
use Rattle.report.specs.Lawful.{lawful}
use Rattle.link.specs.Links.{with_one_more, Takes}
use Rattle.reserve.specs.Lies.{reserve_places, Lies, places_left, stacked, goes_down, moved, moving, AllLawful, Moves, Rests, Settles, Drawn, Draws, Sound, Placed, TakenOut}

abbrev MayBeSent : Report → Type 0
MayBeSent r = lawful r ≡ true

when_held : (s : Lies) → goes_down s ≡ false → length s.held ≡ 0 → s.below.free ≡ 0
when_held s e none = grind (arith, nat_tests)

some_left : (n f : ℕ) → n < reserve_places → 0 < places_left n f
some_left n f lt = grind arith

less_held : (n m f : ℕ) → n < reserve_places → m ≡ n + 1 → (n ≡ 0 → f ≡ 0) → places_left m f ≡ places_left n f - 1
less_held n m f lt e none = grind arith

pub placed_held : (s t : Lies) (r : Report) → lawful r ≡ true → goes_down s ≡ false → length s.held < reserve_places → t.below ≡ s.below → t.held ≡ s.held ++ r ∷ [] → Placed s r t
placed_held s t r law here room same more =
    let h = s.held in
    let w = s.below.waiting in
    let f = s.below.free in
    let after : Lies = record { below = s.below; held = h ++ r ∷ [] } in
    let to : t ≡ after = (λ i. record { below = same i; held = more i }) in
    let fewer = less_held (length h) (length (h ++ r ∷ [])) f room (length_push h r) (when_held s here) in
    let view : stacked after ≡ with_one_more (stacked s) r = (λ i. record { waiting = sym (append_assoc w h (r ∷ [])) i; free = fewer i; capacity = s.below.capacity + reserve_places }) in
    let full : Sound s → s.below.free ≡ 0 = λ k. ⊎_elim (when_held s here) (λ ne. k.settled (omega arith)) (cases_eq (length h) 0) in
    record {
      sends = (law, some_left (length h) f room, ap stacked to ∙ view);
      lies = to ∙ sym (cond-false (goes_down s) (record { below = with_one_more s.below r; held = h }) after here);
      sound = λ k. record { lawful = subst AllLawful (sym more) (All-push MayBeSent h r k.lawful law); settled = λ some. ap (λ v. v.free) same ∙ full k };
    }

-- the first n and the next
next_of : (h k : List Report) (n : ℕ) (r : Report) → drop n h ≡ r ∷ k → (n < length h) × (take (n + 1) h ≡ take n h ++ r ∷ []) × (drop (n + 1) h ≡ k)
next_of h k n r e =
    let lt : n < length h = omega (arith, ap length e, length-drop n h) in
    let both = drop_more h n r lt in
    let is : get_or h n r ≡ r = cc in
    (lt, take_more h n r lt ∙ ap (λ x. take n h ++ x ∷ []) is, cc)

-- where none goes down, all is as it was
pub moved_none : (s : Lies) → s ≡ moved 0 s
moved_none s =
    let free : s.below.free ≡ s.below.free - 0 = omega arith in
    (λ i. record { below = record { waiting = sym (append-nil s.below.waiting) i; free = free i; capacity = s.below.capacity }; held = s.held })

-- one more goes down
pub moved_more : (s t u : Lies) (n : ℕ) → t ≡ moved n s → Moves t u → (n < length s.held) × (n < s.below.free) × (u ≡ moved (n + 1) s)
moved_more s t u n is m =
    let w = s.below.waiting in
    let h = s.held in
    let next = next_of h u.held n m.oldest (sym (ap (λ l. l.held) is) ∙ m.out) in
    let free = ap (λ l. l.below.free) is in
    let list = ap (λ l. l.below.waiting ++ m.oldest ∷ []) is ∙ append_assoc w (take n h) (m.oldest ∷ []) ∙ ap (λ l. w ++ l) (sym next.1) in
    let less : t.below.free - 1 ≡ s.below.free - (n + 1) = omega arith in
    let size = ap (λ l. l.below.capacity) is in (
      next.0,
      omega (arith, m.room),
      (λ i. record { below = m.down i; held = u.held }) ∙ (λ i. record { below = record { waiting = list i; free = less i; capacity = size i }; held = sym next.2 i }),
    )

-- where no more goes down, all that may have gone
pub settled_there : (s t u : Lies) (n : ℕ) → n ≤ length s.held → n ≤ s.below.free → t ≡ moved n s → Rests t u → Settles s u
settled_there s t u n few room is e =
    let h = s.held in
    let gone = ap (λ l. l.held) is in
    let free = ap (λ l. l.below.free) is in
    record {
      count = n;
      few = few;
      room = room;
      is = e.same ∙ is;
      whole = λ law. ⊎_elim
          (λ none. omega (arith, ap length gone, ap length none, length-drop n h))
          (λ none. omega (arith, free, none))
          (e.done (subst AllLawful (sym gone) (All-drop MayBeSent n h law)));
    }

more_below : (n f g : ℕ) → f ≤ g → places_left n f ≤ places_left n g
more_below n f g le = grind arith

fewer_held : (n m f g : ℕ) → m < n → places_left n f ≤ places_left m g
fewer_held n m f g lt = grind arith

-- to move reports down keeps the list, and loses no place
settled_list : (s : Lies) (n : ℕ) → (stacked (moved n s)).waiting ≡ (stacked s).waiting
settled_list s n = grind (arith, common_steps)

settled_free : (s : Lies) (n : ℕ) → n ≤ length s.held → n ≤ s.below.free → (stacked s).free ≤ (stacked (moved n s)).free
settled_free s n few room = grind (arith, common_steps)

settled_sound : (s : Lies) → AllLawful s.held → Sound (moved (moving s) s)
settled_sound s law = grind (arith, common_steps)

-- the oldest is out, and then held reports moved down
taken_out : (s m t : Lies) (r : Report) → Draws s r m → Takes (stacked s) (Ok r) (stacked m) → (AllLawful s.held → AllLawful m.held) → Settles m t → TakenOut s r t
taken_out s m t r out takes law e =
    let n = e.count in
    let to : Sound s → t ≡ moved (moving m) m = λ k. e.is ∙ ap (λ i. moved i m) (e.whole (law k.lawful)) in
    let free = settled_free m n e.few e.room in
    let same = ap (λ l. (stacked l).free) e.is in
    record {
      takes = (takes.0 ∙ ap (λ l. r ∷ l) (sym (ap (λ l. (stacked l).waiting) e.is ∙ settled_list m n)), omega (arith, takes.1, free, same), ap (λ l. (stacked l).capacity) e.is ∙ takes.2);
      lies = λ k. record { between = m; out = out; down = to k };
      sound = λ k. subst Sound (sym (to k)) (settled_sound m (law k.lawful));
    }

pub taken_below : (s m t : Lies) (r : Report) → 0 < length s.below.waiting → Takes s.below (Ok r) m.below → m.held ≡ s.held → Settles m t → TakenOut s r t
taken_below s m t r some out same e =
    let draws : Draws s r m = subst (λ b. Drawn b s r m) (sym (lt-ltb 0 (length s.below.waiting) some)) (out, same) in
    let free = more_below (length s.held) s.below.free m.below.free out.1 in
    taken_out s m t r draws (
      (λ i. out.0 i ++ sym same i),
      omega (arith, free, ap (λ l. places_left (length l) m.below.free) same),
      ap (λ c. c + reserve_places) out.2,
    )
    (λ law. subst AllLawful (sym same) law) e

pub taken_held : (s m t : Lies) (r : Report) (rest : List Report) → length s.below.waiting ≡ 0 → m.below ≡ s.below → s.held ≡ r ∷ rest → m.held ≡ rest → Settles m t → TakenOut s r t
taken_held s m t r rest empty same first left e =
    let out = first ∙ ap (λ l. r ∷ l) (sym left) in
    let none = nil_from_length s.below.waiting empty in
    let draws : Draws s r m = subst (λ b. Drawn b s r m) (sym (le-ltb 0 (length s.below.waiting) (omega arith))) (same, out) in
    let gone : m.below.waiting ≡ [] = ap (λ v. v.waiting) same ∙ none in
    taken_out s m t r draws (
      ap (λ l. l ++ s.held) none ∙ out ∙ ap (λ l. r ∷ (l ++ m.held)) (sym gone),
      fewer_held (length s.held) (length m.held) s.below.free m.below.free (omega (arith, ap length out)),
      ap (λ v. v.capacity + reserve_places) same,
    )
    (λ law. (subst AllLawful out law).1) e
