-- Firings at one tick come to an end, and a connection whose wait is over with them. Assumes nothing.
use Rattle.std.proofs.Common.{◌≡◌, ℕ, zero, suc, ◌+◌, ◌*◌, ◌<◌, ◌≤◌, max, Bool, true, false, cond, ltb, leb, ◌⊎◌, List, ◌∷◌, ◌++◌, is_some, Some, None, Option, sym, refl, ap, ◌∙◌, subst, inl, inr, arith}
use Rattle.std.proofs.lemmas.Bool.Decides.{nat_tests}
use Rattle.report.specs.declared.report.Address.{Address}
use Rattle.report.specs.declared.report.Report.{Report}
use Rattle.report.specs.declared.refusal.Refusal.{Refusal}
use Rattle.report.specs.declared.refusal.Refusal.TheVariants.{NoFreePlace}
use Rattle.report.specs.Limits.{last_tick, address_numbers}
use Rattle.report.specs.Lawful.{same}
use Rattle.account.specs.Rule.{bit_of, many_to, many, Slot}
use Rattle.rules.specs.declared.call.Call.{Call}
use Rattle.rules.specs.declared.call.Call.TheVariants.{Fire}
use Rattle.rules.specs.declared.call.Reply.{Reply}
use Rattle.rules.specs.declared.due.Timer.{Timer}
use Rattle.rules.specs.declared.due.Timer.TheVariants.{TariffSwitch, AdviceSwitch, Sound, PeriodEnd, ConfirmationLimit}
use Rattle.rules.specs.declared.due.Item.{Item}
use Rattle.rules.specs.declared.connection.Connection.{Connection}
use Rattle.rules.specs.Limits.{connections, timers, longest_wait}
use Rattle.rules.specs.ByAddress.{put}
use Rattle.rules.specs.Ranges.{clamped}
use Rattle.rules.specs.Dues.{due_of, earliest}
use Rattle.rules.specs.Occurrences.{fired}
use Rattle.rules.specs.Core.{Core, dues_in, dues_at}
use Rattle.rules.specs.Changes.{closed, releases, by_timer}
use Rattle.rules.specs.Rows.{firing_rows, rows, first}
use Rattle.rules.specs.Rules.{after}
use Rattle.rules.specs.Steps.{State, room, Does, Run, over, then, handed, taken}
use Rattle.law.specs.Journal.{Entry, Journal, noted_timer, on_newest, enter_occurrence, enter, feed_one, feed, empty, dues_of}
use Rattle.law.specs.Law.{admitted, fed, Awaits, HasEnded, firings, NoneLacked}
use Rattle.report.proofs.Addresses.{same_address, same_self}
use Rattle.invariants.proofs.Basics.{differ, none_some, and_left, and_right, leb_of, le_through, not_early, nil_cons, same_head, same_tail}
use Rattle.invariants.proofs.Earliest.{picked}
use Rattle.invariants.proofs.Clear.{Clear, clear}
use Rattle.law.specs.AboutRuns.{all_admitted, FiringsStop}
use Rattle.account.proofs.Many.{below_le, many_less, many_change}
use Rattle.law.proofs.Agreement.{Agrees}
use Rattle.law.proofs.Simulation.{Sim, at_tick, same_occurrence, step, from_start}
use Rattle.law.proofs.GiveUp.{there, ruled_so, not_admitted, until, goes_or_lacks}

-- whether something is due at or before t, and how many timers of a kind are
abbrev due : ℕ → Option ℕ → Bool
due t None = false
due t (Some d) = leb d t

abbrev due_there : ℕ → Timer → Option Connection → Bool
due_there t k o = due t (due_of (dues_in o) k)

abbrev due_now : ℕ → Core → Timer → ℕ
due_now t s k = many (λ a. due_there t k (s.at a))

abbrev all_due : ℕ → Core → ℕ
all_due t s = due_now t s TariffSwitch + due_now t s AdviceSwitch + due_now t s Sound + due_now t s PeriodEnd + due_now t s ConfirmationLimit

record Falls (t : ℕ) (o o' : Option Connection) (k : Timer) : Type 0 where
  no_more : (j : Timer) → bit_of (due_there t j o') ≤ bit_of (due_there t j o)
  spent : due_there t k o' ≡ false

le_self : (n : ℕ) → n ≤ n
le_self n = omega arith

zero_le : (n : ℕ) → 0 ≤ n
zero_le n = omega arith

ended_falls : (t : ℕ) (o : Option Connection) (k : Timer) → Falls t o None k
ended_falls t o k = record { no_more = each; spent = none k }
  where
    none : (k : Timer) → due_there t k None ≡ false
    none TariffSwitch = refl
    none AdviceSwitch = refl
    none Sound = refl
    none PeriodEnd = refl
    none ConfirmationLimit = refl

    each : (j : Timer) → bit_of (due_there t j None) ≤ bit_of (due_there t j o)
    each j = subst (λ b. bit_of b ≤ bit_of (due_there t j o)) (sym (none j)) (zero_le (bit_of (due_there t j o)))

not_due : (t w : ℕ) → 0 < w → leb (t + w) t ≡ false
not_due t w h = grind (arith, nat_tests)

falls : (w : ℕ) (k : Timer) (a : Address) (d t : ℕ) (o : Option Connection) → 0 < w → Falls t o (by_timer w k a d t o) k
falls w TariffSwitch a d t None h = ended_falls t None TariffSwitch
falls w TariffSwitch a d t (Some c) h = record { no_more = each; spent = refl }
  where
    each : (j : Timer) → bit_of (due_there t j (by_timer w TariffSwitch a d t (Some c))) ≤ bit_of (due_there t j (Some c))
    each TariffSwitch = zero_le (bit_of (due_there t TariffSwitch (Some c)))
    each AdviceSwitch = le_self (bit_of (due_there t AdviceSwitch (Some c)))
    each Sound = le_self (bit_of (due_there t Sound (Some c)))
    each PeriodEnd = le_self (bit_of (due_there t PeriodEnd (Some c)))
    each ConfirmationLimit = le_self (bit_of (due_there t ConfirmationLimit (Some c)))
falls w AdviceSwitch a d t None h = ended_falls t None AdviceSwitch
falls w AdviceSwitch a d t (Some c) h = record { no_more = each; spent = refl }
  where
    each : (j : Timer) → bit_of (due_there t j (by_timer w AdviceSwitch a d t (Some c))) ≤ bit_of (due_there t j (Some c))
    each TariffSwitch = le_self (bit_of (due_there t TariffSwitch (Some c)))
    each AdviceSwitch = zero_le (bit_of (due_there t AdviceSwitch (Some c)))
    each Sound = le_self (bit_of (due_there t Sound (Some c)))
    each PeriodEnd = le_self (bit_of (due_there t PeriodEnd (Some c)))
    each ConfirmationLimit = le_self (bit_of (due_there t ConfirmationLimit (Some c)))
falls w Sound a d t None h = ended_falls t None Sound
falls w Sound a d t (Some c) h = record { no_more = each; spent = refl }
  where
    each : (j : Timer) → bit_of (due_there t j (by_timer w Sound a d t (Some c))) ≤ bit_of (due_there t j (Some c))
    each TariffSwitch = le_self (bit_of (due_there t TariffSwitch (Some c)))
    each AdviceSwitch = le_self (bit_of (due_there t AdviceSwitch (Some c)))
    each Sound = zero_le (bit_of (due_there t Sound (Some c)))
    each PeriodEnd = le_self (bit_of (due_there t PeriodEnd (Some c)))
    each ConfirmationLimit = le_self (bit_of (due_there t ConfirmationLimit (Some c)))
falls w PeriodEnd a d t None h = ended_falls t None PeriodEnd
falls w PeriodEnd a d t (Some c) h = go (releases c.grant.period)
  where
    each : (j : Timer) → bit_of (due_there t j (Some (closed a d (t + w) c))) ≤ bit_of (due_there t j (Some c))
    each TariffSwitch = zero_le (bit_of (due_there t TariffSwitch (Some c)))
    each AdviceSwitch = zero_le (bit_of (due_there t AdviceSwitch (Some c)))
    each Sound = le_self (bit_of (due_there t Sound (Some c)))
    each PeriodEnd = zero_le (bit_of (due_there t PeriodEnd (Some c)))
    each ConfirmationLimit = subst (λ b. bit_of b ≤ bit_of (due_there t ConfirmationLimit (Some c))) (sym (not_due t w h)) (zero_le (bit_of (due_there t ConfirmationLimit (Some c))))

    go : (b : Bool) → Falls t (Some c) (cond b None (Some (closed a d (t + w) c))) PeriodEnd
    go true = ended_falls t (Some c) PeriodEnd
    go false = record { no_more = each; spent = refl }
falls w ConfirmationLimit a d t o h = ended_falls t o ConfirmationLimit

-- a firing leaves one fewer
less_there : (f bn g bo : ℕ) → f + bn ≡ g + bo → bn ≤ bo → g ≤ f
less_there f bn g bo e h = omega arith

one_less : (f bn g bo : ℕ) → f + bn ≡ g + bo → bn ≡ 0 → bo ≡ 1 → g + 1 ≤ f
one_less f bn g bo e p q = omega arith

is_due : (t d : ℕ) (o : Option ℕ) → o ≡ Some d → d ≤ t → bit_of (due t o) ≡ 1
is_due t d o e h = ap (λ x. bit_of (due t x)) e ∙ ap bit_of (now t d h)
  where
    now : (t d : ℕ) → d ≤ t → leb d t ≡ true
    now t d h = grind (arith, nat_tests)

by_fifth : (a b c d e a' b' c' d' e' : ℕ) → a' ≤ a → b' ≤ b → c' ≤ c → d' ≤ d → e' + 1 ≤ e → (a' + b' + c' + d' + e') + 1 ≤ a + b + c + d + e
by_fifth a b c d e a' b' c' d' e' p q r s t = omega arith

by_first : (a b c d e a' b' c' d' e' : ℕ) → a' + 1 ≤ a → b' ≤ b → c' ≤ c → d' ≤ d → e' ≤ e → (a' + b' + c' + d' + e') + 1 ≤ a + b + c + d + e
by_first a b c d e a' b' c' d' e' p q r s t = omega arith

by_second : (a b c d e a' b' c' d' e' : ℕ) → a' ≤ a → b' + 1 ≤ b → c' ≤ c → d' ≤ d → e' ≤ e → (a' + b' + c' + d' + e') + 1 ≤ a + b + c + d + e
by_second a b c d e a' b' c' d' e' p q r s t = omega arith

by_third : (a b c d e a' b' c' d' e' : ℕ) → a' ≤ a → b' ≤ b → c' + 1 ≤ c → d' ≤ d → e' ≤ e → (a' + b' + c' + d' + e') + 1 ≤ a + b + c + d + e
by_third a b c d e a' b' c' d' e' p q r s t = omega arith

by_fourth : (a b c d e a' b' c' d' e' : ℕ) → a' ≤ a → b' ≤ b → c' ≤ c → d' + 1 ≤ d → e' ≤ e → (a' + b' + c' + d' + e') + 1 ≤ a + b + c + d + e
by_fourth a b c d e a' b' c' d' e' p q r s t = omega arith

module _ (s : Core) (t : ℕ) (i : Item) (waits : 0 < s.wait) (q : earliest (dues_at s) t ≡ Some i) where
  abbrev here : Address
  here = i.address

  abbrev old_one : Option Connection
  old_one = s.at here

  abbrev new_one : Option Connection
  new_one = by_timer s.wait i.timer here i.tick t old_one

  abbrev next : Core
  next = after (fired t (Some i)) s

  drop : Falls t old_one new_one i.timer
  drop = falls s.wait i.timer here i.tick t old_one waits

  moves : (k : Timer) → due_now t s k + bit_of (due_there t k new_one) ≡ due_now t next k + bit_of (due_there t k old_one)
  moves k =
      let f : Address → Bool = λ a. due_there t k (s.at a) in
      let g : Address → Bool = λ a. due_there t k (put s.at here new_one a) in
      let change : many f + bit_of (g here) ≡ many g + bit_of (f here) = many_change f g here (picked (dues_at s) t i q).there (λ a n. other a n (same a here) refl) in
      let gb : bit_of (g here) ≡ bit_of (due_there t k new_one) = ap (λ z. bit_of (due_there t k (cond z new_one old_one))) (same_self here) in
      ap (λ n. many f + n) (sym gb) ∙ change
    where
      other : (a : Address) → (a ≡ here → ⊥) → (z : Bool) → same a here ≡ z → due_there t k (s.at a) ≡ due_there t k (cond z new_one (s.at a))
      other a n true e = absurd (n (same_address a here e))
      other a n false e = refl

  no_more : (k : Timer) → due_now t next k ≤ due_now t s k
  no_more k = less_there (due_now t s k) (bit_of (due_there t k new_one)) (due_now t next k) (bit_of (due_there t k old_one)) (moves k) (drop.no_more k)

  fewer : due_now t next i.timer + 1 ≤ due_now t s i.timer
  fewer = one_less (due_now t s i.timer) (bit_of (due_there t i.timer new_one)) (due_now t next i.timer) (bit_of (due_there t i.timer old_one)) (moves i.timer) (ap bit_of drop.spent) (is_due t i.tick (due_of (dues_at s here) i.timer) (picked (dues_at s) t i q).runs (picked (dues_at s) t i q).due)

  sum_fewer : (k : Timer) → due_now t next k + 1 ≤ due_now t s k → all_due t next + 1 ≤ all_due t s
  sum_fewer TariffSwitch h = by_first (due_now t s TariffSwitch) (due_now t s AdviceSwitch) (due_now t s Sound) (due_now t s PeriodEnd) (due_now t s ConfirmationLimit) (due_now t next TariffSwitch) (due_now t next AdviceSwitch) (due_now t next Sound) (due_now t next PeriodEnd) (due_now t next ConfirmationLimit) h (no_more AdviceSwitch) (no_more Sound) (no_more PeriodEnd) (no_more ConfirmationLimit)
  sum_fewer AdviceSwitch h = by_second (due_now t s TariffSwitch) (due_now t s AdviceSwitch) (due_now t s Sound) (due_now t s PeriodEnd) (due_now t s ConfirmationLimit) (due_now t next TariffSwitch) (due_now t next AdviceSwitch) (due_now t next Sound) (due_now t next PeriodEnd) (due_now t next ConfirmationLimit) (no_more TariffSwitch) h (no_more Sound) (no_more PeriodEnd) (no_more ConfirmationLimit)
  sum_fewer Sound h = by_third (due_now t s TariffSwitch) (due_now t s AdviceSwitch) (due_now t s Sound) (due_now t s PeriodEnd) (due_now t s ConfirmationLimit) (due_now t next TariffSwitch) (due_now t next AdviceSwitch) (due_now t next Sound) (due_now t next PeriodEnd) (due_now t next ConfirmationLimit) (no_more TariffSwitch) (no_more AdviceSwitch) h (no_more PeriodEnd) (no_more ConfirmationLimit)
  sum_fewer PeriodEnd h = by_fourth (due_now t s TariffSwitch) (due_now t s AdviceSwitch) (due_now t s Sound) (due_now t s PeriodEnd) (due_now t s ConfirmationLimit) (due_now t next TariffSwitch) (due_now t next AdviceSwitch) (due_now t next Sound) (due_now t next PeriodEnd) (due_now t next ConfirmationLimit) (no_more TariffSwitch) (no_more AdviceSwitch) (no_more Sound) h (no_more ConfirmationLimit)
  sum_fewer ConfirmationLimit h = by_fifth (due_now t s TariffSwitch) (due_now t s AdviceSwitch) (due_now t s Sound) (due_now t s PeriodEnd) (due_now t s ConfirmationLimit) (due_now t next TariffSwitch) (due_now t next AdviceSwitch) (due_now t next Sound) (due_now t next PeriodEnd) (due_now t next ConfirmationLimit) (no_more TariffSwitch) (no_more AdviceSwitch) (no_more Sound) (no_more PeriodEnd) h

  one_fewer : all_due t next + 1 ≤ all_due t s
  one_fewer = sum_fewer i.timer fewer

-- an admitted firing
fire_fewer : (s s' : State) (r : Reply) (t : ℕ) → 0 < s.core.wait → Does (Fire t) s r s' → first (rows (room s) (Fire t) s.core) ≡ None → all_due t s'.core + 1 ≤ all_due t s.core
fire_fewer s s' r t waits d q =
    let x = ruled_so (Fire t) s s' r d None q in
    let c = clear (rows (room s) (Fire t) s.core) q in
    subst (λ y. all_due t y + 1 ≤ all_due t s.core) (sym x.core) (by_item (earliest (dues_at s.core) t) refl c.1)
  where
    by_item : (o : Option Item) → earliest (dues_at s.core) t ≡ o → Clear (firing_rows (room s) s.core o) → all_due t (after (fired t o) s.core) + 1 ≤ all_due t s.core
    by_item None q c = absurd (differ (sym c.0))
    by_item (Some i) q c = one_fewer s.core t i waits q

-- so many firings
many_le : (f g : Address → Bool) → ((a : Address) → f a ≡ true → g a ≡ true) → many f ≤ many g
many_le f g h = both (many_to address_numbers 1 f) (many_to address_numbers 2 f) (many_to address_numbers 1 g) (many_to address_numbers 2 g) (below_le address_numbers 1 f g h) (below_le address_numbers 2 f g h)
  where
    both : (a b c d : ℕ) → a ≤ c → b ≤ d → a + b ≤ c + d
    both a b c d p q = omega arith

due_connected : (t : ℕ) (k : Timer) (o : Option Connection) → due_there t k o ≡ true → is_some o ≡ true
due_connected t TariffSwitch None e = e
due_connected t AdviceSwitch None e = e
due_connected t Sound None e = e
due_connected t PeriodEnd None e = e
due_connected t ConfirmationLimit None e = e
due_connected t k (Some c) e = refl

-- there are no more than there can be timers
most : (w : ℕ) (j : Journal) (sofar : List Report) (s : Core) (t : ℕ) → Sim w j sofar s → all_due t s ≤ connections * timers
most w j sofar s t old =
    eighty (due_now t s TariffSwitch) (due_now t s AdviceSwitch) (due_now t s Sound) (due_now t s PeriodEnd) (due_now t s ConfirmationLimit) (many (λ a. is_some (s.at a))) s.count (few TariffSwitch) (few AdviceSwitch) (few Sound) (few PeriodEnd) (few ConfirmationLimit) old.count_is old.count_most
  where
    few : (k : Timer) → due_now t s k ≤ many (λ a. is_some (s.at a))
    few k = many_le (λ a. due_there t k (s.at a)) (λ a. is_some (s.at a)) (λ a e. due_connected t k (s.at a) e)

    eighty : (a b c d e m k : ℕ) → a ≤ m → b ≤ m → c ≤ m → d ≤ m → e ≤ m → k ≡ m → k ≤ connections → a + b + c + d + e ≤ connections * timers
    eighty a b c d e m k p q r s t u v = omega arith

pub some_wait : (w : ℕ) → 0 < clamped w
some_wait w = go (ltb w 1) refl (ltb longest_wait w)
  where
    low : (w : ℕ) → ltb w 1 ≡ false → 0 < w
    low w e = grind (arith, nat_tests)

    go : (b : Bool) → ltb w 1 ≡ b → (c : Bool) → 0 < cond b 1 (cond c longest_wait w)
    go true e c = omega arith
    go false e true = omega arith
    go false e false = low w e

step_up : (n k l : ℕ) → n ≤ k → k + 1 ≤ l → suc n ≤ l
step_up n k l p q = omega arith

-- how many firings in a row are admitted
stops : {s s' : State} {cs : List Call} {rs : List Reply} (w : ℕ) (j : Journal) (given : List Report) (t n : ℕ) → 0 < w → Sim w j (given ++ s.view.waiting) s.core → cs ≡ firings n t → Run s cs rs s' → all_admitted rs ≡ true → n ≤ all_due t s.core
stops {s} w j given t zero waits old e over ok = zero_le (all_due t s.core)
stops w j given t (suc n) waits old e over ok = absurd (nil_cons e)
stops w j given t zero waits old e (then d more) ok = absurd (nil_cons (sym e))
stops w j given t (suc n) waits old e (then {s} {m} {s'} {c} {r} {cs} {rs} d more) ok =
    let fire : Does (Fire t) s r m = subst (λ y. Does y s r m) (same_head e) d in
    let now = step w j given s m old (Fire t) r fire in
    let ih = stops w (feed_one j (Fire t, admitted r)) (given ++ handed r) t n waits now (same_tail e) more (and_right (admitted r) (all_admitted rs) ok) in
    go fire ih (first (rows (room s) (Fire t) s.core)) refl
  where
    go : Does (Fire t) s r m → n ≤ all_due t m.core → (o : Option Refusal) → first (rows (room s) (Fire t) s.core) ≡ o → suc n ≤ all_due t s.core
    go fire ih (Some x) q = absurd (not_admitted (ruled_so (Fire t) s m r fire (Some x) q).reply (and_left (admitted r) (all_admitted rs) ok))
    go fire ih None q = step_up n (all_due t m.core) (all_due t s.core) ih (fire_fewer s m r t (subst (λ k. 0 < k) (sym old.core_wait) waits) fire q)

pub firings_stop : FiringsStop
firings_stop w calls replies v s s' t n rs none_waits run more ok =
    let sim = from_start w none_waits run in
    let few = stops (clamped w) (feed (empty w) (fed calls replies)) (taken replies) t n (some_wait w) sim refl more ok in
    le_through n (all_due t s.core) (connections * timers) few (most (clamped w) (feed (empty w) (fed calls replies)) (taken replies ++ s.view.waiting) s.core t sim)

-- a connection that has ended stays so while others fire
none_there : (w : ℕ) (o : Option Connection) (es : List Entry) (sl : Slot) (clock d : ℕ) (e : Entry) (older : List Entry) → Agrees w o es sl clock → es ≡ e ∷ older → e.ended ≡ Some d → is_some o ≡ false
none_there w None es sl clock d e older g is at_end = refl
none_there w (Some c) es sl clock d e older g is at_end = absurd (none_some (sym g.unended ∙ ap (λ (y : Entry). y.ended) (same_head (sym g.newest_is ∙ is)) ∙ at_end))

none_due_there : (t : ℕ) (k : Timer) (o : Option Connection) (d : ℕ) → is_some o ≡ false → due_of (dues_in o) k ≡ Some d → ⊥
none_due_there t TariffSwitch None d e h = none_some h
none_due_there t AdviceSwitch None d e h = none_some h
none_due_there t Sound None d e h = none_some h
none_due_there t PeriodEnd None d e h = none_some h
none_due_there t ConfirmationLimit None d e h = none_some h
none_due_there t k (Some c) d e h = differ (sym e)

module _ (w : ℕ) (j : Journal) (sofar : List Report) (s : State) (old : Sim w j sofar s.core) (a : Address) (d : ℕ) (older : List Entry) (x : HasEnded j a d older) where
  fired_elsewhere : (t : ℕ) (i : Item) → earliest (dues_at s.core) t ≡ Some i → (enter_occurrence (fired t (Some i)) j).entries a ≡ j.entries a
  fired_elsewhere t i q = go (same a i.address) refl
    where
      none_here : is_some (s.core.at a) ≡ false
      none_here = none_there w (s.core.at a) (j.entries a) (old.book a) s.core.clock d x.entry older (old.agree a) x.newest_is x.as_of

      go : (z : Bool) → same a i.address ≡ z → cond z (on_newest (noted_timer j.wait i.timer i.tick t) (j.entries i.address)) (j.entries a) ≡ j.entries a
      go true z = absurd (none_due_there t i.timer (s.core.at a) i.tick none_here (ap (λ y. due_of (dues_at s.core y) i.timer) (same_address a i.address z) ∙ (picked (dues_at s.core) t i q).runs))
      go false z = refl

  ended_still : (t : ℕ) (r : Reply) (s' : State) → Does (Fire t) s r s' → HasEnded (feed_one j (Fire t, admitted r)) a d older
  ended_still t r s' f = go (first (rows (room s) (Fire t) s.core)) refl
    where
      go : (o : Option Refusal) → first (rows (room s) (Fire t) s.core) ≡ o → HasEnded (feed_one j (Fire t, admitted r)) a d older
      go (Some n) q = subst (λ y. HasEnded (feed_one j (Fire t, admitted y)) a d older) (sym (ruled_so (Fire t) s s' r f (Some n) q).reply) x
      go None q =
          let c = clear (rows (room s) (Fire t) s.core) q in
          let same-one = same_occurrence w j sofar s.core old (Fire t) t (at_tick t j.clock s.core.clock old.clocks (not_early t s.core.clock c.0)) in
          let still : (enter (Fire t) j).entries a ≡ j.entries a = subst (λ o. (enter_occurrence o j).entries a ≡ j.entries a) same-one (by_item (earliest (dues_at s.core) t) refl) in
          subst (λ y. HasEnded (feed_one j (Fire t, admitted y)) a d older) (sym (ruled_so (Fire t) s s' r f None q).reply) (record { entry = x.entry; newest_is = still ∙ x.newest_is; as_of = x.as_of })
        where
          by_item : (o : Option Item) → earliest (dues_at s.core) t ≡ o → (enter_occurrence (fired t o) j).entries a ≡ j.entries a
          by_item None q = refl
          by_item (Some i) q = fired_elsewhere t i q

ended_stays : {s s' : State} {cs : List Call} {rs : List Reply} (w : ℕ) (j : Journal) (given : List Report) (t n : ℕ) (a : Address) (d : ℕ) (older : List Entry) → Sim w j (given ++ s.view.waiting) s.core → cs ≡ firings n t → Run s cs rs s' → HasEnded j a d older → HasEnded (feed j (fed cs rs)) a d older
ended_stays w j given t n a d older old e over x = x
ended_stays w j given t zero a d older old e (then f more) x = absurd (nil_cons (sym e))
ended_stays w j given t (suc n) a d older old e (then {s} {m} {s'} {c} {r} {cs} {rs} f more) x =
    let fire : Does (Fire t) s r m = subst (λ y. Does y s r m) (same_head e) f in
    let now = step w j given s m old (Fire t) r fire in
    let next = ended_stays w (feed_one j (Fire t, admitted r)) (given ++ handed r) t n a d older now (same_tail e) more (ended_still w j (given ++ s.view.waiting) s old a d older x t r m fire) in
    subst (λ y. HasEnded (feed (feed_one j (y, admitted r)) (fed cs rs)) a d older) (sym (same_head e)) next

-- while a report's wait is over, something is due
some_due : (w : ℕ) (j : Journal) (sofar : List Report) (s : Core) (t : ℕ) (a : Address) (f : ℕ) (older : List Entry) → Sim w j sofar s → Awaits j a f older → f + j.wait ≤ t → 1 ≤ all_due t s
some_due w j sofar s t a f older old aw over-now =
    let l = there w j sofar s old a f older aw in
    let on : f + w ≤ t = subst (λ n. f + n ≤ t) old.journal_wait over-now in
    let here : due_there t ConfirmationLimit (s.at a) ≡ true = ap (due t) l.limit_is ∙ leb_of (f + w) t on in
    let more : many (λ x. false) < due_now t s ConfirmationLimit = many_less (λ x. false) (λ x. due_there t ConfirmationLimit (s.at x)) a l.address_ok (λ x h. absurd (differ h)) refl here in
    at_fifth (due_now t s TariffSwitch) (due_now t s AdviceSwitch) (due_now t s Sound) (due_now t s PeriodEnd) (due_now t s ConfirmationLimit) (many (λ x. false)) more
  where
    at_fifth : (a b c d e m : ℕ) → m < e → 1 ≤ a + b + c + d + e
    at_fifth a b c d e m h = omega arith

clock_on : (j : Journal) (t u : ℕ) (o : Option Item) → j.clock ≤ t → u ≤ t → (enter_occurrence (fired u o) j).clock ≤ t
clock_on j t u None h k = h
clock_on j t u (Some i) h k = k

-- each firing leaves fewer items due, or ends the connection
module _ (w : ℕ) (j : Journal) (given : List Report) (s m : State) (t : ℕ) (r : Reply) (a : Address) (f : ℕ) (older : List Entry) (waits : 0 < w) (old : Sim w j (given ++ s.view.waiting) s.core) (aw : Awaits j a f older) (over-now : f + j.wait ≤ t) (on : j.clock ≤ t) (fire : Does (Fire t) s r m) (q : first (rows (room s) (Fire t) s.core) ≡ None) where
  abbrev fed_on : Journal
  fed_on = feed_one j (Fire t, admitted r)

  was_admitted : admitted r ≡ true
  was_admitted = ap admitted (ruled_so (Fire t) s m r fire None q).reply

  entered : fed_on ≡ enter (Fire t) j
  entered = ap (λ b. feed_one j (Fire t, b)) was_admitted

  now : Sim w fed_on ((given ++ handed r) ++ m.view.waiting) m.core
  now = step w j given s m old (Fire t) r fire

  same_wait : fed_on.wait ≡ j.wait
  same_wait = now.journal_wait ∙ sym old.journal_wait

  clock_now : fed_on.clock ≤ t
  clock_now = subst (λ (z : Journal). z.clock ≤ t) (sym entered) (clock_on j t (max t j.clock) (earliest (λ b. dues_of (j.entries b)) (max t j.clock)) on (NoLater t j.clock on))
    where
      NoLater : (t c : ℕ) → c ≤ t → max t c ≤ t
      NoLater t c h = omega arith

  left_now : Awaits fed_on a f older ⊎ HasEnded fed_on a (f + j.wait) older
  left_now = elim (until w j (given ++ s.view.waiting) s old a f older aw (Fire t) r m fire (later_yet (f + j.wait) t j.clock over-now) was_admitted) [ inl y ↦ inl (subst (λ z. Awaits z a f older) (sym entered) y) | inr y ↦ inr (subst (λ z. HasEnded z a (f + j.wait) older) (sym entered) y.0) ]
    where
      later_yet : (d t c : ℕ) → d ≤ t → d ≤ max t c
      later_yet d t c h = omega arith

  fewer_now : all_due t m.core + 1 ≤ all_due t s.core
  fewer_now = fire_fewer s m r t (subst (λ k. 0 < k) (sym old.core_wait) waits) fire q

abbrev Down : Journal → ℕ → ℕ → Address → ℕ → List Entry → State → List Call → List Reply → Type 0
Down j t n a d older s cs rs = HasEnded (feed j (fed cs rs)) a d older ⊎ (n + 1 ≤ all_due t s.core)

comes_down : {s s' : State} {cs : List Call} {rs : List Reply} (w : ℕ) (j : Journal) (given : List Report) (t n : ℕ) (a : Address) (f : ℕ) (older : List Entry) → 0 < w → Sim w j (given ++ s.view.waiting) s.core → cs ≡ firings n t → Run s cs rs s' → Awaits j a f older → f + j.wait ≤ t → j.clock ≤ t → t ≤ last_tick → NoneLacked rs → Down j t n a (f + j.wait) older s cs rs
comes_down {s} w j given t zero a f older waits old e over aw over-now on in_time none = inr (some_due w j (given ++ s.view.waiting) s.core t a f older old aw over-now)
comes_down w j given t (suc n) a f older waits old e over aw over-now on in_time none = absurd (nil_cons e)
comes_down w j given t zero a f older waits old e (then d more) aw over-now on in_time none = absurd (nil_cons (sym e))
comes_down w j given t (suc n) a f older waits old e (then {s} {m} {s'} {c} {r} {cs} {rs} d more) aw over-now on in_time none =
    let fire : Does (Fire t) s r m = subst (λ y. Does y s r m) (same_head e) d in
    let ih : first (rows (room s) (Fire t) s.core) ≡ None → Awaits (feed_one j (Fire t, admitted r)) a f older → Down (feed_one j (Fire t, admitted r)) t n a (f + (feed_one j (Fire t, admitted r)).wait) older m cs rs = λ q y.
    comes_down w (feed_one j (Fire t, admitted r)) (given ++ handed r) t n a f older waits (now w j given s m t r a f older waits old aw over-now on fire q) (same_tail e) more y
    (subst (λ k. f + k ≤ t) (sym (same_wait w j given s m t r a f older waits old aw over-now on fire q)) over-now)
    (clock_now w j given s m t r a f older waits old aw over-now on fire q) in_time none.1 in
    subst (λ y. HasEnded (feed (feed_one j (y, admitted r)) (fed cs rs)) a (f + j.wait) older ⊎ (suc n + 1 ≤ all_due t s.core)) (sym (same_head e)) (go fire ih (goes_or_lacks w j (given ++ s.view.waiting) s old a f older aw t over-now on in_time))
  where
    by_fewer : (n k l : ℕ) → n + 1 ≤ k → k + 1 ≤ l → suc n + 1 ≤ l
    by_fewer n k l p q = omega arith

    go : Does (Fire t) s r m → (first (rows (room s) (Fire t) s.core) ≡ None → Awaits (feed_one j (Fire t, admitted r)) a f older → Down (feed_one j (Fire t, admitted r)) t n a (f + (feed_one j (Fire t, admitted r)).wait) older m cs rs) → (first (rows (room s) (Fire t) s.core) ≡ None) ⊎ ((first (rows (room s) (Fire t) s.core) ≡ Some NoFreePlace) × (room s ≡ false)) → HasEnded (feed (feed_one j (Fire t, admitted r)) (fed cs rs)) a (f + j.wait) older ⊎ (suc n + 1 ≤ all_due t s.core)
    go fire ih (inr q) = absurd (none.0 (ruled_so (Fire t) s m r fire (Some NoFreePlace) q.0).reply)
    go fire ih (inl q) = elim (left_now w j given s m t r a f older waits old aw over-now on fire q) [ inl y ↦ still (ih q y) | inr y ↦ inl (ended_stays w (feed_one j (Fire t, admitted r)) (given ++ handed r) t n a (f + j.wait) older (now w j given s m t r a f older waits old aw over-now on fire q) (same_tail e) more y) ]
      where
        still : Down (feed_one j (Fire t, admitted r)) t n a (f + (feed_one j (Fire t, admitted r)).wait) older m cs rs → HasEnded (feed (feed_one j (Fire t, admitted r)) (fed cs rs)) a (f + j.wait) older ⊎ (suc n + 1 ≤ all_due t s.core)
        still (inl z) = inl (subst (λ k. HasEnded (feed (feed_one j (Fire t, admitted r)) (fed cs rs)) a (f + k) older) (same_wait w j given s m t r a f older waits old aw over-now on fire q) z)
        still (inr z) = inr (by_fewer n (all_due t m.core) (all_due t s.core) z (fewer_now w j given s m t r a f older waits old aw over-now on fire q))

pub comes : (w : ℕ) (j : Journal) (given : List Report) (s : State) → 0 < w → Sim w j (given ++ s.view.waiting) s.core → (t n : ℕ) (rs : List Reply) (s' : State) (a : Address) (f : ℕ) (older : List Entry) → Run s (firings n t) rs s' → Awaits j a f older → f + j.wait ≤ t → j.clock ≤ t → t ≤ last_tick → connections * timers ≤ n → NoneLacked rs → HasEnded (feed j (fed (firings n t) rs)) a (f + j.wait) older
comes w j given s waits old t n rs s' a f older run aw over-now on in_time enough none =
    elim (comes_down w j given t n a f older waits old refl run aw over-now on in_time none) [ inl x ↦ x | inr x ↦ absurd (too_many n (all_due t s.core) x (most w j (given ++ s.view.waiting) s.core t old) enough) ]
  where
    too_many : (n k : ℕ) → n + 1 ≤ k → k ≤ connections * timers → connections * timers ≤ n → ⊥
    too_many n k p q r = omega arith
