-- Engine, journal and accounts agree after every run. Assumes nothing.
use Rattle.std.proofs.Common.{◌≡◌, ℕ, ◌+◌, ◌-◌, ◌<◌, ◌≤◌, max, Bool, true, false, cond, ◌&&◌, leb, List, [], ◌∷◌, ◌++◌, is_some, Some, None, Ok, Err, Option, Result, sym, refl, ap, ◌∙◌, subst, append_assoc, append-nil, arith}
use mathlib.Core.Path.{fun_ext}
use Rattle.std.proofs.lemmas.Bool.Decides.{nat_tests}
use Rattle.report.specs.declared.report.Address.{Address}
use Rattle.report.specs.declared.report.Report.{Report}
use Rattle.report.specs.declared.refusal.Refusal.{Refusal}
use Rattle.report.specs.Limits.{open_accounts}
use Rattle.report.specs.Lawful.{lawful_address, same}
use Rattle.account.specs.Rule.{Slot, Book, no_accounts, bit_of, many, is_open, written, read_one, then_read, read_list}
use Rattle.rules.specs.declared.call.Operation.{Operation}
use Rattle.rules.specs.declared.call.Operation.TheVariants.{SetUp, Continue, Bar, Instruct, Advise, Answer, Disconnect, Confirm, Repeat}
use Rattle.rules.specs.declared.call.Call.{Call}
use Rattle.rules.specs.declared.call.Call.TheVariants.{On, Fire, Take}
use Rattle.rules.specs.declared.call.Reply.{Reply}
use Rattle.rules.specs.declared.call.Reply.TheVariants.{Refused, Done}
use Rattle.rules.specs.declared.due.Timer.{Timer}
use Rattle.rules.specs.declared.due.Timer.TheVariants.{TariffSwitch, AdviceSwitch, Sound, PeriodEnd, ConfirmationLimit}
use Rattle.rules.specs.declared.due.Item.{Item}
use Rattle.rules.specs.declared.connection.Connection.{Connection}
use Rattle.rules.specs.Limits.{connections}
use Rattle.rules.specs.ByAddress.{put}
use Rattle.rules.specs.Ranges.{clamped, fits}
use Rattle.rules.specs.Dues.{earliest}
use Rattle.rules.specs.Occurrences.{Event, does, fires, Occurrence, fired, occurrence}
use Rattle.rules.specs.Core.{Core, start, dues_at}
use Rattle.rules.specs.Changes.{closed, releases, by_operation, by_timer, becomes}
use Rattle.rules.specs.Reports.{by_event_sent, sends}
use Rattle.rules.specs.Rows.{operation_rows, firing_rows, rows, first}
use Rattle.rules.specs.Rules.{bit, after, reports_of, effect, reports, order, ruled, rule}
use Rattle.link.specs.Links.{View, Takes}
use Rattle.rules.specs.Steps.{State, Delivers, room, Follows, took, Does, Run, over, then, handed, taken}
use Rattle.rules.specs.Fit.{AllFit, Sendable}
use Rattle.law.specs.Journal.{Entry, Journal, empty, is_set_up, noted, dues_of, enter_occurrence, call_at, enter, feed_one, feed}
use Rattle.law.specs.Law.{admitted, fed}
use Rattle.report.proofs.Addresses.{same_address, same_self}
use Rattle.invariants.proofs.Basics.{differ, and_left, and_right, not_not, not_early}
use Rattle.invariants.proofs.Earliest.{picked, none_picked}
use Rattle.invariants.proofs.Clear.{Clear, clear, SomeSent}
use Rattle.invariants.proofs.Fitness.{fit_there, stays_fit, sends_lawful}
use Rattle.account.proofs.Many.{many_less, many_change}
use Rattle.law.proofs.Agreement.{Agrees, later, same_dues}
use Rattle.law.proofs.Reporting.{written_same, SentIn}
use Rattle.law.proofs.Calls.{AgreesAfter, operation_agrees, timer_agrees}

-- the reports so far are read without a refusal, and each address agrees; w is the wait
pub record Sim (w : ℕ) (j : Journal) (sofar : List Report) (s : Core) : Type 0 where
  pub book : Book
  pub reading : read_list sofar no_accounts ≡ Ok book
  pub agree : (a : Address) → Agrees w (s.at a) (j.entries a) (book a) s.clock
  pub fit_now : AllFit s
  pub journal_wait : j.wait ≡ w
  pub core_wait : s.wait ≡ w
  pub clocks : j.clock ≡ s.clock
  pub count_is : s.count ≡ many (λ a. is_some (s.at a))
  pub count_most : s.count ≤ connections

-- lists of reports
read-++ : (xs ys : List Report) (b : Book) → read_list (xs ++ ys) b ≡ then_read (read_list xs b) (read_list ys)
read-++ [] ys b = refl
read-++ (x ∷ xs) ys b = go (read_one x b) (read-++ xs ys)
  where
    go : (o : Result Book Refusal) → ((m : Book) → read_list (xs ++ ys) m ≡ then_read (read_list xs m) (read_list ys)) → then_read o (read_list (xs ++ ys)) ≡ then_read (then_read o (read_list xs)) (read_list ys)
    go (Err n) ih = refl
    go (Ok m) ih = ih m

reads_list : (a : Address) (rs : List Report) (b : Book) (s' : Slot) → SentIn a rs (b a) s' → (SomeSent rs → (b a).open_at ≡ None → many (is_open b) < open_accounts) → read_list rs b ≡ Ok (written b a s')
reads_list a [] b s' h room = ap Ok (written_same b a s' (sym h))
reads_list a (r ∷ rs) b s' h room =
    let one : read_one r b ≡ Ok (written b a s') = h.0 b refl (room tt) in
    ap (λ l. then_read (read_one r b) (read_list l)) h.1 ∙ ap (λ o. then_read o (read_list [])) one

-- an open account is at a live connection, so there is room for one where a connection has none
open_live : (w : ℕ) (o : Option Connection) (es : List Entry) (sl : Slot) (clock : ℕ) → Agrees w o es sl clock → is_some sl.open_at ≡ true → is_some o ≡ true
open_live w None es sl clock g h = absurd (differ (sym (ap is_some g.none_open) ∙ h))
open_live w (Some c) es sl clock g h = refl

few_open : (w : ℕ) (j : Journal) (sofar : List Report) (s : Core) (old : Sim w j sofar s) (a : Address) (c : Connection) → s.at a ≡ Some c → (old.book a).open_at ≡ None → many (is_open old.book) < open_accounts
few_open w j sofar s old a c is none =
    less_most (many (is_open old.book)) (many (λ a. is_some (s.at a))) s.count
    (many_less (is_open old.book) (λ a. is_some (s.at a)) a (fit_there s.clock a c (old.fit_now a c is)) (λ x h. open_live w (s.at x) (j.entries x) (old.book x) s.clock (old.agree x) h) (ap is_some none) (ap is_some is))
    old.count_is old.count_most
  where
    less_most : (m n k : ℕ) → m < n → k ≡ n → k ≤ connections → m < open_accounts
    less_most m n k p q r = omega arith

none_sent : (ev : Event) (a : Address) (d : ℕ) → by_event_sent ev a d None ≡ []
none_sent (does SetUp) a d = refl
none_sent (does Continue) a d = refl
none_sent (does Bar) a d = refl
none_sent (does (Instruct i)) a d = refl
none_sent (does (Advise v)) a d = refl
none_sent (does Answer) a d = refl
none_sent (does Disconnect) a d = refl
none_sent (does (Confirm n)) a d = refl
none_sent (does Repeat) a d = refl
none_sent (fires TariffSwitch) a d = refl
none_sent (fires AdviceSwitch) a d = refl
none_sent (fires Sound) a d = refl
none_sent (fires PeriodEnd) a d = refl
none_sent (fires ConfirmationLimit) a d = refl

bit_is : {X : Type 0} (o : Option X) → bit o ≡ bit_of (is_some o)
bit_is None = refl
bit_is (Some x) = refl

moved : (f bn g bo : ℕ) → f + bn ≡ g + bo → (f + bn) - bo ≡ g
moved f bn g bo e = omega arith

-- one occurrence
module _ (w : ℕ) (j : Journal) (sofar : List Report) (s : Core) (old : Sim w j sofar s) (x : Occurrence) (on : s.clock ≤ x.at) (ok : lawful_address x.address ≡ true) (few : (s.count + bit (becomes s.wait x (s.at x.address))) - bit (s.at x.address) ≤ connections) (fit-after : AllFit (after (Some x) s))
    (turn : AgreesAfter w x.address x.event x.asof x.at (s.at x.address) (j.entries x.address) (old.book x.address)) where
  abbrev here : Address
  here = x.address

  abbrev s' : Slot
  s' = turn.0

  read_here : read_list (sends x (s.at here)) old.book ≡ Ok (written old.book here s')
  read_here = reads_list here (sends x (s.at here)) old.book s' turn.1 (go (s.at here) refl)
    where
      go : (o : Option Connection) → s.at here ≡ o → SomeSent (sends x o) → (old.book here).open_at ≡ None → many (is_open old.book) < open_accounts
      go None q h = absurd (subst SomeSent (none_sent x.event here x.asof) h)
      go (Some c) q h = λ none. few_open w j sofar s old here c q none

  counted_here : (s.count + bit (becomes s.wait x (s.at here))) - bit (s.at here) ≡ many (λ a. is_some (put s.at here (becomes s.wait x (s.at here)) a))
  counted_here =
      let f : Address → Bool = λ a. is_some (s.at a) in
      let new = becomes s.wait x (s.at here) in
      let g : Address → Bool = λ a. is_some (put s.at here new a) in
      let change : many f + bit_of (g here) ≡ many g + bit_of (f here) = many_change f g here ok (λ a n. other a n (same a here) refl) in
      let gb : bit_of (g here) ≡ bit new = ap (λ z. bit_of (is_some (cond z new (s.at here)))) (same_self here) ∙ sym (bit_is new) in
      let total' : s.count + bit new ≡ many g + bit (s.at here) = ap (λ n. n + bit new) old.count_is ∙ ap (λ n. many f + n) (sym gb) ∙ change ∙ ap (λ n. many g + n) (sym (bit_is (s.at here))) in
      moved s.count (bit new) (many g) (bit (s.at here)) total'
    where
      other : (a : Address) → (a ≡ here → ⊥) → (z : Bool) → same a here ≡ z → is_some (s.at a) ≡ is_some (cond z (becomes s.wait x (s.at here)) (s.at a))
      other a n true q = absurd (n (same_address a here q))
      other a n false q = refl

  agree_here : (a : Address) → Agrees w (put s.at here (becomes s.wait x (s.at here)) a) (put j.entries here (noted j.wait x (j.entries here)) a) (written old.book here s' a) x.at
  agree_here a = go (same a here) refl
    where
      here_now : Agrees w (becomes s.wait x (s.at here)) (noted j.wait x (j.entries here)) s' x.at
      here_now = subst (λ v. Agrees w (becomes s.wait x (s.at here)) (noted v x (j.entries here)) s' x.at) (sym old.journal_wait) (subst (λ v. Agrees w (becomes v x (s.at here)) (noted w x (j.entries here)) s' x.at) (sym old.core_wait) turn.2)

      go : (z : Bool) → same a here ≡ z → Agrees w (cond z (becomes s.wait x (s.at here)) (s.at a)) (cond z (noted j.wait x (j.entries here)) (j.entries a)) (cond z s' (old.book a)) x.at
      go true q = here_now
      go false q = later w (s.at a) (j.entries a) (old.book a) s.clock x.at on (old.agree a)

  after_occurrence : Sim w (enter_occurrence (Some x) j) (sofar ++ reports_of (Some x) s) (after (Some x) s)
  after_occurrence = record {
    book = written old.book here s';
    reading = read-++ sofar (sends x (s.at here)) no_accounts ∙ ap (λ o. then_read o (read_list (sends x (s.at here)))) old.reading ∙ read_here;
    agree = agree_here;
    fit_now = fit-after;
    journal_wait = old.journal_wait;
    core_wait = old.core_wait;
    clocks = refl;
    count_is = counted_here;
    count_most = few;
  }

-- how many connections there are after a call
stays_few : (n bn bo : ℕ) → n ≤ connections → bn ≤ bo → (n + bn) - bo ≤ connections
stays_few n bn bo p q = omega arith

no_more : (x : Operation) (t : ℕ) (o : Option Connection) → is_set_up x ≡ false → bit (by_operation x t o) ≤ bit o
no_more SetUp t o e = absurd (differ (sym e))
no_more Continue t None e = omega arith
no_more Continue t (Some c) e = omega arith
no_more Bar t o e = omega arith
no_more (Instruct i) t None e = omega arith
no_more (Instruct i) t (Some c) e = omega arith
no_more (Advise v) t None e = omega arith
no_more (Advise v) t (Some c) e = omega arith
no_more Answer t None e = omega arith
no_more Answer t (Some c) e = omega arith
no_more Disconnect t o e = omega arith
no_more (Confirm n) t None e = omega arith
no_more (Confirm n) t (Some c) e = omega arith
no_more Repeat t o e = omega arith

bit_most : {X : Type 0} (o : Option X) → bit o ≤ 1
bit_most None = omega arith
bit_most (Some x) = omega arith

timer_no_more : (w : ℕ) (k : Timer) (a : Address) (d t : ℕ) (o : Option Connection) → bit (by_timer w k a d t o) ≤ bit o
timer_no_more w TariffSwitch a d t None = omega arith
timer_no_more w TariffSwitch a d t (Some c) = omega arith
timer_no_more w AdviceSwitch a d t None = omega arith
timer_no_more w AdviceSwitch a d t (Some c) = omega arith
timer_no_more w Sound a d t None = omega arith
timer_no_more w Sound a d t (Some c) = omega arith
timer_no_more w PeriodEnd a d t None = omega arith
timer_no_more w PeriodEnd a d t (Some c) = bit_most (cond (releases c.grant.period) None (Some (closed a d (t + w) c)))
timer_no_more w ConfirmationLimit a d t o = omega arith

operation_few : (x : Operation) (t : ℕ) (room : Bool) (o : Option Connection) (n : ℕ) → n ≤ connections → Clear (operation_rows room x o n) → (n + bit (by_operation x t o)) - bit o ≤ connections
operation_few x t room o n h k = go (is_set_up x) refl
  where
    room_left : (n : ℕ) → leb connections n ≡ false → (n + 1) - 0 ≤ connections
    room_left n e = grind (arith, nat_tests)

    set_up : (x : Operation) → is_set_up x ≡ true → (o : Option Connection) → Clear (operation_rows room x o n) → (n + bit (by_operation x t o)) - bit o ≤ connections
    set_up SetUp e None k = room_left n k.1.0
    set_up SetUp e (Some c) k = absurd (differ (sym k.0))
    set_up Continue e o k = absurd (differ e)
    set_up Bar e o k = absurd (differ e)
    set_up (Instruct i) e o k = absurd (differ e)
    set_up (Advise v) e o k = absurd (differ e)
    set_up Answer e o k = absurd (differ e)
    set_up Disconnect e o k = absurd (differ e)
    set_up (Confirm m) e o k = absurd (differ e)
    set_up Repeat e o k = absurd (differ e)

    go : (b : Bool) → is_set_up x ≡ b → (n + bit (by_operation x t o)) - bit o ≤ connections
    go true e = set_up x e o k
    go false e = stays_few n (bit (by_operation x t o)) (bit o) h (no_more x t o e)

-- the two see the same dues
dues_agree : (w : ℕ) (j : Journal) (sofar : List Report) (s : Core) → Sim w j sofar s → dues_at s ≡ (λ a. dues_of (j.entries a))
dues_agree w j sofar s old = fun_ext (λ a. same_dues w (s.at a) (j.entries a) (old.book a) s.clock (old.agree a))

pub at_tick : (t jc sc : ℕ) → jc ≡ sc → sc ≤ t → max t jc ≡ t
at_tick t jc sc e h = omega arith

module _ (w : ℕ) (j : Journal) (sofar : List Report) (s : Core) (old : Sim w j sofar s) where
  abbrev NextSim : Call → Type 0
  NextSim c = Sim w (enter c j) (sofar ++ reports c s) (effect c s)

  pub same_occurrence : (c : Call) (t : ℕ) → call_at c j.clock ≡ t → occurrence (dues_at s) t c ≡ occurrence (λ a. dues_of (j.entries a)) (call_at c j.clock) c
  same_occurrence c t e = ap (λ f. occurrence f t c) (dues_agree w j sofar s old) ∙ ap (λ n. occurrence (λ a. dues_of (j.entries a)) n c) (sym e)

  -- an operation
  operation_step : (free : Bool) (t : ℕ) (a : Address) (x : Operation) → first (rows free (On t a x) s) ≡ None → NextSim (On t a x)
  operation_step free t a x e =
      let k = clear (rows free (On t a x) s) e in
      let on = not_early t s.clock k.0 in
      let ranges : (lawful_address a && fits x) ≡ true = not_not (lawful_address a && fits x) k.1.0 in
      let ok = and_left (lawful_address a) (fits x) ranges in
      let it : Occurrence = record { event = does x; address = a; asof = t; at = t } in
      let now = later w (s.at a) (j.entries a) (old.book a) s.clock t on (old.agree a) in
      let turn = operation_agrees w a x t s.clock free s.count (s.at a) (j.entries a) (old.book a) (and_right (lawful_address a) (fits x) ranges) (λ i q h. none_picked (dues_at s) t k.1.1.0 a i q ok h) k.1.1.1 (sends_lawful free (On t a x) s e old.fit_now) (old.fit_now a) now in
      let next = after_occurrence w j sofar s old it on ok (operation_few x t free (s.at a) s.count old.count_most k.1.1.1) (stays_fit.ever_after free (On t a x) s e old.fit_now) turn in
      subst (λ o. Sim w (enter_occurrence o j) (sofar ++ reports (On t a x) s) (effect (On t a x) s)) (same_occurrence (On t a x) t (at_tick t j.clock s.clock old.clocks on)) next

  -- a firing
  fire_step : (free : Bool) (t : ℕ) → first (rows free (Fire t) s) ≡ None → NextSim (Fire t)
  fire_step free t e =
      let k = clear (rows free (Fire t) s) e in
      let on = not_early t s.clock k.0 in
      let next = go (earliest (dues_at s) t) refl k.1 on (sends_lawful free (Fire t) s e old.fit_now) (stays_fit.ever_after free (Fire t) s e old.fit_now) in
      subst (λ o. Sim w (enter_occurrence o j) (sofar ++ reports (Fire t) s) (effect (Fire t) s)) (same_occurrence (Fire t) t (at_tick t j.clock s.clock old.clocks on)) next
    where
      go : (o : Option Item) → earliest (dues_at s) t ≡ o → Clear (firing_rows free s o) → s.clock ≤ t → Sendable free (reports_of (fired t o) s) → AllFit (after (fired t o) s) → Sim w (enter_occurrence (fired t o) j) (sofar ++ reports_of (fired t o) s) (after (fired t o) s)
      go None q k on ok g = absurd (differ (sym k.0))
      go (Some i) q k on ok g =
          let p = picked (dues_at s) t i q in
          let a = i.address in
          let it : Occurrence = record { event = fires i.timer; address = a; asof = i.tick; at = t } in
          let now = later w (s.at a) (j.entries a) (old.book a) s.clock t on (old.agree a) in
          let turn = timer_agrees w a i.timer t i.tick s.clock free (s.at a) (j.entries a) (old.book a) p.runs p.due (λ k d e. p.least i.address k d p.there e) ok (old.fit_now a) now in
          after_occurrence w j sofar s old it on p.there (stays_few s.count (bit (by_timer s.wait i.timer a i.tick t (s.at a))) (bit (s.at a)) old.count_most (timer_no_more s.wait i.timer a i.tick t (s.at a))) g turn

-- what the link takes waits after the others
pub delivered : (rs : List Report) (v u : View) → Delivers rs v u → u.waiting ≡ v.waiting ++ rs
delivered [] v u d = ap (λ (y : View). y.waiting) d ∙ sym (append-nil v.waiting)
delivered (r ∷ rs) v u d = delivered rs d.0 u d.2 ∙ ap (λ (y : View). y.waiting ++ rs) d.1.2 ∙ append_assoc v.waiting (r ∷ []) rs

-- one call
module _ (w : ℕ) (j : Journal) (given : List Report) (s s' : State) (old : Sim w j (given ++ s.view.waiting) s.core) where
  abbrev Next : Call → Reply → Type 0
  Next c r = Sim w (feed_one j (c, admitted r)) ((given ++ handed r) ++ s'.view.waiting) s'.core

  refused : (c : Call) (r : Reply) (n : Refusal) → r ≡ Refused n → s'.core ≡ s.core → s'.view ≡ s.view → Next c r
  refused c r n reply core view =
      subst (Next c) (sym reply)
      (subst (λ k. Sim w j ((given ++ []) ++ s'.view.waiting) k) (sym core)
      (subst (λ l. Sim w j (l ++ s'.view.waiting) s.core) (sym (append-nil given))
      (subst (λ (v : View). Sim w j (given ++ v.waiting) s.core) (sym view) old)))

  admits : (c : Call) (r : Reply) → r ≡ Done (order c s.core) → s'.core ≡ effect c s.core → Delivers (reports c s.core) s.view s'.view → Sim w (enter c j) ((given ++ s.view.waiting) ++ reports c s.core) (effect c s.core) → Next c r
  admits c r reply core view next =
      let rs = reports c s.core in
      let waits-now : s'.view.waiting ≡ s.view.waiting ++ rs = delivered rs s.view s'.view view in
      let list-is : (given ++ s.view.waiting) ++ rs ≡ (given ++ []) ++ s'.view.waiting = append_assoc given s.view.waiting rs ∙ ap (λ l. given ++ l) (sym waits-now) ∙ ap (λ l. l ++ s'.view.waiting) (sym (append-nil given)) in
      subst (Next c) (sym reply) (subst (λ k. Sim w (enter c j) ((given ++ []) ++ s'.view.waiting) k) (sym core) (subst (λ l. Sim w (enter c j) l (effect c s.core)) list-is next))

  timed : (c : Call) (r : Reply) → (first (rows (room s) c s.core) ≡ None → Sim w (enter c j) ((given ++ s.view.waiting) ++ reports c s.core) (effect c s.core)) → Follows (rule (room s) c s.core) s r s' → Next c r
  timed c r each d = go (first (rows (room s) c s.core)) refl d.core d.reply d.view
    where
      go : (o : Option Refusal) → first (rows (room s) c s.core) ≡ o → s'.core ≡ (ruled c s.core o).core → r ≡ (ruled c s.core o).reply → Delivers (ruled c s.core o).sent s.view s'.view → Next c r
      go (Some n) e core reply view = refused c r n reply core view
      go None e core reply view = admits c r reply core view (each e)

  handing : (o : Result Report Refusal) (r : Reply) → s'.core ≡ s.core → r ≡ took o → Takes s.view o s'.view → Next Take r
  handing (Ok p) r core reply view =
      let list-is : given ++ s.view.waiting ≡ (given ++ (p ∷ [])) ++ s'.view.waiting = ap (λ l. given ++ l) view.0 ∙ sym (append_assoc given (p ∷ []) s'.view.waiting) in
      subst (Next Take) (sym reply) (subst (λ k. Sim w j ((given ++ (p ∷ [])) ++ s'.view.waiting) k) (sym core) (subst (λ l. Sim w j l s.core) list-is old))
  handing (Err n) r core reply view = refused Take r n reply core view.2

  -- any one call
  pub step : (c : Call) (r : Reply) → Does c s r s' → Next c r
  step (On t a x) r d = timed (On t a x) r (operation_step w j (given ++ s.view.waiting) s.core old (room s) t a x) d
  step (Fire t) r d = timed (Fire t) r (fire_step w j (given ++ s.view.waiting) s.core old (room s) t) d
  step Take r d = handing d.answer r d.core d.reply d.view

-- any list of calls
pub whole : {cs : List Call} {rs : List Reply} {s s' : State} (w : ℕ) (j : Journal) (given : List Report) → Sim w j (given ++ s.view.waiting) s.core → Run s cs rs s' → Sim w (feed j (fed cs rs)) ((given ++ taken rs) ++ s'.view.waiting) s'.core
whole {s' = s'} w j given old over = subst (λ l. Sim w j (l ++ s'.view.waiting) s'.core) (sym (append-nil given)) old
whole w j given old (then {s} {m} {s'} {c} {r} {cs} {rs} d more) =
    let next = whole w (feed_one j (c, admitted r)) (given ++ handed r) (step w j given s m old c r d) more in
    subst (λ l. Sim w (feed (feed_one j (c, admitted r)) (fed cs rs)) (l ++ s'.view.waiting) s'.core) (append_assoc given (handed r) (taken rs)) next

begins : (w : ℕ) → Sim (clamped w) (empty w) [] (start w)
begins w = record {
  book = no_accounts;
  reading = refl;
  agree = λ a. record { none_open = refl; closed_is = refl; all_reported = tt; finished = tt; none_due_there = refl };
  fit_now = stays_fit.at_first w;
  journal_wait = refl;
  core_wait = refl;
  clocks = refl;
  count_is = refl;
  count_most = omega arith;
}

-- from a new engine over an empty link
pub from_start : (w : ℕ) {calls : List Call} {replies : List Reply} {v : View} {s : State} → v.waiting ≡ [] → Run (record { core = start w; view = v }) calls replies s → Sim (clamped w) (feed (empty w) (fed calls replies)) (taken replies ++ s.view.waiting) s.core
from_start w none_waits run = whole (clamped w) (empty w) [] (subst (λ l. Sim (clamped w) (empty w) l (start w)) (sym none_waits) (begins w)) run
