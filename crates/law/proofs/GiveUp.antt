-- The give-up limit, whatever call comes next. Assumes nothing.
use Rattle.std.proofs.Common.{◌≡◌, ℕ, ◌+◌, ◌<◌, ◌≤◌, max, Bool, true, false, cond, not, ◌&&◌, ◌||◌, ltb, ◌⊎◌, List, [], ◌∷◌, ◌++◌, is_some, Some, None, Option, sym, refl, ap, ◌∙◌, subst, inl, inr, arith}
use Rattle.std.specs.Option.{option_map}
use Rattle.std.proofs.lemmas.Bool.Decides.{nat_tests}
use Rattle.report.specs.declared.report.Address.{Address}
use Rattle.report.specs.declared.report.Standing.TheVariants.{Ended}
use Rattle.report.specs.declared.report.Report.{Report}
use Rattle.report.specs.declared.refusal.Refusal.{Refusal}
use Rattle.report.specs.declared.refusal.Refusal.TheVariants.{Untimely, NoFreePlace}
use Rattle.report.specs.Limits.{last_tick}
use Rattle.report.specs.Lawful.{lawful_address, same}
use Rattle.account.specs.Rule.{Account, Slot}
use Rattle.rules.specs.declared.call.Operation.{Operation}
use Rattle.rules.specs.declared.call.Operation.TheVariants.{Repeat}
use Rattle.rules.specs.declared.call.Call.{Call}
use Rattle.rules.specs.declared.call.Call.TheVariants.{On, Fire, Take}
use Rattle.rules.specs.declared.call.OrderKind.TheVariants as order-kind
use Rattle.rules.specs.declared.call.Reply.{Reply}
use Rattle.rules.specs.declared.call.Reply.TheVariants.{Refused, Done}
use Rattle.rules.specs.declared.due.Timer.{Timer}
use Rattle.rules.specs.declared.due.Timer.TheVariants.{TariffSwitch, AdviceSwitch, Sound, PeriodEnd, ConfirmationLimit}
use Rattle.rules.specs.declared.due.Item.{Item}
use Rattle.rules.specs.declared.connection.Period.{Period}
use Rattle.rules.specs.declared.connection.Meter.{Meter}
use Rattle.rules.specs.declared.connection.Connection.{Connection}
use Rattle.rules.specs.ByAddress.{put}
use Rattle.rules.specs.Dues.{due_of, earliest}
use Rattle.rules.specs.Occurrences.{fires, fired}
use Rattle.rules.specs.Core.{Core, dues_in, dues_at, answered_at}
use Rattle.rules.specs.Changes.{made}
use Rattle.rules.specs.Reports.{last_report, by_event_sent}
use Rattle.rules.specs.Orders.{by_timer_order}
use Rattle.rules.specs.Rows.{timer_reports, firing_rows, rows, first}
use Rattle.rules.specs.Rules.{reports_of, order_of, reports, order, ruled, rule}
use Rattle.rules.specs.Steps.{State, Delivers, room, Follows, Does}
use Rattle.rules.specs.Fit.{fit}
use Rattle.law.specs.Journal.{Entry, Journal, noted_timer, on_newest, enter_occurrence, call_at, enter, feed_one}
use Rattle.law.specs.Law.{admitted, Awaits, HasEnded, FiresOrTakes, EndsSo}
use Rattle.report.proofs.Addresses.{same_address}
use Rattle.invariants.proofs.Basics.{differ, none_some, some_same, of_some, not_early, same_head}
use Rattle.invariants.proofs.Earliest.{picked, none_picked}
use Rattle.invariants.proofs.Clear.{Clear, clear}
use Rattle.invariants.proofs.Fitness.{fit_there, limit_had}
use Rattle.law.proofs.Agreement.{Timing, Finished, Agrees}
use Rattle.law.proofs.Simulation.{Sim, at_tick, same_occurrence, delivered}

-- the limit of an awaiting report is due, and no period end is
pub record LimitThere (w : ℕ) (a : Address) (o : Option Connection) (f : ℕ) : Type 0 where
  pub address_ok : lawful_address a ≡ true
  pub limit_is : due_of (dues_in o) ConfirmationLimit ≡ Some (f + w)
  pub no_end : (q : ℕ) → due_of (dues_in o) PeriodEnd ≡ Some q → ⊥

limit_alone : (answer : Option ℕ) (k : ℕ) (tariff end limit : Option ℕ) (period : Option Period) (m : Meter) (ss : List ℕ) (reported : Option ℕ) (o : Option Account) (t q p : ℕ) → Timing answer k tariff end limit period m ss reported o t → limit ≡ Some q → end ≡ Some p → ⊥
limit_alone None k tariff end limit period m ss reported o t q p x l e = none_some (sym x.no_limit ∙ l)
limit_alone (Some a) k tariff end limit period m ss reported o t q p x l e = differ (sym (x.pending.limit_on q l).1 ∙ (x.pending.end_on p e).1)

limit_there : (w : ℕ) (a : Address) (o : Option Connection) (es : List Entry) (sl : Slot) (clock f : ℕ) (e : Entry) (rest : List Entry) → ((c : Connection) → o ≡ Some c → fit clock a c ≡ true) → Agrees w o es sl clock → es ≡ e ∷ rest → e.ended ≡ None → e.awaiting ≡ Some f → LimitThere w a o f
limit_there w a None es sl clock f e rest g x is open-yet since =
    let d : is_some e.ended ≡ true = subst Finished is x.finished in
    absurd (differ (sym (ap is_some open-yet) ∙ d))
limit_there w a (Some c) es sl clock f e rest g y is open-yet since =
    let x = y.alike in
    let it : y.entry ≡ e = same_head (sym y.newest_is ∙ is) in
    let l : c.dues.limit ≡ Some (f + w) = x.limit_same ∙ ap (option_map (λ f. f + w)) (ap (λ (z : Entry). z.awaiting) it ∙ since) in
    record {
      address_ok = fit_there clock a c (g c refl);
      limit_is = l;
      no_end = λ q z. limit_alone (answered_at c.stage) c.sent c.dues.tariff c.dues.end c.dues.limit c.grant.period c.meter y.entry.switches y.entry.reported sl.open_at clock (f + w) q x.timing l z;
    }

-- the item fired is the limit of an address
pub record LimitFired (a : Address) (d : ℕ) (i : Item) : Type 0 where
  pub at_it : a ≡ i.address
  pub by_limit : i.timer ≡ ConfirmationLimit
  pub as_of : i.tick ≡ d

module _ (w : ℕ) (j : Journal) (sofar : List Report) (s : Core) (old : Sim w j sofar s) (a : Address) (f : ℕ) (older : List Entry) (aw : Awaits j a f older) where
  pub there : LimitThere w a (s.at a) f
  there = limit_there w a (s.at a) (j.entries a) (old.book a) s.clock f aw.entry older (old.fit_now a) (old.agree a) aw.newest_is aw.unended aw.since

  -- an operation is not admitted once the wait is over
  no_operation : (free : Bool) (t : ℕ) (b : Address) (x : Operation) → first (rows free (On t b x) s) ≡ None → f + j.wait ≤ max t j.clock → ⊥
  no_operation free t b x e over-now =
      let k = clear (rows free (On t b x) s) e in
      let later_yet : t < f + w = none_picked (dues_at s) t k.1.1.0 a ConfirmationLimit (f + w) there.address_ok there.limit_is in
      let now : max t j.clock ≡ t = at_tick t j.clock s.clock old.clocks (not_early t s.clock k.0) in
      not_both t (f + w) (f + j.wait) (max t j.clock) later_yet (ap (λ n. f + n) old.journal_wait) now over-now
    where
      not_both : (t q r m : ℕ) → t < q → r ≡ q → m ≡ t → r ≤ m → ⊥
      not_both t q r m p e n h = omega arith

  -- a firing leaves the report awaiting, or ends the connection as of the wait's end
  module _ (t : ℕ) (i : Item) (q : earliest (dues_at s) t ≡ Some i) where
    abbrev next : Journal
    next = enter_occurrence (fired t (Some i)) j

    abbrev changed : Timer → Entry
    changed k = noted_timer j.wait k i.tick t aw.entry

    abbrev noted_so : List Entry → List Entry
    noted_so = on_newest (noted_timer j.wait i.timer i.tick t)

    abbrev LeftSo : Type 0
    LeftSo = Awaits next a f older ⊎ (HasEnded next a (f + j.wait) older × LimitFired a (f + j.wait) i)

    runs : (k : Timer) → i.timer ≡ k → a ≡ i.address → due_of (dues_at s a) k ≡ Some i.tick
    runs k m z = ap (λ y. due_of (dues_at s y) k) z ∙ ap (due_of (dues_at s i.address)) (sym m) ∙ (picked (dues_at s) t i q).runs

    by_kind : (k : Timer) → i.timer ≡ k → a ≡ i.address → next.entries a ≡ changed k ∷ older → LeftSo
    by_kind TariffSwitch m z h = inl (record { entry = changed TariffSwitch; newest_is = h; unended = aw.unended; since = aw.since })
    by_kind AdviceSwitch m z h = inl (record { entry = changed AdviceSwitch; newest_is = h; unended = aw.unended; since = aw.since })
    by_kind Sound m z h = inl (record { entry = changed Sound; newest_is = h; unended = aw.unended; since = aw.since })
    by_kind PeriodEnd m z h = absurd (there.no_end i.tick (runs PeriodEnd m z))
    by_kind ConfirmationLimit m z h =
        let as_of : i.tick ≡ f + j.wait = some_same (sym (runs ConfirmationLimit m z) ∙ there.limit_is) ∙ ap (λ n. f + n) (sym old.journal_wait) in
        inr (record { entry = changed ConfirmationLimit; newest_is = h; as_of = ap Some as_of }, record { at_it = z; by_limit = m; as_of = as_of })

    fired_so : LeftSo
    fired_so = go (same a i.address) refl
      where
        go : (z : Bool) → same a i.address ≡ z → LeftSo
        go true z =
            let at_it = same_address a i.address z in
            by_kind i.timer refl at_it (ap (λ b. cond b (noted_so (j.entries i.address)) (j.entries a)) z ∙ ap (λ y. noted_so (j.entries y)) (sym at_it) ∙ ap noted_so aw.newest_is)
        go false z = inl (record { entry = aw.entry; newest_is = ap (λ b. cond b (noted_so (j.entries i.address)) (j.entries a)) z ∙ aw.newest_is; unended = aw.unended; since = aw.since })

-- by the refusal, if there is one
pub ruled_so : (c : Call) (s s' : State) (r : Reply) → Follows (rule (room s) c s.core) s r s' → (o : Option Refusal) → first (rows (room s) c s.core) ≡ o → Follows (ruled c s.core o) s r s'
ruled_so c s s' r d o e = subst (λ o. Follows (ruled c s.core o) s r s') e d

pub not_admitted : {r : Reply} {n : Refusal} → r ≡ Refused n → admitted r ≡ true → ⊥
not_admitted e h = differ (ap admitted (sym e) ∙ h)

limit_sends : (a : Address) (d : ℕ) (clock : ℕ) (o : Option Connection) → due_of (dues_in o) ConfirmationLimit ≡ Some d → ((c : Connection) → o ≡ Some c → fit clock a c ≡ true) → (q : Report) × (last_report a d o ≡ q ∷ []) × (q.address ≡ a) × (q.tick ≡ d) × (q.standing ≡ Ended)
limit_sends a d clock None due g = absurd (none_some due)
limit_sends a d clock (Some c) due g = (made a d Ended c, ap (λ b. cond b [] (made a d Ended c ∷ [])) (limit_had clock a c d (g c refl) due), refl, refl, refl)

in_order : (m t c : ℕ) → t ≤ m → c ≤ t → (ltb m t || ltb t c) ≡ false
in_order m t c p q = ap (λ b. b || ltb t c) (not_less m t p) ∙ not_less t c q
  where
    not_less : (m t : ℕ) → t ≤ m → ltb m t ≡ false
    not_less m t h = grind (arith, nat_tests)

put_same : {X : Type 0} (m : Address → X) (a b : Address) → put m a (m a) b ≡ m b
put_same m a b = go (same b a) refl
  where
    go : (z : Bool) → same b a ≡ z → cond z (m a) (m b) ≡ m b
    go true z = ap m (sym (same_address b a z))
    go false z = refl

module _ (w : ℕ) (j : Journal) (sofar : List Report) (s : State) (old : Sim w j sofar s.core) where
  abbrev k : Core
  k = s.core

  ends_so : (t : ℕ) (r : Reply) (s' : State) (a : Address) (d : ℕ) (i : Item) → earliest (dues_at k) t ≡ Some i → LimitFired a d i → r ≡ Done (order (Fire t) k) → Delivers (reports (Fire t) k) s.view s'.view → EndsSo a d (Fire t) s r s'
  ends_so t r s' a d i q x reply view =
      let p = picked (dues_at k) t i q in
      let due : due_of (dues_in (k.at a)) ConfirmationLimit ≡ Some d = ap (λ y. due_of (dues_at k y) ConfirmationLimit) x.at_it ∙ ap (due_of (dues_at k i.address)) (sym x.by_limit) ∙ p.runs ∙ ap Some x.as_of in
      let sent-one = limit_sends a d k.clock (k.at a) due (old.fit_now a) in
      let rs-are : reports (Fire t) k ≡ sent-one.0 ∷ [] =
      ap (λ o. reports_of (fired t o) k) q
      ∙ ap (λ m. by_event_sent (fires m) i.address i.tick (k.at i.address)) x.by_limit
      ∙ ap (λ n. last_report i.address n (k.at i.address)) x.as_of
      ∙ ap (λ y. last_report y d (k.at y)) (sym x.at_it)
      ∙ sent-one.1 in
      let order_is : order (Fire t) k ≡ record { address = a; kind = order-kind.Ended } =
      ap (λ o. order_of (fired t o) k) q
      ∙ ap (λ m. record { address = i.address; kind = by_timer_order m (k.at i.address) }) x.by_limit
      ∙ ap (λ y. record { address = y; kind = order-kind.Ended }) (sym x.at_it) in
      record {
        by_firing = tt;
        told = reply ∙ ap Done order_is;
        last = sent-one.0;
        sent = delivered (reports (Fire t) k) s.view s'.view view ∙ ap (λ l. s.view.waiting ++ l) rs-are;
        from_here = sent-one.2;
        as_of = sent-one.3;
        is_last = sent-one.4;
      }

  module _ (a : Address) (f : ℕ) (older : List Entry) (aw : Awaits j a f older) where
    pub only : (c : Call) (r : Reply) (s' : State) → Does c s r s' → f + j.wait ≤ call_at c j.clock → admitted r ≡ true → FiresOrTakes c
    only (On t b x) r s' d over-now ok = go (first (rows (room s) (On t b x) k)) refl
      where
        go : (o : Option Refusal) → first (rows (room s) (On t b x) k) ≡ o → ⊥
        go (Some n) q = not_admitted (ruled_so (On t b x) s s' r d (Some n) q).reply ok
        go None q = no_operation w j sofar k old a f older aw (room s) t b x q over-now
    only (Fire t) r s' d over-now ok = tt
    only Take r s' d over-now ok = tt

    abbrev Left : Call → Reply → State → Type 0
    Left c r s' = Awaits (enter c j) a f older ⊎ (HasEnded (enter c j) a (f + j.wait) older × EndsSo a (f + j.wait) c s r s')

    firing_leaves : (t : ℕ) (r : Reply) (s' : State) → Does (Fire t) s r s' → first (rows (room s) (Fire t) k) ≡ None → Left (Fire t) r s'
    firing_leaves t r s' d q =
        let x = ruled_so (Fire t) s s' r d None q in
        let c = clear (rows (room s) (Fire t) k) q in
        subst (λ o. Awaits (enter_occurrence o j) a f older ⊎ (HasEnded (enter_occurrence o j) a (f + j.wait) older × EndsSo a (f + j.wait) (Fire t) s r s')) (same_occurrence w j sofar k old (Fire t) t (at_tick t j.clock k.clock old.clocks (not_early t k.clock c.0))) (go (earliest (dues_at k) t) refl c.1 x.reply x.view)
      where
        go : (o : Option Item) → earliest (dues_at k) t ≡ o → Clear (firing_rows (room s) k o) → r ≡ Done (order (Fire t) k) → Delivers (reports (Fire t) k) s.view s'.view → Awaits (enter_occurrence (fired t o) j) a f older ⊎ (HasEnded (enter_occurrence (fired t o) j) a (f + j.wait) older × EndsSo a (f + j.wait) (Fire t) s r s')
        go None p c reply view = absurd (differ (sym c.0))
        go (Some i) p c reply view = elim (fired_so w j sofar k old a f older aw t i p) [ inl y ↦ inl y | inr y ↦ inr (y.0, ends_so t r s' a (f + j.wait) i p y.1 reply view) ]

    pub until : (c : Call) (r : Reply) (s' : State) → Does c s r s' → f + j.wait ≤ call_at c j.clock → admitted r ≡ true → Left c r s'
    until (On t b x) r s' d over-now ok = absurd (only (On t b x) r s' d over-now ok)
    until (Fire t) r s' d over-now ok = go (first (rows (room s) (Fire t) k)) refl
      where
        go : (o : Option Refusal) → first (rows (room s) (Fire t) k) ≡ o → Left (Fire t) r s'
        go (Some n) q = absurd (not_admitted (ruled_so (Fire t) s s' r d (Some n) q).reply ok)
        go None q = firing_leaves t r s' d q
    until Take r s' d over-now ok = inl aw

    -- a firing is admitted, or lacks a place
    abbrev Lacks : ℕ → Type 0
    Lacks t = (first (rows (room s) (Fire t) k) ≡ Some NoFreePlace) × (room s ≡ false)

    pub goes_or_lacks : (t : ℕ) → f + j.wait ≤ t → j.clock ≤ t → t ≤ last_tick → (first (rows (room s) (Fire t) k) ≡ None) ⊎ Lacks t
    goes_or_lacks t over-now on in_time =
        let clocks = old.clocks in
        let timely-so : (ltb last_tick t || ltb t k.clock) ≡ false = in_order last_tick t k.clock in_time (omega arith) in
        let due_now : f + w ≤ t = subst (λ n. f + n ≤ t) old.journal_wait over-now in
        let rest : first (rows (room s) (Fire t) k) ≡ first (firing_rows (room s) k (earliest (dues_at k) t)) = ap (λ b. cond b (Some Untimely) (first (firing_rows (room s) k (earliest (dues_at k) t)))) timely-so in
        elim (by_item due_now (earliest (dues_at k) t) refl) [ inl y ↦ inl (rest ∙ y) | inr y ↦ inr (rest ∙ y.0, y.1) ]
      where
        not_yet : (t d : ℕ) → d ≤ t → t < d → ⊥
        not_yet t d p q = omega arith

        by_item : f + w ≤ t → (o : Option Item) → earliest (dues_at k) t ≡ o → (first (firing_rows (room s) k o) ≡ None) ⊎ ((first (firing_rows (room s) k o) ≡ Some NoFreePlace) × (room s ≡ false))
        by_item due_now None q = let l = there w j sofar k old a f older aw in absurd (not_yet t (f + w) due_now (none_picked (dues_at k) t (ap is_some q) a ConfirmationLimit (f + w) l.address_ok l.limit_is))
        by_item due_now (Some i) q = by_place (timer_reports i.timer (k.at i.address)) (room s)
          where
            by_place : (b z : Bool) → (cond (b && not z) (Some NoFreePlace) None ≡ None) ⊎ ((cond (b && not z) (Some NoFreePlace) None ≡ Some NoFreePlace) × (z ≡ false))
            by_place true true = inl refl
            by_place true false = inr (refl, refl)
            by_place false z = inl refl

    pub goes : (t : ℕ) (r : Reply) (s' : State) → Does (Fire t) s r s' → f + j.wait ≤ t → j.clock ≤ t → t ≤ last_tick → 0 < s.view.free → admitted r ≡ true
    goes t r s' d over-now on in_time place = elim (goes_or_lacks t over-now on in_time) [ inl q ↦ ap admitted (ruled_so (Fire t) s s' r d None q).reply | inr q ↦ absurd (differ (sym q.1 ∙ of_some s.view.free place)) ]

  -- a repeat alters no connection and no entry
  repeat_entries : (t : ℕ) (a b : Address) (z : Bool) → (feed_one j (On t a Repeat, z)).entries b ≡ j.entries b
  repeat_entries t a b false = refl
  repeat_entries t a b true = ap (λ l. put j.entries a l b) (unmoved (j.entries a)) ∙ put_same j.entries a b
    where
      unmoved : (l : List Entry) → on_newest (λ e. e) l ≡ l
      unmoved [] = refl
      unmoved (e ∷ es) = refl

  repeat_core : (t : ℕ) (a b : Address) (o : Option Refusal) → (ruled (On t a Repeat) k o).core.at b ≡ k.at b
  repeat_core t a b (Some n) = refl
  repeat_core t a b None = put_same k.at a b

  pub repeats : (t : ℕ) (r : Reply) (s' : State) (a : Address) → Does (On t a Repeat) s r s' → (b : Address) → (s'.core.at b ≡ k.at b) × ((feed_one j (On t a Repeat, admitted r)).entries b ≡ j.entries b)
  repeats t r s' a d b = (ap (λ (y : Core). y.at b) d.core ∙ repeat_core t a b (first (rows (room s) (On t a Repeat) k)), repeat_entries t a b (admitted r))
