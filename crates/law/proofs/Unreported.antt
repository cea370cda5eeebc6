-- What befalls a connection without a report leaves all in agreement. Assumes nothing.
use Rattle.std.proofs.Common.{◌≡◌, ℕ, suc, ◌+◌, ◌-◌, ◌<◌, ◌≤◌, max, Bool, true, false, leb, List, ◌∷◌, length, is_some as option_is_some, Some, None, Option, sym, refl, ap, ◌∙◌, subst, add-one, arith}
use Rattle.std.specs.Option.{option_map}
use Rattle.std.proofs.lemmas.Bool.Decides.{nat_tests}
use Rattle.report.specs.Limits.{tariffs}
use Rattle.account.specs.Rule.{Account, opened, Slot}
use Rattle.rules.specs.declared.call.Instruction.{Instruction}
use Rattle.rules.specs.declared.call.Advice.{Advice}
use Rattle.rules.specs.declared.call.Operation.TheVariants.{Continue, Instruct, Advise, Answer, Confirm, Repeat}
use Rattle.rules.specs.declared.connection.Period.{Period}
use Rattle.rules.specs.declared.due.Timer.TheVariants.{TariffSwitch, AdviceSwitch, Sound}
use Rattle.rules.specs.declared.due.Dues.{Dues}
use Rattle.rules.specs.declared.connection.Stage.{Stage}
use Rattle.rules.specs.declared.connection.Stage.TheVariants.{Consultation, Waiting, Answered}
use Rattle.rules.specs.declared.connection.Meter.{Meter}
use Rattle.rules.specs.declared.connection.Connection.{Connection}
use Rattle.rules.specs.Ranges.{seconds_fit}
use Rattle.rules.specs.Changes.{period_of, fresh, continued, instructed, advised, answered, confirmed, switched, changed_over, sounded, terms_of}
use Rattle.rules.specs.Periods.{switch_due, dues_answered, dues_instructed, dues_advised, dues_confirmed, dues_switched, dues_changed, dues_sounded, Terms}
use Rattle.rules.specs.Times.{counts_from, interval_at}
use Rattle.rules.specs.Core.{answered_at}
use Rattle.rules.specs.Rows.{consulting, waits}
use Rattle.law.specs.Journal.{Entry, new_entry, noted_operation, noted_timer, on_newest, newest}
use Rattle.rules.specs.Limits.{longest_switch}
use Rattle.invariants.proofs.Basics.{differ, none_some, some_same, and_left}
use Rattle.law.proofs.Tallies.{Metered, switch, Kept, Phase, level, early, behind, kept_switch, early_list, NoLater, is_some, at_first, at_answer}
use Rattle.law.proofs.Agreement.{metered_of, Opened, SinceAnswer, Unanswered, Timing, Alike, Live, Idle}

pub consulted : (st : Stage) → consulting st ≡ true → answered_at st ≡ None
consulted Consultation e = refl
consulted Waiting e = refl
consulted (Answered t) e = absurd (differ e)

pub waited : (st : Stage) → waits st ≡ true → answered_at st ≡ None
waited Consultation e = refl
waited Waiting e = refl
waited (Answered t) e = absurd (differ e)

unspent : {ss : List ℕ} {a e0 : ℕ} {c : Metered} {acc : Account} → Phase ss a e0 false c acc → c.interval ≡ None
unspent (level none p q r) = none
unspent (early none p q r u sp) = none
unspent (behind s rest p q r u v x sp) = absurd (differ sp)

-- an instruction
limit_gone : (answer previous : Option ℕ) (t : ℕ) (i : Instruction) (d : Dues) → (dues_instructed answer previous t i d).limit ≡ None
limit_gone None p t i d = refl
limit_gone (Some a) p t i d = refl

asked : (t n k : ℕ) (spent : Bool) (y : Option ℕ) → n ≤ t → seconds_fit y ≡ true → spent ≡ false → (option_is_some y ≡ true → k + 1 < tariffs) → (d : ℕ) → option_map (switch_due t) y ≡ Some d → (n < d) × (spent ≡ false) × (k + 1 < tariffs)
asked t n k spent None h fit sp few d e = absurd (none_some e)
asked t n k spent (Some y) h fit sp few d e =
    let z = some_same e in
    let l = and_left (leb 1 y) (leb y longest_switch) fit in
    let pos : 1 ≤ y = grind (arith, nat_tests) in
    (omega arith, sp, few refl)

is_some_none : (p : Option ℕ) → p ≡ None → is_some p ≡ true → ⊥
is_some_none None e h = differ h
is_some_none (Some x) e h = let w : ◌≡◌ {A = ℕ} 0 1 = cc in omega arith

instruct_timing : (answer previous : Option ℕ) (k t : ℕ) (i : Instruction) (d : Dues) (period : Option Period) (m : Meter) (ss : List ℕ) (reported : Option ℕ) (o : Option Account) → option_is_some period ≡ false → seconds_fit i.switch ≡ true → (option_is_some i.switch ≡ true → m.switches + 1 < tariffs) → Timing answer k d.tariff d.end d.limit period m ss reported o t → Timing answer k (dues_instructed answer previous t i d).tariff (dues_instructed answer previous t i d).end (dues_instructed answer previous t i d).limit (Some (period_of t i)) (record { switches = m.switches; last = m.last; interval = None }) ss reported o t
instruct_timing None previous k t i d period m ss reported o shut fit few x = record {
  none_sent = x.none_sent;
  no_account = x.no_account;
  none_shown = x.none_shown;
  no_end = refl;
  no_limit = refl;
  no_interval = refl;
  before = x.before;
  switches_are = x.switches_are;
  counts = x.counts;
  last_is = x.last_is;
  past = x.past;
  spent = λ s. absurd (is_some_none x.before (x.idle shut).0 s);
  idle = λ e. absurd (differ (sym e));
}
instruct_timing (Some a) previous k t i d period m ss reported o shut fit few x =
    let q = x.pending.quiet shut in
    let old : Kept ss a x.e0 x.n false (metered_of a m) x.acc = subst (λ b. Kept ss a x.e0 x.n b (metered_of a m) x.acc) q.0 x.sofar in
    let none : m.interval ≡ None = unspent old.phase in
    let new : Kept ss a x.e0 x.n false (record { count = m.switches; base = counts_from a m.last; interval = None }) x.acc = subst (λ y. Kept ss a x.e0 x.n false (record { count = m.switches; base = counts_from a m.last; interval = y }) x.acc) none old in
    record {
      e0 = x.e0;
      n = x.n;
      acc = x.acc;
      spent = false;
      sofar = new;
      past = x.past;
      account = x.account;
      pending = record {
        switch_on = asked t x.n m.switches false i.switch x.past fit refl few;
        end_on = λ p e. let z = some_same e in let h = x.past in (omega arith, refl);
        quiet = λ e. absurd (differ (sym e));
        limit_on = λ p e. absurd (none_some e);
      };
    }

-- an answer
count_before : (p : Option ℕ) → is_some p ≡ false → length (early_list p) ≡ 0
count_before None e = refl
count_before (Some x) e = absurd (differ (sym e))

base_before : (p : Option ℕ) (t : ℕ) → NoLater t p → counts_from t p ≡ t
base_before None t l = omega arith
base_before (Some x) t l = omega arith

not_some : (b : Bool) → (b ≡ true → ⊥) → b ≡ false
not_some true h = absurd (h refl)
not_some false h = refl

first_account : (k : ℕ) (o : Option Account) (reported : Option ℕ) (t : ℕ) → k ≡ 0 → o ≡ None → reported ≡ None → Opened k opened o reported t
first_account k o reported t z p q = subst (λ n. Opened n opened o reported t) (sym z) (p, refl, q)

metered_at_first : (m : Meter) (p : Option ℕ) (t : ℕ) → NoLater t p → m.switches ≡ length (early_list p) → m.last ≡ p → m.interval ≡ None → at_first t p ≡ metered_of t m
metered_at_first m p t l c q n =
    let b : t ≡ counts_from t m.last = sym (base_before p t l) ∙ ap (counts_from t) (sym q) in
    ap (λ k. record { count = k; base = t; interval = None }) (sym c)
    ∙ ap (λ k. record { count = m.switches; base = k; interval = None }) b
    ∙ ap (λ k. record { count = m.switches; base = counts_from t m.last; interval = k }) (sym n)

answer_kept : (m : Meter) (ss : List ℕ) (p : Option ℕ) (t : ℕ) → ss ≡ early_list p → NoLater t p → m.switches ≡ length (early_list p) → m.last ≡ p → m.interval ≡ None → Kept ss t t t (is_some p) (metered_of t m) opened
answer_kept m ss p t s l c q n = subst (λ ss. Kept ss t t t (is_some p) (metered_of t m) opened) (sym s) (subst (λ k. Kept (early_list p) t t t (is_some p) k opened) (metered_at_first m p t l c q n) (at_answer t p l))

module _ (k t : ℕ) (tariff end limit : Option ℕ) (period : Option Period) (m : Meter) (ss : List ℕ) (reported : Option ℕ) (o : Option Account) (x : Unanswered k tariff end limit period m ss reported o t) where
  answer_switch : ((d : ℕ) → tariff ≡ Some d → t < d) → (d : ℕ) → tariff ≡ Some d → (t < d) × (is_some x.before ≡ false) × (m.switches + 1 < tariffs)
  answer_switch on d e =
      let f : is_some x.before ≡ false = not_some (is_some x.before) (λ s. none_some (sym (x.spent s) ∙ e)) in
      let c = count_before x.before f in
      let c' = x.counts in
      (on d e, f, omega arith)

  answer_quiet : option_is_some period ≡ false → (is_some x.before ≡ false) × (tariff ≡ None)
  answer_quiet e = let i = x.idle e in (ap is_some i.0, i.1)

answer_timing : (k t : ℕ) (d : Dues) (period : Option Period) (m : Meter) (ss : List ℕ) (reported : Option ℕ) (o : Option Account) → ((q : ℕ) → d.tariff ≡ Some q → t < q) → Unanswered k d.tariff d.end d.limit period m ss reported o t → SinceAnswer k (dues_answered t (option_map terms_of period) d).tariff (dues_answered t (option_map terms_of period) d).end (dues_answered t (option_map terms_of period) d).limit period m ss reported o t t
answer_timing k t d None m ss reported o on x = record {
  e0 = t;
  n = t;
  acc = opened;
  spent = is_some x.before;
  sofar = answer_kept m ss x.before t x.switches_are x.past x.counts x.last_is x.no_interval;
  past = omega arith;
  pending = record {
    switch_on = answer_switch k t d.tariff d.end d.limit None m ss reported o x on;
    end_on = λ p e. absurd (none_some (sym x.no_end ∙ e));
    quiet = answer_quiet k t d.tariff d.end d.limit None m ss reported o x;
    limit_on = λ q e. absurd (none_some (sym x.no_limit ∙ e));
  };
  account = first_account k o reported t x.none_sent x.no_account x.none_shown;
}
answer_timing k t d (Some p) m ss reported o on x = record {
  e0 = t;
  n = t;
  acc = opened;
  spent = is_some x.before;
  sofar = answer_kept m ss x.before t x.switches_are x.past x.counts x.last_is x.no_interval;
  past = omega arith;
  pending = record {
    switch_on = answer_switch k t d.tariff d.end d.limit (Some p) m ss reported o x on;
    end_on = λ q e. let z = some_same e in (omega arith, refl);
    quiet = answer_quiet k t d.tariff d.end d.limit (Some p) m ss reported o x;
    limit_on = λ q e. absurd (none_some (sym x.no_limit ∙ e));
  };
  account = first_account k o reported t x.none_sent x.no_account x.none_shown;
}

limit_kept : (t : ℕ) (p : Option Terms) (d : Dues) → (dues_answered t p d).limit ≡ d.limit
limit_kept t None d = refl
limit_kept t (Some p) d = refl

-- a tariff switch
early_none : (p : Option ℕ) → is_some p ≡ false → p ≡ None
early_none None e = refl
early_none (Some x) e = absurd (differ (sym e))

switch_base : (a b d : ℕ) (m : Meter) → a ≤ d → switch d (metered_of a m) ≡ metered_of a (record { switches = m.switches + 1; last = Some d; interval = interval_at (Some a) m.last d })
switch_base a b d m h = let q : d ≡ max a d = omega arith in ap (λ k. record { count = m.switches + 1; base = k; interval = Some (d - counts_from a m.last) }) q

switch_timing : (answer : Option ℕ) (k t q : ℕ) (d : Dues) (period : Option Period) (m : Meter) (ss : List ℕ) (reported : Option ℕ) (o : Option Account) → d.tariff ≡ Some q → q ≤ t → ((p : ℕ) → d.end ≡ Some p → q ≤ p) → ((p : ℕ) → d.limit ≡ Some p → q ≤ p) → Timing answer k d.tariff d.end d.limit period m ss reported o t → Timing answer k None d.end d.limit period (record { switches = m.switches + 1; last = Some q; interval = interval_at answer m.last q }) (q ∷ ss) reported o t
switch_timing None k t q d period m ss reported o due on ends limits x =
    let f : is_some x.before ≡ false = not_some (is_some x.before) (λ s. none_some (sym (x.spent s) ∙ due)) in
    let b = early_none x.before f in
    record {
      none_sent = x.none_sent;
      no_account = x.no_account;
      none_shown = x.none_shown;
      no_end = x.no_end;
      no_limit = x.no_limit;
      no_interval = refl;
      before = Some q;
      switches_are = ap (λ l. q ∷ l) (x.switches_are ∙ ap early_list b);
      counts = (let c = x.counts in let z = count_before x.before f in omega arith);
      last_is = refl;
      past = on;
      spent = λ s. refl;
      idle = λ e. absurd (none_some (sym (x.idle e).1 ∙ due));
    }
switch_timing (Some a) k t q d period m ss reported o due on ends limits x =
    let free = x.pending.switch_on q due in
    let old : Kept ss a x.e0 x.n false (metered_of a m) x.acc = subst (λ b. Kept ss a x.e0 x.n b (metered_of a m) x.acc) free.1 x.sofar in
    let h : a ≤ q = let u = old.late in let v = old.on in let w = free.0 in late_enough a (counts_from a m.last) x.n q u v w in
    record {
      e0 = x.e0;
      n = q;
      acc = x.acc;
      spent = true;
      past = on;
      account = x.account;
      sofar = subst (λ c. Kept (q ∷ ss) a x.e0 q true c x.acc) (switch_base a a q m h) (kept_switch ss a x.e0 x.n q (metered_of a m) x.acc old free.0 free.2 old.phase);
      pending = record {
        switch_on = λ p e. absurd (none_some e);
        end_on = λ p e. (ends p e, (x.pending.end_on p e).1);
        quiet = λ e. absurd (none_some (sym (x.pending.quiet e).1 ∙ due));
        limit_on = λ p e. (limits p e, (x.pending.limit_on p e).1);
      };
    }
  where
    late_enough : (a b n q : ℕ) → a ≤ b → b ≤ n → n < q → a ≤ q
    late_enough a b n q u v w = omega arith

-- a confirmation
confirm_timing : (answer : Option ℕ) (k t : ℕ) (d : Dues) (period : Option Period) (m : Meter) (ss : List ℕ) (reported : Option ℕ) (o : Option Account) → Timing answer k d.tariff d.end d.limit period m ss reported o t → Timing answer k d.tariff d.end None period m ss reported o t
confirm_timing None k t d period m ss reported o x = record { none_sent = x.none_sent; no_account = x.no_account; none_shown = x.none_shown; no_end = x.no_end; no_limit = refl; no_interval = x.no_interval; before = x.before; switches_are = x.switches_are; counts = x.counts; last_is = x.last_is; past = x.past; spent = x.spent; idle = x.idle }
confirm_timing (Some a) k t d period m ss reported o x = record { e0 = x.e0; n = x.n; acc = x.acc; spent = x.spent; sofar = x.sofar; past = x.past; account = x.account; pending = record { switch_on = x.pending.switch_on; end_on = x.pending.end_on; quiet = x.pending.quiet; limit_on = λ q e. absurd (none_some e) } }

module _ (w : ℕ) (c : Connection) (es : List Entry) (s : Slot) (t : ℕ) (old : Live w c es s t) where
  goes_on : (f : Entry → Entry) (c' : Connection) → (f old.entry).ended ≡ None → Alike w c' (f old.entry) s.open_at t → Live w c' (on_newest f es) s t
  goes_on f c' u x = record { entry = f old.entry; older = old.older; newest_is = ap (on_newest f) old.newest_is; closed_is = old.closed_is; older_reported = old.older_reported; unended = u; alike = x }

  pub on_continue : consulting c.stage ≡ true → Live w (continued c) (on_newest (noted_operation Continue t) es) s t
  on_continue here =
      let x = old.alike in
      let none = consulted c.stage here in
      goes_on (noted_operation Continue t) (continued c) old.unended (record {
        dues_same = x.dues_same;
        period_same = x.period_same;
        previous_same = x.previous_same;
        had_same = x.had_same;
        answer_same = sym none ∙ x.answer_same;
        limit_same = x.limit_same;
        timing = subst (λ y. Timing y c.sent c.dues.tariff c.dues.end c.dues.limit c.grant.period c.meter old.entry.switches old.entry.reported s.open_at t) none x.timing;
      })

  pub on_advise : (v : Advice) → Live w (advised t v c) (on_newest (noted_operation (Advise v) t) es) s t
  on_advise v =
      let x = old.alike in
      goes_on (noted_operation (Advise v) t) (advised t v c) old.unended (record {
        dues_same = ap (dues_advised t v.second) x.dues_same;
        period_same = x.period_same;
        previous_same = x.previous_same;
        had_same = x.had_same;
        answer_same = x.answer_same;
        limit_same = x.limit_same;
        timing = x.timing;
      })

  pub on_change : (d : ℕ) → Live w (changed_over c) (on_newest (noted_timer w AdviceSwitch d t) es) s t
  on_change d =
      let x = old.alike in
      goes_on (noted_timer w AdviceSwitch d t) (changed_over c) old.unended (record {
        dues_same = ap dues_changed x.dues_same;
        period_same = x.period_same;
        previous_same = x.previous_same;
        had_same = x.had_same;
        answer_same = x.answer_same;
        limit_same = x.limit_same;
        timing = x.timing;
      })

  pub on_sound : (d : ℕ) → Live w (sounded c) (on_newest (noted_timer w Sound d t) es) s t
  on_sound d =
      let x = old.alike in
      goes_on (noted_timer w Sound d t) (sounded c) old.unended (record {
        dues_same = ap dues_sounded x.dues_same;
        period_same = x.period_same;
        previous_same = x.previous_same;
        had_same = x.had_same;
        answer_same = x.answer_same;
        limit_same = x.limit_same;
        timing = x.timing;
      })

  pub on_repeat : Live w c (on_newest (noted_operation Repeat t) es) s t
  on_repeat = goes_on (noted_operation Repeat t) c old.unended old.alike

  pub on_confirm : (n : ℕ) → Live w (confirmed c) (on_newest (noted_operation (Confirm n) t) es) s t
  on_confirm n =
      let x = old.alike in
      goes_on (noted_operation (Confirm n) t) (confirmed c) old.unended (record {
        dues_same = ap dues_confirmed x.dues_same;
        period_same = x.period_same;
        previous_same = x.previous_same;
        had_same = x.had_same;
        answer_same = x.answer_same;
        limit_same = refl;
        timing = confirm_timing (answered_at c.stage) c.sent t c.dues c.grant.period c.meter old.entry.switches old.entry.reported s.open_at x.timing;
      })

  pub on_instruct : (i : Instruction) → option_is_some c.grant.period ≡ false → seconds_fit i.switch ≡ true → (option_is_some i.switch ≡ true → c.meter.switches + 1 < tariffs) → Live w (instructed t i c) (on_newest (noted_operation (Instruct i) t) es) s t
  on_instruct i shut fit few =
      let x = old.alike in
      let e = old.entry in
      goes_on (noted_operation (Instruct i) t) (instructed t i c) old.unended (record {
        dues_same = ap (λ y. dues_instructed y c.grant.previous t i c.dues) x.answer_same ∙ ap (λ y. dues_instructed e.answer y t i c.dues) x.previous_same ∙ ap (λ y. dues_instructed e.answer (newest e.ends) t i y) x.dues_same;
        period_same = refl;
        previous_same = x.previous_same;
        had_same = add-one c.grant.had ∙ ap suc x.had_same;
        answer_same = x.answer_same;
        limit_same = limit_gone (answered_at c.stage) c.grant.previous t i c.dues;
        timing = instruct_timing (answered_at c.stage) c.grant.previous c.sent t i c.dues c.grant.period c.meter e.switches e.reported s.open_at shut fit few x.timing;
      })

  pub on_answer : waits c.stage ≡ true → ((q : ℕ) → c.dues.tariff ≡ Some q → t < q) → Live w (answered t c) (on_newest (noted_operation Answer t) es) s t
  on_answer here on =
      let x = old.alike in
      let e = old.entry in
      let unanswered : Unanswered c.sent c.dues.tariff c.dues.end c.dues.limit c.grant.period c.meter e.switches e.reported s.open_at t = subst (λ y. Timing y c.sent c.dues.tariff c.dues.end c.dues.limit c.grant.period c.meter e.switches e.reported s.open_at t) (waited c.stage here) x.timing in
      goes_on (noted_operation Answer t) (answered t c) old.unended (record {
        dues_same = ap (λ y. dues_answered t y c.dues) x.period_same ∙ ap (λ y. dues_answered t e.period y) x.dues_same;
        period_same = x.period_same;
        previous_same = x.previous_same;
        had_same = x.had_same;
        answer_same = refl;
        limit_same = limit_kept t (option_map terms_of c.grant.period) c.dues ∙ x.limit_same;
        timing = answer_timing c.sent t c.dues c.grant.period c.meter e.switches e.reported s.open_at on unanswered;
      })

  pub on_switch : (d : ℕ) → c.dues.tariff ≡ Some d → d ≤ t → ((p : ℕ) → c.dues.end ≡ Some p → d ≤ p) → ((p : ℕ) → c.dues.limit ≡ Some p → d ≤ p) → Live w (switched d c) (on_newest (noted_timer w TariffSwitch d t) es) s t
  on_switch d due on ends limits =
      let x = old.alike in
      let e = old.entry in
      goes_on (noted_timer w TariffSwitch d t) (switched d c) old.unended (record {
        dues_same = ap dues_switched x.dues_same;
        period_same = x.period_same;
        previous_same = x.previous_same;
        had_same = x.had_same;
        answer_same = x.answer_same;
        limit_same = x.limit_same;
        timing = switch_timing (answered_at c.stage) c.sent t d c.dues c.grant.period c.meter e.switches e.reported s.open_at due on ends limits x.timing;
      })

-- a new connection
pub on_set_up : (w : ℕ) (es : List Entry) (s : Slot) (t : ℕ) → Idle es s → Live w fresh (new_entry ∷ es) s t
on_set_up w es s t g = record {
  entry = new_entry;
  older = es;
  newest_is = refl;
  closed_is = g.closed_is;
  older_reported = g.all_reported;
  unended = refl;
  alike = record {
    dues_same = refl;
    period_same = refl;
    previous_same = refl;
    had_same = refl;
    answer_same = refl;
    limit_same = refl;
    timing = record { none_sent = refl; no_account = g.none_open; none_shown = refl; no_end = refl; no_limit = refl; no_interval = refl; before = None; switches_are = refl; counts = refl; last_is = refl; past = tt; spent = λ _. refl; idle = λ _. (refl, refl) };
  };
}
