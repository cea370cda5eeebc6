-- What befalls a connection with a report: the account takes it, and all agree again. Assumes nothing.
use Rattle.std.proofs.Common.{◌≡◌, ℕ, zero, suc, ◌+◌, ◌<◌, ◌≤◌, Bool, true, false, cond, eqb, leb, List, [], ◌∷◌, length, is_some, Some, None, Ok, Err, Option, sym, refl, ap, ◌∙◌, subst, arith}
use mathlib.Core.Path.{fun_ext}
use Rattle.std.proofs.lemmas.Bool.Decides.{nat_tests}
use Rattle.std.specs.Option.{option_map}
use Rattle.report.specs.declared.report.Address.{Address}
use Rattle.report.specs.declared.report.Elapsed.{Elapsed}
use Rattle.report.specs.declared.report.Standing.{Standing}
use Rattle.report.specs.declared.report.Standing.TheVariants.{Active, Released}
use Rattle.report.specs.declared.report.Report.{Report}
use Rattle.report.specs.Lawful.{same, is_active, lawful}
use Rattle.report.specs.declared.refusal.Refusal.TheVariants.{OutOfRange, AccountRule, AccountsFull}
use Rattle.report.specs.Limits.{tariffs, open_accounts}
use Rattle.account.specs.Rule.{Account, opened, read, Slot, Book, many, is_open, numbered, settled, written, going_on, opening, by_open, read_one, total}
use Rattle.rules.specs.declared.connection.Period.{Period}
use Rattle.rules.specs.declared.due.Timer.TheVariants.{PeriodEnd}
use Rattle.rules.specs.declared.connection.Meter.{Meter}
use Rattle.rules.specs.declared.connection.Connection.{Connection}
use Rattle.rules.specs.Periods.{dues_closed}
use Rattle.rules.specs.Times.{time_at, elapsed_by}
use Rattle.rules.specs.Core.{answered_at}
use Rattle.rules.specs.Changes.{made, closed, releases, terms_of}
use Rattle.rules.specs.Reports.{listed}
use Rattle.law.specs.Journal.{Entry, enter_report, enter_end, to_be_released, noted_timer, on_newest, enter_release}
use Rattle.law.specs.Ticks.{answered_ticks, whole_time}
use Rattle.law.specs.Law.{Right, ShowsOne, Shows}
use Rattle.report.proofs.Addresses.{same_address}
use Rattle.invariants.proofs.Basics.{none_some, some_same}
use Rattle.invariants.proofs.Soundness.{SoundOne}
use Rattle.invariants.proofs.Fitness.{Repeatable, numbered_so}
use Rattle.law.proofs.Tallies.{reads, kept_report, early_list, total_right}
use Rattle.law.proofs.Agreement.{metered_of, Opened, SinceAnswer, Unanswered, Timing, figures, Live, Idle}

abbrev told : Option ℕ → Meter → ℕ → Elapsed
told answer m d = elapsed_by m.switches m.interval (time_at answer m.last d)

-- the next report as of d, as the account takes it
pub record Next (answer : Option ℕ) (k : ℕ) (m : Meter) (ss : List ℕ) (reported : Option ℕ) (o : Option Account) (d : ℕ) : Type 0 where
  pub e0 : ℕ
  pub acc : Account
  pub y : Account
  pub is_read : read (told answer m d) acc ≡ Some y
  pub ticks_are : (j : ℕ) → y.ticks j ≡ answered_ticks answer ss d j
  pub opens : Opened k acc o reported e0
  pub whole : total tariffs y.ticks ≡ whole_time answer d

next_answered : (k : ℕ) (tariff end limit : Option ℕ) (period : Option Period) (m : Meter) (ss : List ℕ) (reported : Option ℕ) (o : Option Account) (t a d : ℕ) (x : SinceAnswer k tariff end limit period m ss reported o t a) → x.n ≤ d → Next (Some a) k m ss reported o d
next_answered k tariff end limit period m ss reported o t a d x h =
    let r = reads ss a x.e0 x.n d x.spent (metered_of a m) x.acc x.sofar h x.sofar.phase in
    record {
      e0 = x.e0;
      acc = x.acc;
      y = r.0;
      is_read = r.1;
      ticks_are = r.3;
      opens = x.account;
      whole = total_right ss a d r.0.ticks (few_enough m.switches (length ss) x.sofar.counted x.sofar.few) r.3;
    }
  where
    few_enough : (k n : ℕ) → k ≡ n → k < tariffs → n < tariffs
    few_enough k n p q = omega arith

cond_zero : (b : Bool) → ◌≡◌ {A = ℕ} (cond b 0 0) 0
cond_zero true = refl
cond_zero false = refl

total_zero : (n : ℕ) (f : ℕ → ℕ) → ((j : ℕ) → f j ≡ 0) → total n f ≡ 0
total_zero zero f h = refl
total_zero (suc n) f h = let ih = total_zero n f h in let z = h (suc n) in omega arith

unanswered_read : (p : Option ℕ) → (y : Account) × (read (elapsed_by (length (early_list p)) None 0) opened ≡ Some y) × ((j : ℕ) → y.ticks j ≡ 0)
unanswered_read None = (_, refl, λ j. cond_zero (eqb j 1))
unanswered_read (Some q) = (_, refl, λ j. cond_zero (eqb j 2))

none_opened : (k : ℕ) (o : Option Account) (reported : Option ℕ) → k ≡ 0 → o ≡ None → reported ≡ None → Opened k opened o reported 0
none_opened k o reported z p q = subst (λ n. Opened n opened o reported 0) (sym z) (p, refl, q)

next_unanswered : (k : ℕ) (tariff end limit : Option ℕ) (period : Option Period) (m : Meter) (ss : List ℕ) (reported : Option ℕ) (o : Option Account) (t d : ℕ) → Unanswered k tariff end limit period m ss reported o t → Next None k m ss reported o d
next_unanswered k tariff end limit period m ss reported o t d x =
    let r = unanswered_read x.before in
    let is : elapsed_by (length (early_list x.before)) None 0 ≡ told None m d = ap (λ n. elapsed_by n None 0) (sym x.counts) ∙ ap (λ i. elapsed_by m.switches i 0) (sym x.no_interval) in
    record {
      e0 = 0;
      acc = opened;
      y = r.0;
      is_read = subst (λ e. read e opened ≡ Some r.0) is r.1;
      ticks_are = r.2;
      opens = none_opened k o reported x.none_sent x.no_account x.none_shown;
      whole = total_zero tariffs r.0.ticks r.2;
    }

abbrev pub OnTime : (answer : Option ℕ) (k : ℕ) (tariff end limit : Option ℕ) (period : Option Period) (m : Meter) (ss : List ℕ) (reported : Option ℕ) (o : Option Account) (t d : ℕ) → Timing answer k tariff end limit period m ss reported o t → Type 0
OnTime None k tariff end limit period m ss reported o t d x = Unit {0}
OnTime (Some a) k tariff end limit period m ss reported o t d x = x.n ≤ d

pub next_of : (answer : Option ℕ) (k : ℕ) (tariff end limit : Option ℕ) (period : Option Period) (m : Meter) (ss : List ℕ) (reported : Option ℕ) (o : Option Account) (t d : ℕ) (x : Timing answer k tariff end limit period m ss reported o t) → OnTime answer k tariff end limit period m ss reported o t d x → Next answer k m ss reported o d
next_of None k tariff end limit period m ss reported o t d x h = next_unanswered k tariff end limit period m ss reported o t d x
next_of (Some a) k tariff end limit period m ss reported o t d x h = next_answered k tariff end limit period m ss reported o t a d x h

-- at the call's own tick
pub on_time_now : (answer : Option ℕ) (k : ℕ) (tariff end limit : Option ℕ) (period : Option Period) (m : Meter) (ss : List ℕ) (reported : Option ℕ) (o : Option Account) (t : ℕ) (x : Timing answer k tariff end limit period m ss reported o t) → OnTime answer k tariff end limit period m ss reported o t t x
on_time_now None k tariff end limit period m ss reported o t x = tt
on_time_now (Some a) k tariff end limit period m ss reported o t x = x.past

-- at the limit, and at the period end
pub on_time_limit : (answer : Option ℕ) (k : ℕ) (tariff end limit : Option ℕ) (period : Option Period) (m : Meter) (ss : List ℕ) (reported : Option ℕ) (o : Option Account) (t d : ℕ) → limit ≡ Some d → (x : Timing answer k tariff end limit period m ss reported o t) → OnTime answer k tariff end limit period m ss reported o t d x
on_time_limit None k tariff end limit period m ss reported o t d e x = tt
on_time_limit (Some a) k tariff end limit period m ss reported o t d e x = (x.pending.limit_on d e).0

pub on_time_end : (answer : Option ℕ) (k : ℕ) (tariff end limit : Option ℕ) (period : Option Period) (m : Meter) (ss : List ℕ) (reported : Option ℕ) (o : Option Account) (t d : ℕ) → end ≡ Some d → (x : Timing answer k tariff end limit period m ss reported o t) → OnTime answer k tariff end limit period m ss reported o t d x
on_time_end None k tariff end limit period m ss reported o t d e x = tt
on_time_end (Some a) k tariff end limit period m ss reported o t d e x = (x.pending.end_on d e).0

-- a period end needs an open period
pub end_open : (answer : Option ℕ) (k : ℕ) (tariff end limit : Option ℕ) (period : Option Period) (m : Meter) (ss : List ℕ) (reported : Option ℕ) (o : Option Account) (t d : ℕ) → end ≡ Some d → Timing answer k tariff end limit period m ss reported o t → is_some period ≡ true
end_open None k tariff end limit period m ss reported o t d e x = absurd (none_some (sym x.no_end ∙ e))
end_open (Some a) k tariff end limit period m ss reported o t d e x = (x.pending.end_on d e).1

-- after a period end
opened_next : (k : ℕ) (acc : Account) (d : ℕ) → acc.last ≡ k + 1 → Opened (k + 1) acc (Some acc) (Some d) d
opened_next k acc d l =
    let p : false ≡ eqb (k + 1) 0 = let q : eqb (k + 1) 0 ≡ false = grind (arith, nat_tests) in sym q in
    let o : Option Account = Some acc in
    let m : Option ℕ = Some d in
    subst (λ (b : Bool). cond b ((o ≡ None) × (acc ≡ opened) × (m ≡ None)) ((o ≡ Some acc) × (acc.last ≡ k + 1) × (m ≡ Some d))) p (refl, l, refl)

abbrev Closing : Option ℕ → ℕ → ℕ → ℕ → Meter → List ℕ → Option ℕ → Option Account → ℕ → Type 0
Closing answer k q d m ss reported o t = (nx : Next answer k m ss reported o d) × Timing answer (k + 1) None None (Some q) None (record { switches = m.switches; last = m.last; interval = None }) ss (Some d) (Some (numbered (k + 1) nx.y)) t

close_timing : (answer : Option ℕ) (k q : ℕ) (tariff end limit : Option ℕ) (period : Option Period) (m : Meter) (ss : List ℕ) (reported : Option ℕ) (o : Option Account) (t d : ℕ) → end ≡ Some d → d ≤ t → t ≤ q → Timing answer k tariff end limit period m ss reported o t → Closing answer k q d m ss reported o t
unfolding next_answered
close_timing None k q tariff end limit period m ss reported o t d e on wait x = absurd (none_some (sym x.no_end ∙ e))
close_timing (Some a) k q tariff end limit period m ss reported o t d e on wait x =
    let h = (x.pending.end_on d e).0 in
    let nx = next_answered k tariff end limit period m ss reported o t a d x h in
    let r = reads ss a x.e0 x.n d x.spent (metered_of a m) x.acc x.sofar h x.sofar.phase in (
      nx,
      record {
        e0 = d;
        n = d;
        acc = numbered (k + 1) r.0;
        spent = false;
        sofar = kept_report ss a x.e0 x.n d x.spent (metered_of a m) x.acc x.sofar h (numbered (k + 1) r.0) r.2 r.3;
        past = on;
        pending = record { switch_on = λ p z. absurd (none_some z); end_on = λ p z. absurd (none_some z); quiet = λ _. (refl, refl); limit_on = λ p z. let u = some_same z in (omega arith, refl) };
        account = opened_next k (numbered (k + 1) r.0) d refl;
      },
    )

-- a report that the account of its address takes
abbrev pub Taken : Address → Report → Slot → Slot → Type 0
Taken a r s s' = (b : Book) → b a ≡ s → (s.open_at ≡ None → many (is_open b) < open_accounts) → read_one r b ≡ Ok (written b a s')

is_one : (n k : ℕ) → n ≡ k + 1 → k ≡ 0 → eqb n 1 ≡ true
is_one n k p q = grind (arith, nat_tests)

is_not_last : (n k l : ℕ) → n ≡ k + 1 → l ≡ k → eqb n l ≡ false
is_not_last n k l p q = grind (arith, nat_tests)

is_one_up : (n k l : ℕ) → n ≡ k + 1 → l ≡ k → eqb n (l + 1) ≡ true
is_one_up n k l p q = grind (arith, nat_tests)

is_last : (n k l : ℕ) → n ≡ k → l ≡ k → eqb n l ≡ true
is_last n k l p q = grind (arith, nat_tests)

is_zero : (k : ℕ) → eqb k 0 ≡ true → k ≡ 0
is_zero k e = grind (arith, nat_tests)

less_leb : (n : ℕ) → n < open_accounts → leb open_accounts n ≡ false
less_leb n h = grind (arith, nat_tests)

module _ (a : Address) (r : Report) (k : ℕ) (acc y : Account) (s : Slot) (reported : Option ℕ) (e0 : ℕ) (here : r.address ≡ a) (number : r.number ≡ k + 1) (ok : lawful r ≡ true) (is_read : read r.elapsed acc ≡ Some y) (b : Book) (is : b a ≡ s) where
  at_slot : b r.address ≡ s
  at_slot = ap b here ∙ is

  begun : read_one r b ≡ by_open b r s.open_at
  begun = ap (λ q. cond q (by_open b r (b r.address).open_at) (Err OutOfRange)) ok ∙ ap (λ (x : Slot). by_open b r x.open_at) at_slot

  arrives : written b r.address (settled r (b r.address).closed y) ≡ written b a (settled r s.closed y)
  arrives = ap (λ x. written b x (settled r (b r.address).closed y)) here ∙ ap (λ (x : Slot). written b a (settled r x.closed y)) at_slot

  abbrev DoneSo : Type 0
  DoneSo = read_one r b ≡ Ok (written b a (settled r s.closed y))

  as_first : k ≡ 0 → s.open_at ≡ None → acc ≡ opened → many (is_open b) < open_accounts → DoneSo
  as_first z p q room =
      let one : eqb r.number 1 ≡ true = is_one r.number k number z in
      let fresh-read : read r.elapsed opened ≡ Some y = ap (read r.elapsed) (sym q) ∙ is_read in
      begun
      ∙ ap (by_open b r) p
      ∙ ap (λ x. cond x (opening b r (read r.elapsed opened)) (Err AccountRule)) one
      ∙ ap (opening b r) fresh-read
      ∙ ap (λ x. cond x (Err AccountsFull) (Ok (written b r.address (settled r (b r.address).closed y)))) (less_leb (many (is_open b)) room)
      ∙ ap Ok arrives

  as_next : s.open_at ≡ Some acc → acc.last ≡ k → DoneSo
  as_next p l =
      let other : eqb r.number acc.last ≡ false = is_not_last r.number k acc.last number l in
      let one_up : eqb r.number (acc.last + 1) ≡ true = is_one_up r.number k acc.last number l in
      begun
      ∙ ap (by_open b r) p
      ∙ ap (λ x. cond x (Ok b) (cond (eqb r.number (acc.last + 1)) (going_on b r (read r.elapsed acc)) (Err AccountRule))) other
      ∙ ap (λ x. cond x (going_on b r (read r.elapsed acc)) (Err AccountRule)) one_up
      ∙ ap (going_on b r) is_read
      ∙ ap Ok arrives

pub read_next : (a : Address) (r : Report) (k : ℕ) (acc y : Account) (s : Slot) (reported : Option ℕ) (e0 : ℕ) → r.address ≡ a → r.number ≡ k + 1 → lawful r ≡ true → Opened k acc s.open_at reported e0 → read r.elapsed acc ≡ Some y → Taken a r s (settled r s.closed y)
read_next a r k acc y s reported e0 here number ok opens is_read b is room = go (eqb k 0) refl opens
  where
    go : (z : Bool) → eqb k 0 ≡ z → cond z ((s.open_at ≡ None) × (acc ≡ opened) × (reported ≡ None)) ((s.open_at ≡ Some acc) × (acc.last ≡ k) × (reported ≡ Some e0)) → read_one r b ≡ Ok (written b a (settled r s.closed y))
    go true q h = as_first a r k acc y s reported e0 here number ok is_read b is (is_zero k q) h.0 h.1 (room h.0)
    go false q h = as_next a r k acc y s reported e0 here number ok is_read b is h.0 h.1

pub written_same : (b : Book) (a : Address) (s : Slot) → b a ≡ s → b ≡ written b a s
written_same b a s is = fun_ext (λ x. go x (same x a) refl)
  where
    go : (x : Address) (z : Bool) → same x a ≡ z → b x ≡ cond z s (b x)
    go x true q = ap b (same_address x a q) ∙ is
    go x false q = refl

-- a repeat is passed over
pub read_again : (a : Address) (r : Report) (k : ℕ) (acc : Account) (s : Slot) → Repeatable a k r → s.open_at ≡ Some acc → acc.last ≡ k → Taken a r s s
read_again a r k acc s x p l b is room =
    let n = x.is_newest in
    let same-one : eqb r.number acc.last ≡ true = is_last r.number k acc.last n l in
    ap (λ q. cond q (by_open b r (b r.address).open_at) (Err OutOfRange)) x.is_lawful
    ∙ ap (λ (y : Slot). by_open b r y.open_at) (ap b x.is_here ∙ is)
    ∙ ap (by_open b r) p
    ∙ ap (λ q. cond q (Ok b) (cond (eqb r.number (acc.last + 1)) (going_on b r (read r.elapsed acc)) (Err AccountRule))) same-one
    ∙ ap Ok (written_same b a s is)

-- a result of what befalls a connection
abbrev pub SentIn : Address → List Report → Slot → Slot → Type 0
SentIn a [] s s' = s' ≡ s
SentIn a (r ∷ rs) s s' = Taken a r s s' × (rs ≡ [])

nothing_sent : (answer : Option ℕ) (k : ℕ) (tariff end limit : Option ℕ) (period : Option Period) (m : Meter) (ss : List ℕ) (reported : Option ℕ) (o : Option Account) (t : ℕ) → k ≡ 0 → Timing answer k tariff end limit period m ss reported o t → (o ≡ None) × (reported ≡ None)
nothing_sent None k tariff end limit period m ss reported o t z x = (x.no_account, x.none_shown)
nothing_sent (Some a) k tariff end limit period m ss reported o t z x = let h : Opened 0 x.acc o reported x.e0 = subst (λ n. Opened n x.acc o reported x.e0) z x.account in (h.0, h.2)

-- an end by the release mark is entered as an end, with one period end more
released_idle : (d : ℕ) (e : Entry) (older : List Entry) (s : Slot) → eqb (length e.instructions) 0 ≡ false → Idle (enter_end d e ∷ older) s → Idle (enter_release d e ∷ older) s
released_idle d e older s some x =
    let reported-now : (enter_end d e).reported ≡ Some d = ap (λ b. cond b e.reported (Some d)) some in
    let shown : ShowsOne (figures s.closed) (enter_end d e) (λ rest. Shows rest older) (Some d) = subst (λ r. ShowsOne (figures s.closed) (enter_end d e) (λ rest. Shows rest older) r) reported-now x.closed_is in
    record {
      none_open = x.none_open;
      closed_is = (shown.0, shown.1, shown.2, record { each = shown.3.each; all = shown.3.all }, shown.4);
      all_reported = (λ t q _. q, x.all_reported.1);
      finished = refl;
      none_due_there = refl;
    }

module _ (w : ℕ) (a : Address) (c : Connection) (es : List Entry) (s : Slot) (t d : ℕ) (old : Live w c es s t) (g : SoundOne c) where
  abbrev OnTimeHere : Type 0
  OnTimeHere = OnTime (answered_at c.stage) c.sent c.dues.tariff c.dues.end c.dues.limit c.grant.period c.meter old.entry.switches old.entry.reported s.open_at t d old.alike.timing

  next_here : OnTimeHere → Next (answered_at c.stage) c.sent c.meter old.entry.switches old.entry.reported s.open_at d
  next_here h = next_of (answered_at c.stage) c.sent c.dues.tariff c.dues.end c.dues.limit c.grant.period c.meter old.entry.switches old.entry.reported s.open_at t d old.alike.timing h

  -- an end without an instruction sends nothing
  pub ends_without_report : eqb c.grant.had 0 ≡ true → Idle (on_newest (enter_end d) es) s
  ends_without_report none =
      let x = old.alike in
      let z : c.sent ≡ 0 = no_more c.sent c.grant.had none g.sent_had in
      let q = nothing_sent (answered_at c.stage) c.sent c.dues.tariff c.dues.end c.dues.limit c.grant.period c.meter old.entry.switches old.entry.reported s.open_at t z x.timing in
      let zero-had : eqb (length old.entry.instructions) 0 ≡ true = ap (λ n. eqb n 0) (sym x.had_same) ∙ none in
      let unreported : (enter_end d old.entry).reported ≡ None = ap (λ b. cond b old.entry.reported (Some d)) zero-had ∙ q.1 in
      subst (λ l. Idle (on_newest (enter_end d) l) s) (sym old.newest_is)
      (record {
        none_open = q.0;
        closed_is = subst (λ r. ShowsOne (figures s.closed) (enter_end d old.entry) (λ rest. Shows rest old.older) r) (sym unreported) old.closed_is;
        all_reported = (λ τ e some. absurd (still_none (length old.entry.instructions) zero-had some), old.older_reported);
        finished = refl;
        none_due_there = refl;
      })
    where
      no_more : (k n : ℕ) → eqb n 0 ≡ true → k ≤ n → k ≡ 0
      no_more k n e h = grind (arith, nat_tests)

      still_none : (n : ℕ) → eqb n 0 ≡ true → 0 < n → ⊥
      still_none n e h = grind (arith, nat_tests)

  -- a last report
  pub ends_with_report : (standing : Standing) → is_active standing ≡ false → eqb c.grant.had 0 ≡ false → lawful (made a d standing c) ≡ true → OnTimeHere → (s' : Slot) × Taken a (made a d standing c) s s' × Idle (on_newest (enter_end d) es) s'
  ends_with_report standing last some ok on =
      let x = old.alike in
      let e = old.entry in
      let nx = next_here on in
      let s' : Slot = record { open_at = None; closed = numbered (c.sent + 1) nx.y ∷ s.closed } in
      let lands : settled (made a d standing c) s.closed nx.y ≡ s' = ap (λ b. cond b (record { open_at = Some (numbered (c.sent + 1) nx.y); closed = s.closed }) s') last in
      let had-some : eqb (length e.instructions) 0 ≡ false = ap (λ n. eqb n 0) (sym x.had_same) ∙ some in
      let reported-now : (enter_end d e).reported ≡ Some d = ap (λ b. cond b e.reported (Some d)) had-some in
      let right : Right nx.y.ticks (enter_end d e) d = record {
        each = λ k. nx.ticks_are k ∙ ap (λ o. answered_ticks o e.switches d k) x.answer_same;
        all = λ τ q. let z = some_same q in (z, nx.whole ∙ ap (λ o. whole_time o d) x.answer_same ∙ ap (whole_time e.answer) z);
      } in (
        s',
        subst (Taken a (made a d standing c) s) lands (read_next a (made a d standing c) c.sent nx.acc nx.y s e.reported nx.e0 refl refl ok nx.opens nx.is_read),
        subst (λ l. Idle (on_newest (enter_end d) l) s') (sym old.newest_is)
            (record {
              none_open = refl;
              closed_is = subst (λ r. ShowsOne (figures s'.closed) (enter_end d e) (λ rest. Shows rest old.older) r) (sym reported-now) (nx.y.ticks, figures s.closed, refl, right, old.closed_is);
              all_reported = (λ τ q _. reported-now ∙ q, old.older_reported);
              finished = refl;
              none_due_there = refl;
            }),
      )

  -- a period end without the release mark
  same_release : (p : Option Period) → to_be_released (option_map terms_of p) ≡ releases p
  same_release None = refl
  same_release (Some p) = refl

  pub on_close : c.dues.end ≡ Some d → releases c.grant.period ≡ false → d ≤ t → lawful (made a d Active c) ≡ true → (s' : Slot) × Taken a (made a d Active c) s s' × Live w (closed a d (t + w) c) (on_newest (noted_timer w PeriodEnd d t) es) s' t
  on_close due kept on ok =
      let x = old.alike in
      let e = old.entry in
      let cl = close_timing (answered_at c.stage) c.sent (t + w) c.dues.tariff c.dues.end c.dues.limit c.grant.period c.meter e.switches e.reported s.open_at t d due on (omega arith) x.timing in
      let nx = cl.0 in
      let s' : Slot = record { open_at = Some (numbered (c.sent + 1) nx.y); closed = s.closed } in
      let noted_so : noted_timer w PeriodEnd d t e ≡ enter_report w d t e = ap (λ b. cond b (enter_release d e) (enter_report w d t e)) (ap to_be_released (sym x.period_same) ∙ same_release c.grant.period ∙ kept) in (
        s',
        read_next a (made a d Active c) c.sent nx.acc nx.y s e.reported nx.e0 refl refl ok nx.opens nx.is_read,
        record {
          entry = enter_report w d t e;
          older = old.older;
          newest_is = ap (on_newest (noted_timer w PeriodEnd d t)) old.newest_is ∙ ap (λ y. y ∷ old.older) noted_so;
          closed_is = old.closed_is;
          older_reported = old.older_reported;
          unended = old.unended;
          alike = record {
            dues_same = ap (dues_closed (t + w)) x.dues_same;
            period_same = refl;
            previous_same = refl;
            had_same = x.had_same;
            answer_same = x.answer_same;
            limit_same = refl;
            timing = cl.1;
          };
        },
      )

  -- a release at a period end
  pub on_release : c.dues.end ≡ Some d → releases c.grant.period ≡ true → eqb c.grant.had 0 ≡ false → lawful (made a d Released c) ≡ true → (s' : Slot) × Taken a (made a d Released c) s s' × Idle (on_newest (noted_timer w PeriodEnd d t) es) s'
  on_release due marked some ok =
      let x = old.alike in
      let e = old.entry in
      let on = on_time_end (answered_at c.stage) c.sent c.dues.tariff c.dues.end c.dues.limit c.grant.period c.meter e.switches e.reported s.open_at t d due x.timing in
      let r = ends_with_report Released refl some ok on in
      let had-some : eqb (length e.instructions) 0 ≡ false = ap (λ n. eqb n 0) (sym x.had_same) ∙ some in
      let noted_so : noted_timer w PeriodEnd d t e ≡ enter_release d e = ap (λ b. cond b (enter_release d e) (enter_report w d t e)) (ap to_be_released (sym x.period_same) ∙ same_release c.grant.period ∙ marked) in
      let lists : enter_release d e ∷ old.older ≡ on_newest (noted_timer w PeriodEnd d t) es = ap (λ y. y ∷ old.older) (sym noted_so) ∙ sym (ap (on_newest (noted_timer w PeriodEnd d t)) old.newest_is) in
      (r.0, r.1, subst (λ l. Idle l r.0) lists (released_idle d e old.older r.0 had-some (subst (λ l. Idle (on_newest (enter_end d) l) r.0) old.newest_is r.2)))

  -- a repeat
  repeated : (r : Report) → Repeatable a c.sent r → Taken a r s s
  repeated r g = go (answered_at c.stage) old.alike.timing (let n = numbered_so r g.is_lawful in let m = g.is_newest in omega arith)
    where
      some_eqb : (n : ℕ) → 0 < n → eqb n 0 ≡ false
      some_eqb n h = grind (arith, nat_tests)

      go : (answer : Option ℕ) → Timing answer c.sent c.dues.tariff c.dues.end c.dues.limit c.grant.period c.meter old.entry.switches old.entry.reported s.open_at t → 0 < c.sent → Taken a r s s
      go None y some = let z = y.none_sent in let f : ⊥ = omega arith in absurd f
      go (Some b) y some =
          let p : false ≡ eqb c.sent 0 = sym (some_eqb c.sent some) in
          let h : (s.open_at ≡ Some y.acc) × (y.acc.last ≡ c.sent) × (old.entry.reported ≡ Some y.e0) = subst (λ z. cond z ((s.open_at ≡ None) × (y.acc ≡ opened) × (old.entry.reported ≡ None)) ((s.open_at ≡ Some y.acc) × (y.acc.last ≡ c.sent) × (old.entry.reported ≡ Some y.e0))) (sym p) y.account in
          read_again a r c.sent y.acc s g h.0 h.1

  pub again_sent : (o : Option Report) → ((r : Report) → o ≡ Some r → Repeatable a c.sent r) → SentIn a (listed o) s s
  again_sent None g = refl
  again_sent (Some r) g = (repeated r (g r refl), refl)
