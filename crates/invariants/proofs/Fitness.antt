-- Every connection stays fit, and what it reports is within the frame's rules. Assumes nothing.
use Rattle.std.proofs.Common.{◌≡◌, ℕ, suc, ◌+◌, ◌-◌, ◌<◌, ◌≤◌, max, Bool, true, false, cond, ◌&&◌, ◌||◌, eqb, leb, List, [], ◌∷◌, is_some, Some, None, Option, sym, refl, ap, ◌∙◌, subst, arith}
use Rattle.std.specs.Option.{option_map}
use Rattle.std.proofs.lemmas.Bool.Decides.{nat_tests}
use Rattle.report.specs.declared.report.Address.{Address}
use Rattle.report.specs.declared.report.Elapsed.TheVariants.{Plain, Switched}
use Rattle.report.specs.declared.report.Standing.{Standing}
use Rattle.report.specs.declared.report.Standing.TheVariants.{Active, Ended, Released}
use Rattle.report.specs.declared.report.Report.{Report}
use Rattle.report.specs.declared.refusal.Refusal.{Refusal}
use Rattle.report.specs.Lawful.{within, lawful_address, same, or_zero, time_of, interval_of, counted, lawful}
use Rattle.report.specs.Limits.{last_tick, parties, report_numbers}
use Rattle.rules.specs.declared.call.Instruction.{Instruction}
use Rattle.rules.specs.declared.call.Operation.{Operation}
use Rattle.rules.specs.declared.call.Operation.TheVariants.{SetUp, Continue, Bar, Instruct, Advise, Answer, Disconnect, Confirm, Repeat}
use Rattle.rules.specs.declared.call.Call.{Call}
use Rattle.rules.specs.declared.call.Call.TheVariants.{On, Fire, Take}
use Rattle.rules.specs.declared.call.Reply.{Reply}
use Rattle.rules.specs.declared.due.Timer.{Timer}
use Rattle.rules.specs.declared.due.Timer.TheVariants.{TariffSwitch, AdviceSwitch, Sound, PeriodEnd, ConfirmationLimit}
use Rattle.rules.specs.declared.due.Item.{Item}
use Rattle.rules.specs.declared.due.Dues.{Dues}
use Rattle.rules.specs.declared.connection.Meter.{Meter}
use Rattle.rules.specs.declared.connection.Stage.{Stage}
use Rattle.rules.specs.declared.connection.Stage.TheVariants.{Consultation, Waiting, Answered}
use Rattle.rules.specs.declared.connection.Connection.{Connection}
use Rattle.rules.specs.Ranges.{fits, seconds_fit}
use Rattle.rules.specs.Periods.{Terms, switch_due, dues_answered, dues_instructed}
use Rattle.rules.specs.Times.{counts_from, time_at, interval_at, elapsed_by}
use Rattle.rules.specs.Dues.{due_of, earliest}
use Rattle.rules.specs.Occurrences.{fired}
use Rattle.rules.specs.Core.{Core, dues_in, dues_at, answered_at}
use Rattle.rules.specs.ByAddress.{put}
use Rattle.rules.specs.Changes.{terms_of, made, fresh, continued, instructed, answered, confirmed, switched, closed, releases, by_operation, by_timer}
use Rattle.rules.specs.Reports.{last_report, listed, awaited, by_operation_sent, by_timer_sent}
use Rattle.rules.specs.Rows.{consulting, operation_rows, firing_rows, rows, first}
use Rattle.rules.specs.Rules.{after, effect, reports, reports_of, ruled, rule}
use Rattle.rules.specs.Steps.{State, room, Does, Run, over, then}
use Rattle.rules.specs.Fit.{newest_tick, party_fits, interval_fits, at_least, dues_fit, awaiting_fits, fit, AllFit, StaysFit, Sendable, SendsLawful, fit_in, EachStaysFit}
use Rattle.rules.specs.Sound.{sound}
use Rattle.rules.specs.Limits.{longest_period, longest_switch}
use Rattle.report.proofs.Addresses.{same_address, same_self}
use Rattle.invariants.proofs.Basics.{differ, none_some, some_same, and_left, and_right, and_true, not_not, le_of, leb_of, le_through, in_range, not_early}
use Rattle.invariants.proofs.Earliest.{picked, none_picked}
use Rattle.invariants.proofs.Clear.{Clear, clear, SomeSent, operation_room, timer_room}
use Rattle.invariants.proofs.Soundness.{SoundOne, says, holds, IfSound, operation_sound, timer_sound, call_sound}

-- the same part by part: n is the newest tick
record Timed (clock n : ℕ) (interval tariff end limit : Option ℕ) : Type 0 where
  past : n ≤ clock
  interval_on : (i : ℕ) → interval ≡ Some i → (1 ≤ i) × (i ≤ n)
  switch_on : (d : ℕ) → tariff ≡ Some d → n < d
  end_on : (d : ℕ) → end ≡ Some d → n ≤ d
  limit_on : (d : ℕ) → limit ≡ Some d → n ≤ d

record Again (a : Address) (sent : ℕ) (limit : Option ℕ) (awaiting : Option Report) : Type 0 where
  alike : is_some limit ≡ is_some awaiting
  is_lawful : (r : Report) → awaiting ≡ Some r → lawful r ≡ true
  is_newest : (r : Report) → awaiting ≡ Some r → r.number ≡ sent
  is_here : (r : Report) → awaiting ≡ Some r → r.address ≡ a

record Rest (clock : ℕ) (a : Address) (c : Connection) : Type 0 where
  there : lawful_address a ≡ true
  party_ok : eqb c.grant.had 0 ≡ false → within 1 parties c.grant.party ≡ true
  times : Timed clock (newest_tick c) c.meter.interval c.dues.tariff c.dues.end c.dues.limit
  again : Again a c.sent c.dues.limit c.awaiting

-- to and from the tests
or_other : (a b : Bool) → (a || b) ≡ true → a ≡ false → b ≡ true
or_other true b e h = absurd (differ (sym h))
or_other false b e h = e

other_or : (a b : Bool) → (a ≡ false → b ≡ true) → (a || b) ≡ true
other_or true b h = refl
other_or false b h = h refl

least_of : (n : ℕ) (o : Option ℕ) → at_least n o ≡ true → (d : ℕ) → o ≡ Some d → n ≤ d
least_of n None e d q = absurd (none_some q)
least_of n (Some x) e d q = let z = some_same q in let l = le_of n x e in omega arith

of_least : (n : ℕ) (o : Option ℕ) → ((d : ℕ) → o ≡ Some d → n ≤ d) → at_least n o ≡ true
of_least n None h = refl
of_least n (Some x) h = leb_of n x (h x refl)

interval_says : (n : ℕ) (o : Option ℕ) → interval_fits n o ≡ true → (i : ℕ) → o ≡ Some i → (1 ≤ i) × (i ≤ n)
interval_says n None e i q = absurd (none_some q)
interval_says n (Some x) e i q =
    let z = some_same q in
    let l = le_of 1 x (and_left (leb 1 x) (leb x n) e) in
    let h = le_of x n (and_right (leb 1 x) (leb x n) e) in
    (omega arith, omega arith)

says_interval : (n : ℕ) (o : Option ℕ) → ((i : ℕ) → o ≡ Some i → (1 ≤ i) × (i ≤ n)) → interval_fits n o ≡ true
says_interval n None h = refl
says_interval n (Some x) h = and_true (leb_of 1 x (h x refl).0) (leb_of x n (h x refl).1)

same_number : (m n : ℕ) → eqb m n ≡ true → m ≡ n
same_number m n e = grind (arith, nat_tests)

number_same : (m n : ℕ) → m ≡ n → eqb m n ≡ true
number_same m n e = grind (arith, nat_tests)

no_again : (a : Address) (sent : ℕ) → Again a sent None None
no_again a sent = record { alike = refl; is_lawful = λ r q. absurd (none_some q); is_newest = λ r q. absurd (none_some q); is_here = λ r q. absurd (none_some q) }

again_says : (a : Address) (sent : ℕ) (l : Option ℕ) (o : Option Report) → awaiting_fits a sent l o ≡ true → Again a sent l o
again_says a sent None None e = no_again a sent
again_says a sent None (Some r) e = absurd (differ e)
again_says a sent (Some d) None e = absurd (differ e)
again_says a sent (Some d) (Some x) e =
    let both = and_left (lawful x && eqb x.number sent) (same x.address a) e in
    record {
      alike = refl;
      is_lawful = λ r q. subst (λ y. lawful y ≡ true) (some_same q) (and_left (lawful x) (eqb x.number sent) both);
      is_newest = λ r q. subst (λ (y : Report). y.number ≡ sent) (some_same q) (same_number x.number sent (and_right (lawful x) (eqb x.number sent) both));
      is_here = λ r q. subst (λ (y : Report). y.address ≡ a) (some_same q) (same_address x.address a (and_right (lawful x && eqb x.number sent) (same x.address a) e));
    }

says_again : (a : Address) (sent : ℕ) (l : Option ℕ) (o : Option Report) → Again a sent l o → awaiting_fits a sent l o ≡ true
says_again a sent None None h = refl
says_again a sent None (Some r) h = h.alike
says_again a sent (Some d) None h = sym h.alike
says_again a sent (Some d) (Some x) h = and_true (and_true (h.is_lawful x refl) (number_same x.number sent (h.is_newest x refl))) (ap (λ y. same y a) (h.is_here x refl) ∙ same_self a)

module _ (clock : ℕ) (a : Address) (c : Connection) where
  abbrev n : ℕ
  n = newest_tick c

  abbrev b1 : Bool
  b1 = lawful_address a && sound c

  abbrev b2 : Bool
  b2 = b1 && party_fits c.grant

  abbrev b3 : Bool
  b3 = b2 && leb n clock

  abbrev b4 : Bool
  b4 = b3 && interval_fits n c.meter.interval

  abbrev b5 : Bool
  b5 = b4 && dues_fit n c.dues

  abbrev d2 : Bool
  d2 = at_least (suc n) c.dues.tariff && at_least n c.dues.end

  fit_both : fit clock a c ≡ true → b1 ≡ true
  fit_both e = and_left b1 _ (and_left b2 _ (and_left b3 _ (and_left b4 _ (and_left b5 _ e))))

  pub fit_sound : fit clock a c ≡ true → sound c ≡ true
  fit_sound e = and_right (lawful_address a) (sound c) (fit_both e)

  fit_rest : fit clock a c ≡ true → Rest clock a c
  fit_rest e =
      let e5 = and_left b5 _ e in
      let e4 = and_left b4 _ e5 in
      let e3 = and_left b3 _ e4 in
      let e2 = and_left b2 _ e3 in
      let ds : dues_fit n c.dues ≡ true = and_right b4 _ e5 in
      let ds2 = and_left d2 _ ds in
      record {
        there = and_left (lawful_address a) (sound c) (fit_both e);
        party_ok = or_other (eqb c.grant.had 0) (within 1 parties c.grant.party) (and_right b1 _ e2);
        times = record {
          past = le_of n clock (and_right b2 _ e3);
          interval_on = interval_says n c.meter.interval (and_right b3 _ e4);
          switch_on = least_of (suc n) c.dues.tariff (and_left (at_least (suc n) c.dues.tariff) _ ds2);
          end_on = least_of n c.dues.end (and_right (at_least (suc n) c.dues.tariff) _ ds2);
          limit_on = least_of n c.dues.limit (and_right d2 _ ds);
        };
        again = again_says a c.sent c.dues.limit c.awaiting (and_right b5 _ e);
      }

  is_fit : sound c ≡ true → Rest clock a c → fit clock a c ≡ true
  is_fit e x =
      let y = x.times in
      and_true (and_true (and_true (and_true (and_true (and_true x.there e) (other_or (eqb c.grant.had 0) (within 1 parties c.grant.party) x.party_ok)) (leb_of n clock y.past)) (says_interval n c.meter.interval y.interval_on)) (and_true (and_true (of_least (suc n) c.dues.tariff y.switch_on) (of_least n c.dues.end y.end_on)) (of_least n c.dues.limit y.limit_on))) (says_again a c.sent c.dues.limit c.awaiting x.again)

-- a later clock
timed_later : (clock t n : ℕ) (interval tariff end limit : Option ℕ) → clock ≤ t → Timed clock n interval tariff end limit → Timed t n interval tariff end limit
timed_later clock t n interval tariff end limit h x = record { past = (let p = x.past in omega arith); interval_on = x.interval_on; switch_on = x.switch_on; end_on = x.end_on; limit_on = x.limit_on }

rest_later : (clock t : ℕ) (a : Address) (c : Connection) → clock ≤ t → Rest clock a c → Rest t a c
rest_later clock t a c h x = record { there = x.there; party_ok = x.party_ok; times = timed_later clock t (newest_tick c) c.meter.interval c.dues.tariff c.dues.end c.dues.limit h x.times; again = x.again }

-- what a fit connection reports is within the frame's rules
pub counts_by : (k : ℕ) (i : Option ℕ) (time : ℕ) → ((j : ℕ) → i ≡ Some j → 0 < j) → counted (elapsed_by k i time) ≡ true
counts_by k i time h = go (eqb k 0) i h
  where
    go : (b : Bool) (i : Option ℕ) → ((j : ℕ) → i ≡ Some j → 0 < j) → counted (cond b (Plain time) (Switched time i)) ≡ true
    go true i h = refl
    go false None h = refl
    go false (Some j) h = let z = h j refl in grind (arith, nat_tests)

pub sum_by : (k : ℕ) (i : Option ℕ) (time d : ℕ) → time ≤ d → ((j : ℕ) → i ≡ Some j → time + j ≤ d) → time_of (elapsed_by k i time) + interval_of (elapsed_by k i time) ≤ d
sum_by k i time d l h = go (eqb k 0) i h
  where
    go : (b : Bool) (i : Option ℕ) → ((j : ℕ) → i ≡ Some j → time + j ≤ d) → time_of (cond b (Plain time) (Switched time i)) + interval_of (cond b (Plain time) (Switched time i)) ≤ d
    go true i h = omega arith
    go false None h = omega arith
    go false (Some j) h = h j refl

made_sum : (answer : Option ℕ) (m : Meter) (n d : ℕ) → n ≡ max (or_zero answer) (or_zero m.last) → n ≤ d → ((i : ℕ) → m.interval ≡ Some i → (1 ≤ i) × (i ≤ n)) → time_of (elapsed_by m.switches m.interval (time_at answer m.last d)) + interval_of (elapsed_by m.switches m.interval (time_at answer m.last d)) ≤ d
made_sum None m n d is on h = sum_by m.switches m.interval 0 d (omega arith) (λ j e. let z = (h j e).1 in omega arith)
made_sum (Some a) m n d is on h = sum_by m.switches m.interval (d - counts_from a m.last) d (omega arith) (λ j e. sum_fits j (counts_from a m.last) n d is (h j e).1 on)
  where
    sum_fits : (j base n d : ℕ) → n ≡ base → j ≤ n → n ≤ d → (d - base) + j ≤ d
    sum_fits j base n d p q r = omega arith

made_lawful : (a : Address) (d clock : ℕ) (standing : Standing) (c : Connection) → d ≤ last_tick → newest_tick c ≤ d → eqb c.grant.had 0 ≡ false → SoundOne c → Rest clock a c → lawful (made a d standing c) ≡ true
made_lawful a d clock standing c in_time on some x y =
    let h = x.sent_had in
    let m = x.had_most in
    let low : leb 1 (c.sent + 1) ≡ true = leb_of 1 (c.sent + 1) (omega arith) in
    let high : leb (c.sent + 1) report_numbers ≡ true = leb_of (c.sent + 1) report_numbers (omega arith) in
    let counts : counted (elapsed_by c.meter.switches c.meter.interval (time_at (answered_at c.stage) c.meter.last d)) ≡ true = counts_by c.meter.switches c.meter.interval (time_at (answered_at c.stage) c.meter.last d) (λ j e. (y.times.interval_on j e).0) in
    let sum-ok = leb_of _ d (made_sum (answered_at c.stage) c.meter (newest_tick c) d refl on y.times.interval_on) in
    and_true (and_true (and_true (and_true (and_true y.there (and_true low high)) (y.party_ok some)) (leb_of d last_tick in_time)) counts) sum-ok

-- a connection whose period end is due had an instruction
pub end_had : (c : Connection) (d : ℕ) → c.dues.end ≡ Some d → SoundOne c → eqb c.grant.had 0 ≡ false
end_had c d due x = more c.sent c.grant.had (x.sent_open (x.end_open (ap is_some due)))
  where
    more : (k n : ℕ) → k < n → eqb n 0 ≡ false
    more k n h = grind (arith, nat_tests)

-- each operation
no_dues : (clock n : ℕ) → n ≤ clock → Timed clock n None None None None
no_dues clock n h = record { past = h; interval_on = λ i e. absurd (none_some e); switch_on = λ d e. absurd (none_some e); end_on = λ d e. absurd (none_some e); limit_on = λ d e. absurd (none_some e) }

rest_fresh : (t : ℕ) (a : Address) → lawful_address a ≡ true → Rest t a fresh
rest_fresh t a ok = record { there = ok; party_ok = λ e. absurd (differ (sym e)); times = no_dues t 0 (omega arith); again = no_again a 0 }

in_consultation : (s : Stage) → consulting s ≡ true → answered_at s ≡ None
in_consultation Consultation e = refl
in_consultation Waiting e = refl
in_consultation (Answered t) e = absurd (differ e)

rest_continued : (t : ℕ) (a : Address) (c : Connection) → consulting c.stage ≡ true → Rest t a c → Rest t a (continued c)
rest_continued t a c e x = record {
  there = x.there;
  party_ok = x.party_ok;
  times = subst (λ o. Timed t (max (or_zero o) (or_zero c.meter.last)) c.meter.interval c.dues.tariff c.dues.end c.dues.limit) (in_consultation c.stage e) x.times;
  again = x.again;
}

asked_later : (t n : ℕ) (o : Option ℕ) → n ≤ t → seconds_fit o ≡ true → (d : ℕ) → option_map (switch_due t) o ≡ Some d → n < d
asked_later t n None h f d e = absurd (none_some e)
asked_later t n (Some s) h f d e =
    let z = some_same e in
    let l = le_of 1 s (and_left (leb 1 s) (leb s longest_switch) f) in
    omega arith

timed_instructed : (answer previous : Option ℕ) (t n : ℕ) (i : Instruction) (d : Dues) → n ≤ t → seconds_fit i.switch ≡ true → Timed t n None (dues_instructed answer previous t i d).tariff (dues_instructed answer previous t i d).end (dues_instructed answer previous t i d).limit
timed_instructed None previous t n i d h f = record { past = h; interval_on = λ i e. absurd (none_some e); switch_on = asked_later t n i.switch h f; end_on = λ d e. absurd (none_some e); limit_on = λ d e. absurd (none_some e) }
timed_instructed (Some a) previous t n i d h f = record { past = h; interval_on = λ i e. absurd (none_some e); switch_on = asked_later t n i.switch h f; end_on = λ q e. (let z = some_same e in omega arith); limit_on = λ d e. absurd (none_some e) }

again_instructed : (a : Address) (sent : ℕ) (answer previous : Option ℕ) (t : ℕ) (i : Instruction) (d : Dues) → Again a sent (dues_instructed answer previous t i d).limit None
again_instructed a sent None previous t i d = no_again a sent
again_instructed a sent (Some answer) previous t i d = no_again a sent

again_answered : (a : Address) (sent t : ℕ) (period : Option Terms) (d : Dues) (o : Option Report) → Again a sent d.limit o → Again a sent (dues_answered t period d).limit o
again_answered a sent t None d o x = x
again_answered a sent t (Some p) d o x = x

rest_instructed : (t : ℕ) (i : Instruction) (a : Address) (c : Connection) → within 1 parties i.party ≡ true → seconds_fit i.switch ≡ true → Rest t a c → Rest t a (instructed t i c)
rest_instructed t i a c party f x = record { there = x.there; party_ok = λ _. party; times = timed_instructed (answered_at c.stage) c.grant.previous t (newest_tick c) i c.dues x.times.past f; again = again_instructed a c.sent (answered_at c.stage) c.grant.previous t i c.dues }

timed_answered : (t n last : ℕ) (period : Option Terms) (interval : Option ℕ) (d : Dues) → last ≤ n → ((k : Timer) (q : ℕ) → due_of d k ≡ Some q → t < q) → Timed t n interval d.tariff d.end d.limit → Timed t (max t last) interval (dues_answered t period d).tariff (dues_answered t period d).end (dues_answered t period d).limit
timed_answered t n last None interval d l none x = record {
  past = (let p = x.past in omega arith);
  interval_on = λ i e. (let p = x.past in let z = x.interval_on i e in let z0 = z.0 in let z1 = z.1 in (z0, omega arith));
  switch_on = λ q e. (let p = x.past in let z = none TariffSwitch q e in omega arith);
  end_on = λ q e. (let p = x.past in let z = none PeriodEnd q e in omega arith);
  limit_on = λ q e. (let p = x.past in let z = none ConfirmationLimit q e in omega arith);
}
timed_answered t n last (Some y) interval d l none x = record {
  past = (let p = x.past in omega arith);
  interval_on = λ i e. (let p = x.past in let z = x.interval_on i e in let z0 = z.0 in let z1 = z.1 in (z0, omega arith));
  switch_on = λ q e. (let p = x.past in let z = none TariffSwitch q e in omega arith);
  end_on = λ q e. (let p = x.past in let z = some_same e in omega arith);
  limit_on = λ q e. (let p = x.past in let z = none ConfirmationLimit q e in omega arith);
}

rest_answered : (t : ℕ) (a : Address) (c : Connection) → ((k : Timer) (q : ℕ) → due_of c.dues k ≡ Some q → t < q) → Rest t a c → Rest t a (answered t c)
rest_answered t a c none x = record {
  there = x.there;
  party_ok = x.party_ok;
  times = timed_answered t (newest_tick c) (or_zero c.meter.last) (option_map terms_of c.grant.period) c.meter.interval c.dues (omega arith) none x.times;
  again = again_answered a c.sent t (option_map terms_of c.grant.period) c.dues c.awaiting x.again;
}

rest_confirmed : (t : ℕ) (a : Address) (c : Connection) → Rest t a c → Rest t a (confirmed c)
rest_confirmed t a c x = let y = x.times in record { there = x.there; party_ok = x.party_ok; times = record { past = y.past; interval_on = y.interval_on; switch_on = y.switch_on; end_on = y.end_on; limit_on = λ d e. absurd (none_some e) }; again = no_again a c.sent }

-- each firing
timed_switched : (answer last : Option ℕ) (t d n : ℕ) (end limit : Option ℕ) → n ≡ max (or_zero answer) (or_zero last) → n < d → d ≤ t → ((q : ℕ) → end ≡ Some q → d ≤ q) → ((q : ℕ) → limit ≡ Some q → d ≤ q) → Timed t (max (or_zero answer) d) (interval_at answer last d) None end limit
timed_switched None last t d n end limit is new on ends limits = record {
  past = (omega arith);
  interval_on = λ i e. absurd (none_some e);
  switch_on = λ q e. absurd (none_some e);
  end_on = λ q e. (let z = ends q e in omega arith);
  limit_on = λ q e. (let z = limits q e in omega arith);
}
timed_switched (Some a) last t d n end limit is new on ends limits = record {
  past = (omega arith);
  interval_on = λ i e. (let z = some_same e in (omega arith, omega arith));
  switch_on = λ q e. absurd (none_some e);
  end_on = λ q e. (let z = ends q e in omega arith);
  limit_on = λ q e. (let z = limits q e in omega arith);
}

rest_switched : (t d : ℕ) (a : Address) (c : Connection) → c.dues.tariff ≡ Some d → d ≤ t → ((k : Timer) (q : ℕ) → due_of c.dues k ≡ Some q → d ≤ q) → Rest t a c → Rest t a (switched d c)
rest_switched t d a c due on least x = record { there = x.there; party_ok = x.party_ok; times = timed_switched (answered_at c.stage) c.meter.last t d (newest_tick c) c.dues.end c.dues.limit refl (x.times.switch_on d due) on (λ q e. least PeriodEnd q e) (λ q e. least ConfirmationLimit q e); again = x.again }

rest_closed : (a : Address) (t d w : ℕ) (c : Connection) → c.dues.end ≡ Some d → d ≤ last_tick → SoundOne c → Rest t a c → Rest t a (closed a d (t + w) c)
rest_closed a t d w c due in_time s x = record {
  there = x.there;
  party_ok = x.party_ok;
  times = record { past = x.times.past; interval_on = λ i e. absurd (none_some e); switch_on = λ q e. absurd (none_some e); end_on = λ q e. absurd (none_some e); limit_on = λ q e. (let p = x.times.past in let z = some_same e in omega arith) };
  again = record {
    alike = refl;
    is_lawful = λ r e. subst (λ y. lawful y ≡ true) (some_same e) (made_lawful a d t Active c in_time (x.times.end_on d due) (end_had c d due s) s x);
    is_newest = λ r e. subst (λ (y : Report). y.number ≡ c.sent + 1) (some_same e) refl;
    is_here = λ r e. subst (λ (y : Report). y.address ≡ a) (some_same e) refl;
  };
}

-- every operation, and every firing
abbrev IfRest : ℕ → Address → Option Connection → Type 0
IfRest clock a o = (c : Connection) → o ≡ Some c → Rest clock a c

now_is : {t : ℕ} {a : Address} {c : Connection} → Rest t a c → IfRest t a (Some c)
now_is {t} {a} x y e = subst (Rest t a) (some_same e) x

gone : {t : ℕ} {a : Address} → IfRest t a None
gone c e = absurd (none_some e)

operation_rest : (x : Operation) (a : Address) (t : ℕ) (room : Bool) (n : ℕ) (o : Option Connection) → lawful_address a ≡ true → fits x ≡ true → ((k : Timer) (q : ℕ) → due_of (dues_in o) k ≡ Some q → t < q) → Clear (operation_rows room x o n) → IfRest t a o → IfRest t a (by_operation x t o)
operation_rest SetUp a t room n o ok f none k g = now_is (rest_fresh t a ok)
operation_rest Continue a t room n None ok f none k g = gone
operation_rest Continue a t room n (Some c) ok f none k g = now_is (rest_continued t a c (not_not (consulting c.stage) k.1.0) (g c refl))
operation_rest Bar a t room n o ok f none k g = gone
operation_rest (Instruct i) a t room n None ok f none k g = gone
operation_rest (Instruct i) a t room n (Some c) ok f none k g =
    let both = and_left (within 1 longest_period i.maximum && within 1 parties i.party) (seconds_fit i.switch) f in
    now_is (rest_instructed t i a c (and_right (within 1 longest_period i.maximum) (within 1 parties i.party) both) (and_right (within 1 longest_period i.maximum && within 1 parties i.party) (seconds_fit i.switch) f) (g c refl))
operation_rest (Advise v) a t room n None ok f none k g = gone
operation_rest (Advise v) a t room n (Some c) ok f none k g = let x = g c refl in now_is (record { there = x.there; party_ok = x.party_ok; times = x.times; again = x.again })
operation_rest Answer a t room n None ok f none k g = gone
operation_rest Answer a t room n (Some c) ok f none k g = now_is (rest_answered t a c none (g c refl))
operation_rest Disconnect a t room n o ok f none k g = gone
operation_rest (Confirm m) a t room n None ok f none k g = gone
operation_rest (Confirm m) a t room n (Some c) ok f none k g = now_is (rest_confirmed t a c (g c refl))
operation_rest Repeat a t room n o ok f none k g = g

timer_rest : (w : ℕ) (k : Timer) (a : Address) (d t : ℕ) (o : Option Connection) → due_of (dues_in o) k ≡ Some d → d ≤ t → d ≤ last_tick → ((k : Timer) (q : ℕ) → due_of (dues_in o) k ≡ Some q → d ≤ q) → IfSound o → IfRest t a o → IfRest t a (by_timer w k a d t o)
timer_rest w TariffSwitch a d t None due on in_time least s g = gone
timer_rest w TariffSwitch a d t (Some c) due on in_time least s g = now_is (rest_switched t d a c due on least (g c refl))
timer_rest w AdviceSwitch a d t None due on in_time least s g = gone
timer_rest w AdviceSwitch a d t (Some c) due on in_time least s g = let x = g c refl in now_is (record { there = x.there; party_ok = x.party_ok; times = x.times; again = x.again })
timer_rest w Sound a d t None due on in_time least s g = gone
timer_rest w Sound a d t (Some c) due on in_time least s g = let x = g c refl in now_is (record { there = x.there; party_ok = x.party_ok; times = x.times; again = x.again })
timer_rest w PeriodEnd a d t None due on in_time least s g = gone
timer_rest w PeriodEnd a d t (Some c) due on in_time least s g = go (releases c.grant.period)
  where
    go : (b : Bool) → IfRest t a (cond b None (Some (closed a d (t + w) c)))
    go true = gone
    go false = now_is (rest_closed a t d w c due in_time (s c refl) (g c refl))
timer_rest w ConfirmationLimit a d t o due on in_time least s g = gone

put_rest : (t : ℕ) (f : Address → Option Connection) (a : Address) (o : Option Connection) → ((x : Address) → IfRest t x (f x)) → IfRest t a o → (x : Address) → IfRest t x (put f a o x)
put_rest t f a o g new x c = go (same x a) refl
  where
    go : (b : Bool) → same x a ≡ b → cond b o (f x) ≡ Some c → Rest t x c
    go true q e = subst (λ y. Rest t y c) (sym (same_address x a q)) (new c e)
    go false q e = g x c e

abbrev AllRest : ℕ → Core → Type 0
AllRest clock s = (a : Address) → IfRest clock a (s.at a)

call_rest : (room : Bool) (c : Call) (s : Core) → Clear (rows room c s) → ((a : Address) → IfSound (s.at a)) → AllRest s.clock s → AllRest (effect c s).clock (effect c s)
call_rest room (On t a d) s k z g =
    let ranges : (lawful_address a && fits d) ≡ true = not_not (lawful_address a && fits d) k.1.0 in
    let ok = and_left (lawful_address a) (fits d) ranges in
    let g' : AllRest t s = λ b c e. rest_later s.clock t b c (not_early t s.clock k.0) (g b c e) in
    put_rest t s.at a (by_operation d t (s.at a)) g' (operation_rest d a t room s.count (s.at a) ok (and_right (lawful_address a) (fits d) ranges) (λ j q e. none_picked (dues_at s) t k.1.1.0 a j q ok e) k.1.1.1 (g' a))
call_rest room (Fire t) s k z g = go (earliest (dues_at s) t) refl
  where
    g' : AllRest t s
    g' b c e = rest_later s.clock t b c (not_early t s.clock k.0) (g b c e)

    go : (o : Option Item) → earliest (dues_at s) t ≡ o → AllRest (after (fired t o) s).clock (after (fired t o) s)
    go None q = g
    go (Some i) q =
        let p = picked (dues_at s) t i q in
        put_rest t s.at i.address (by_timer s.wait i.timer i.address i.tick t (s.at i.address)) g' (timer_rest s.wait i.timer i.address i.tick t (s.at i.address) p.runs p.due (le_through i.tick t last_tick p.due (in_range t s.clock k.0)) (λ k d e. p.least i.address k d p.there e) (z i.address) (g' i.address))
call_rest room Take s k z g = g

pub stays_fit : StaysFit
stays_fit = record {
  at_first = λ w a c e. absurd (none_some e);
  ever_after = λ room c s e g a x is.
      let k = clear (rows room c s) e in
      let sounds : (b : Address) → IfSound (s.at b) = λ b y q. says y (fit_sound s.clock b y (g b y q)) in
      is_fit (effect c s).clock a x (holds x (call_sound room c s k sounds a x is)) (call_rest room c s k sounds (λ b y q. fit_rest s.clock b y (g b y q)) a x is);
}

-- what is sent
last_sendable : (a : Address) (d clock : ℕ) (room : Bool) (o : Option Connection) → d ≤ last_tick → ((c : Connection) → o ≡ Some c → newest_tick c ≤ d) → IfSound o → IfRest clock a o → (SomeSent (last_report a d o) → room ≡ true) → Sendable room (last_report a d o)
last_sendable a d clock room None in_time on s g place = tt
last_sendable a d clock room (Some c) in_time on s g place = go (eqb c.grant.had 0) refl place
  where
    go : (b : Bool) → eqb c.grant.had 0 ≡ b → (SomeSent (cond b [] (made a d Ended c ∷ [])) → room ≡ true) → Sendable room (cond b [] (made a d Ended c ∷ []))
    go true q h = tt
    go false q h = (made_lawful a d clock Ended c in_time (on c refl) q (s c refl) (g c refl), h tt, refl)

listed_sendable : (room : Bool) (o : Option Report) → ((r : Report) → o ≡ Some r → lawful r ≡ true) → (SomeSent (listed o) → room ≡ true) → Sendable room (listed o)
listed_sendable room None h place = tt
listed_sendable room (Some r) h place = (h r refl, place tt, refl)

awaited_lawful : (t : ℕ) (a : Address) (o : Option Connection) → IfRest t a o → (r : Report) → awaited o ≡ Some r → lawful r ≡ true
awaited_lawful t a None g r e = absurd (none_some e)
awaited_lawful t a (Some c) g r e = (g c refl).again.is_lawful r e

operation_sendable : (x : Operation) (a : Address) (t : ℕ) (room : Bool) (n : ℕ) (o : Option Connection) → t ≤ last_tick → Clear (operation_rows room x o n) → IfSound o → IfRest t a o → Sendable room (by_operation_sent x a t o)
operation_sendable SetUp a t room n o in_time k s g = tt
operation_sendable Continue a t room n o in_time k s g = tt
operation_sendable Bar a t room n o in_time k s g = last_sendable a t t room o in_time (λ c e. (g c e).times.past) s g (operation_room Bar a t room n o k)
operation_sendable (Instruct i) a t room n o in_time k s g = tt
operation_sendable (Advise v) a t room n o in_time k s g = tt
operation_sendable Answer a t room n o in_time k s g = tt
operation_sendable Disconnect a t room n o in_time k s g = last_sendable a t t room o in_time (λ c e. (g c e).times.past) s g (operation_room Disconnect a t room n o k)
operation_sendable (Confirm m) a t room n o in_time k s g = tt
operation_sendable Repeat a t room n o in_time k s g = listed_sendable room (awaited o) (awaited_lawful t a o g) (operation_room Repeat a t room n o k)

limit_past : (t d : ℕ) (a : Address) (o : Option Connection) → due_of (dues_in o) ConfirmationLimit ≡ Some d → IfRest t a o → (c : Connection) → o ≡ Some c → newest_tick c ≤ d
limit_past t d a o due g c e = (g c e).times.limit_on d (ap (λ y. due_of (dues_in y) ConfirmationLimit) (sym e) ∙ due)

timer_sendable : (k : Timer) (a : Address) (d t : ℕ) (room : Bool) (o : Option Connection) → d ≤ last_tick → due_of (dues_in o) k ≡ Some d → (SomeSent (by_timer_sent k a d o) → room ≡ true) → IfSound o → IfRest t a o → Sendable room (by_timer_sent k a d o)
timer_sendable TariffSwitch a d t room o in_time due place s g = tt
timer_sendable AdviceSwitch a d t room o in_time due place s g = tt
timer_sendable Sound a d t room o in_time due place s g = tt
timer_sendable PeriodEnd a d t room None in_time due place s g = tt
timer_sendable PeriodEnd a d t room (Some c) in_time due place s g = (made_lawful a d t (cond (releases c.grant.period) Released Active) c in_time ((g c refl).times.end_on d due) (end_had c d due (s c refl)) (s c refl) (g c refl), place tt, refl)
timer_sendable ConfirmationLimit a d t room o in_time due place s g = last_sendable a d t room o in_time (limit_past t d a o due g) s g place

call_sendable : (room : Bool) (c : Call) (s : Core) → Clear (rows room c s) → ((a : Address) → IfSound (s.at a)) → AllRest s.clock s → Sendable room (reports c s)
call_sendable room (On t a d) s k z g =
    operation_sendable d a t room s.count (s.at a) (in_range t s.clock k.0) k.1.1.1 (z a) (λ c e. rest_later s.clock t a c (not_early t s.clock k.0) (g a c e))
call_sendable room (Fire t) s k z g = go (earliest (dues_at s) t) refl k.1
  where
    go : (o : Option Item) → earliest (dues_at s) t ≡ o → Clear (firing_rows room s o) → Sendable room (reports_of (fired t o) s)
    go None q h = tt
    go (Some i) q h =
        let p = picked (dues_at s) t i q in
        timer_sendable i.timer i.address i.tick s.clock room (s.at i.address) (le_through i.tick t last_tick p.due (in_range t s.clock k.0)) p.runs (timer_room i.timer i.address i.tick room (s.at i.address) h.0) (z i.address) (g i.address)
call_sendable room Take s k z g = tt

pub sends_lawful : SendsLawful
sends_lawful room c s e g = call_sendable room c s (clear (rows room c s) e) (λ b y q. says y (fit_sound s.clock b y (g b y q))) (λ b y q. fit_rest s.clock b y (g b y q))

pub fit_there : (clock : ℕ) (a : Address) (c : Connection) → fit clock a c ≡ true → lawful_address a ≡ true
fit_there clock a c e = (fit_rest clock a c e).there

-- a report that awaits confirmation can be repeated
pub record Repeatable (a : Address) (sent : ℕ) (r : Report) : Type 0 where
  pub is_lawful : lawful r ≡ true
  pub is_here : r.address ≡ a
  pub is_newest : r.number ≡ sent

pub repeatable : (clock : ℕ) (a : Address) (c : Connection) (r : Report) → fit clock a c ≡ true → c.awaiting ≡ Some r → Repeatable a c.sent r
repeatable clock a c r e q = let x = (fit_rest clock a c e).again in record { is_lawful = x.is_lawful r q; is_here = x.is_here r q; is_newest = x.is_newest r q }

-- a lawful report has a number
pub numbered_so : (r : Report) → lawful r ≡ true → 1 ≤ r.number
numbered_so r h = le_of 1 r.number (and_left (leb 1 r.number) (leb r.number report_numbers) (and_right (lawful_address r.address) _ (and_left _ _ (and_left _ _ (and_left _ _ (and_left _ _ h))))))

-- a connection whose limit runs had an instruction
pub limit_had : (clock : ℕ) (a : Address) (c : Connection) (d : ℕ) → fit clock a c ≡ true → c.dues.limit ≡ Some d → eqb c.grant.had 0 ≡ false
limit_had clock a c d e due = go c.awaiting refl
  where
    x : Rest clock a c
    x = fit_rest clock a c e

    some_had : (number sent had : ℕ) → 1 ≤ number → number ≡ sent → sent ≤ had → eqb had 0 ≡ false
    some_had number sent had l p q = grind (arith, nat_tests)

    go : (o : Option Report) → c.awaiting ≡ o → eqb c.grant.had 0 ≡ false
    go None q = absurd (differ (sym (x.again.alike ∙ ap is_some q) ∙ ap is_some due))
    go (Some r) q = some_had r.number c.sent c.grant.had (numbered_so r (x.again.is_lawful r q)) (x.again.is_newest r q) (says c (fit_sound clock a c e)).sent_had

-- a run keeps the engine fit
follows_fit : (free : Bool) (c : Call) (s s' : Core) → AllFit s → s' ≡ (rule free c s).core → AllFit s'
follows_fit free c s s' g e = go (first (rows free c s)) refl e
  where
    go : (o : Option Refusal) → first (rows free c s) ≡ o → s' ≡ (ruled c s o).core → AllFit s'
    go (Some n) q e = subst AllFit (sym e) g
    go None q e = subst AllFit (sym e) (stays_fit.ever_after free c s q g)

step_fit : (c : Call) (s s' : State) (r : Reply) → AllFit s.core → Does c s r s' → AllFit s'.core
step_fit (On t a d) s s' r g x = follows_fit (room s) (On t a d) s.core s'.core g x.core
step_fit (Fire t) s s' r g x = follows_fit (room s) (Fire t) s.core s'.core g x.core
step_fit Take s s' r g x = subst AllFit (sym x.core) g

pub run_fit : {s s' : State} {cs : List Call} {rs : List Reply} → AllFit s.core → Run s cs rs s' → AllFit s'.core
run_fit g over = g
run_fit g (then {s} {m} {s'} {c} {r} {cs} {rs} d more) = run_fit (step_fit c s m r g d) more

-- one by one
sound_in : (clock : ℕ) (a : Address) (o : Option Connection) → fit_in clock a o ≡ true → IfSound o
sound_in clock a o h c e = says c (fit_sound clock a c (subst (λ y. fit_in clock a y ≡ true) e h))

rest_in : (clock : ℕ) (a : Address) (o : Option Connection) → fit_in clock a o ≡ true → IfRest clock a o
rest_in clock a o h c e = fit_rest clock a c (subst (λ y. fit_in clock a y ≡ true) e h)

in_both : (clock : ℕ) (a : Address) (o : Option Connection) → IfSound o → IfRest clock a o → fit_in clock a o ≡ true
in_both clock a None s g = refl
in_both clock a (Some c) s g = is_fit clock a c (holds c (s c refl)) (g c refl)

pub each_stays_fit : EachStaysFit
each_stays_fit = record {
  later = λ clock t a o on h. in_both t a o (sound_in clock a o h) (λ c e. rest_later clock t a c on (rest_in clock a o h c e));
  by_operations = λ x a t room n o ok f in_time none e h.
      let k = clear (operation_rows room x o n) e in
      in_both t a (by_operation x t o) (operation_sound x t room n o f in_time k (sound_in t a o h)) (operation_rest x a t room n o ok f none k (rest_in t a o h));
  by_firings = λ w k a d t o due on in_time least h.
      let early = le_through d t last_tick on in_time in
      in_both t a (by_timer w k a d t o) (timer_sound w k a d t o due early (sound_in t a o h)) (timer_rest w k a d t o due on early least (sound_in t a o h) (rest_in t a o h));
  operations_send = λ x a t room n o in_time e h. operation_sendable x a t room n o in_time (clear (operation_rows room x o n) e) (sound_in t a o h) (rest_in t a o h);
  firings_send = λ k a d t room o due in_time place h. timer_sendable k a d t room o in_time due (timer_room k a d room o place) (sound_in t a o h) (rest_in t a o h);
}
