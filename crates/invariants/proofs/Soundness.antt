-- Every connection stays sound. Assumes nothing.
use Rattle.std.proofs.Common.{◌≡◌, ℕ, suc, ◌+◌, ◌<◌, ◌≤◌, Bool, true, false, cond, ◌&&◌, ◌||◌, ltb, leb, is_some, Some, None, Option, sym, refl, ap, ◌∙◌, subst, arith}
use Rattle.std.specs.Option.{option_map}
use Rattle.std.proofs.lemmas.Bool.Decides.{nat_tests}
use Rattle.report.specs.declared.report.Address.{Address}
use Rattle.report.specs.Lawful.{within, lawful_address, same}
use Rattle.report.specs.Limits.{last_tick, parties}
use Rattle.rules.specs.declared.call.Instruction.{Instruction}
use Rattle.rules.specs.declared.call.Operation.{Operation}
use Rattle.rules.specs.declared.call.Operation.TheVariants.{SetUp, Continue, Bar, Instruct, Advise, Answer, Disconnect, Confirm, Repeat}
use Rattle.rules.specs.declared.call.Call.{Call}
use Rattle.rules.specs.declared.call.Call.TheVariants.{On, Fire, Take}
use Rattle.rules.specs.declared.connection.Period.{Period}
use Rattle.rules.specs.declared.due.Timer.{Timer}
use Rattle.rules.specs.declared.due.Timer.TheVariants.{TariffSwitch, AdviceSwitch, Sound, PeriodEnd, ConfirmationLimit}
use Rattle.rules.specs.declared.due.Item.{Item}
use Rattle.rules.specs.declared.due.Dues.{Dues}
use Rattle.rules.specs.declared.connection.Connection.{Connection}
use Rattle.rules.specs.Ranges.{fits, seconds_fit}
use Rattle.rules.specs.Periods.{switch_due, dues_answered, dues_instructed}
use Rattle.rules.specs.Dues.{due_of, earliest}
use Rattle.rules.specs.Occurrences.{fired}
use Rattle.rules.specs.Core.{Core, dues_in, dues_at, answered_at}
use Rattle.rules.specs.ByAddress.{put}
use Rattle.rules.specs.Changes.{terms_of, fresh, instructed, switched, closed, releases, by_operation, by_timer}
use Rattle.rules.specs.Rows.{operation_rows, rows}
use Rattle.rules.specs.Rules.{after, effect}
use Rattle.rules.specs.Sound.{at_most, period_fits, implies, sound, StaysSound}
use Rattle.rules.specs.Limits.{most_instructions, longest_period, most_switches}
use Rattle.invariants.proofs.Basics.{differ, none_some, some_same, and_left, and_right, and_true, or_left, or_right, not_not, le_of, leb_of, in_range, less_of}
use Rattle.invariants.proofs.Earliest.{picked}
use Rattle.invariants.proofs.Clear.{Clear, clear}

-- the same part by part
pub record Parts (had sent : ℕ) (period : Option Period) (previous : Option ℕ) (switches : ℕ) (tariff end : Option ℕ) : Type 0 where
  pub had_most : had ≤ most_instructions
  pub sent_had : sent ≤ had
  pub sent_open : is_some period ≡ true → sent < had
  pub end_open : is_some end ≡ true → is_some period ≡ true
  pub few : switches ≤ most_switches
  pub few_pending : is_some tariff ≡ true → switches < most_switches
  pub previous_in : at_most last_tick previous ≡ true
  pub period_in_time : period_fits period ≡ true

abbrev pub SoundOne : Connection → Type 0
SoundOne c = Parts c.grant.had c.sent c.grant.period c.grant.previous c.meter.switches c.dues.tariff c.dues.end

implied : (a b : Bool) → implies a b ≡ true → a ≡ true → b ≡ true
implied true b e h = e
implied false b e h = absurd (differ h)

implying : (a b : Bool) → (a ≡ true → b ≡ true) → implies a b ≡ true
implying true b h = h refl
implying false b h = refl

pub says : (c : Connection) → sound c ≡ true → SoundOne c
says c e =
    let r1 = and_right (leb c.grant.had most_instructions) _ e in
    let r2 = and_right (leb c.sent c.grant.had) _ r1 in
    let r3 = and_right (implies (is_some c.grant.period) (ltb c.sent c.grant.had)) _ r2 in
    let r4 = and_right (implies (is_some c.dues.end) (is_some c.grant.period)) _ r3 in
    let r5 = and_right (leb c.meter.switches most_switches) _ r4 in
    let r6 = and_right (implies (is_some c.dues.tariff) (ltb c.meter.switches most_switches)) _ r5 in
    record {
      had_most = le_of c.grant.had most_instructions (and_left (leb c.grant.had most_instructions) _ e);
      sent_had = le_of c.sent c.grant.had (and_left (leb c.sent c.grant.had) _ r1);
      sent_open = λ h. le_of (suc c.sent) c.grant.had (implied (is_some c.grant.period) (ltb c.sent c.grant.had) (and_left (implies (is_some c.grant.period) (ltb c.sent c.grant.had)) _ r2) h);
      end_open = implied (is_some c.dues.end) (is_some c.grant.period) (and_left (implies (is_some c.dues.end) (is_some c.grant.period)) _ r3);
      few = le_of c.meter.switches most_switches (and_left (leb c.meter.switches most_switches) _ r4);
      few_pending = λ h. le_of (suc c.meter.switches) most_switches (implied (is_some c.dues.tariff) (ltb c.meter.switches most_switches) (and_left (implies (is_some c.dues.tariff) (ltb c.meter.switches most_switches)) _ r5) h);
      previous_in = and_left (at_most last_tick c.grant.previous) _ r6;
      period_in_time = and_right (at_most last_tick c.grant.previous) _ r6;
    }

pub holds : (c : Connection) → SoundOne c → sound c ≡ true
holds c x =
    and_true (leb_of c.grant.had most_instructions x.had_most)
    (and_true (leb_of c.sent c.grant.had x.sent_had)
    (and_true (implying (is_some c.grant.period) (ltb c.sent c.grant.had) (λ h. leb_of (suc c.sent) c.grant.had (x.sent_open h)))
    (and_true (implying (is_some c.dues.end) (is_some c.grant.period) x.end_open)
    (and_true (leb_of c.meter.switches most_switches x.few)
    (and_true (implying (is_some c.dues.tariff) (ltb c.meter.switches most_switches) (λ h. leb_of (suc c.meter.switches) most_switches (x.few_pending h)))
    (and_true x.previous_in x.period_in_time))))))

-- an instruction
asked_some : (t : ℕ) (y : Option ℕ) → is_some (option_map (switch_due t) y) ≡ true → is_some y ≡ true
asked_some t None e = e
asked_some t (Some x) e = refl

tariff_asked : (answer previous : Option ℕ) (t : ℕ) (i : Instruction) (d : Dues) → is_some (dues_instructed answer previous t i d).tariff ≡ true → is_some i.switch ≡ true
tariff_asked None p t i d e = asked_some t i.switch e
tariff_asked (Some a) p t i d e = asked_some t i.switch e

few_left : (asked : Bool) (k : ℕ) → (asked && leb most_switches k) ≡ false → asked ≡ true → k < most_switches
few_left asked k e h = let z : leb most_switches k ≡ false = sym (ap (λ b. b && leb most_switches k) h) ∙ e in grind (arith, nat_tests)

sound_instructed : (t : ℕ) (i : Instruction) (c : Connection) → t ≤ last_tick → within 1 longest_period i.maximum ≡ true → (leb most_instructions c.grant.had || (is_some i.switch && leb most_switches c.meter.switches)) ≡ false → SoundOne c → SoundOne (instructed t i c)
sound_instructed t i c in_time most ten x =
    let less : c.grant.had < most_instructions = less_of most_instructions c.grant.had (or_left (leb most_instructions c.grant.had) _ ten) in
    record {
      had_most = (omega arith);
      sent_had = (let h = x.sent_had in omega arith);
      sent_open = λ _. (let h = x.sent_had in omega arith);
      end_open = λ _. refl;
      few = x.few;
      few_pending = λ h. few_left (is_some i.switch) c.meter.switches (or_right (leb most_instructions c.grant.had) _ ten) (tariff_asked (answered_at c.stage) c.grant.previous t i c.dues h);
      previous_in = x.previous_in;
      period_in_time = and_true (and_right (leb 1 i.maximum) (leb i.maximum longest_period) most) (leb_of t last_tick in_time);
    }

-- an answer
sound_answered : (t had sent switches : ℕ) (period : Option Period) (previous : Option ℕ) (d : Dues) → Parts had sent period previous switches d.tariff d.end → Parts had sent period previous switches (dues_answered t (option_map terms_of period) d).tariff (dues_answered t (option_map terms_of period) d).end
sound_answered t had sent switches None previous d x = x
sound_answered t had sent switches (Some p) previous d x = record { had_most = x.had_most; sent_had = x.sent_had; sent_open = x.sent_open; end_open = λ _. refl; few = x.few; few_pending = x.few_pending; previous_in = x.previous_in; period_in_time = x.period_in_time }

sound_switched : (d q : ℕ) (c : Connection) → c.dues.tariff ≡ Some q → SoundOne c → SoundOne (switched d c)
sound_switched d q c due x = record { had_most = x.had_most; sent_had = x.sent_had; sent_open = x.sent_open; end_open = x.end_open; few = (let h = x.few_pending (ap is_some due) in omega arith); few_pending = λ e. absurd (differ e); previous_in = x.previous_in; period_in_time = x.period_in_time }

sound_closed : (a : Address) (d limit q : ℕ) (c : Connection) → c.dues.end ≡ Some q → d ≤ last_tick → SoundOne c → SoundOne (closed a d limit c)
sound_closed a d limit q c due in_time x = record { had_most = x.had_most; sent_had = (let h = x.sent_open (x.end_open (ap is_some due)) in omega arith); sent_open = λ e. absurd (differ e); end_open = λ e. absurd (differ e); few = x.few; few_pending = λ e. absurd (differ e); previous_in = leb_of d last_tick in_time; period_in_time = refl }

-- every operation, and every firing
abbrev pub IfSound : Option Connection → Type 0
IfSound o = (c : Connection) → o ≡ Some c → SoundOne c

now_is : {c : Connection} → SoundOne c → IfSound (Some c)
now_is x y e = subst SoundOne (some_same e) x

gone : IfSound None
gone c e = absurd (none_some e)

sound_fresh : SoundOne fresh
sound_fresh = record { had_most = omega arith; sent_had = omega arith; sent_open = λ e. absurd (differ e); end_open = λ e. absurd (differ e); few = omega arith; few_pending = λ e. absurd (differ e); previous_in = refl; period_in_time = refl }

pub operation_sound : (x : Operation) (t : ℕ) (room : Bool) (n : ℕ) (o : Option Connection) → fits x ≡ true → t ≤ last_tick → Clear (operation_rows room x o n) → IfSound o → IfSound (by_operation x t o)
operation_sound SetUp t room n o fit in_time k g = now_is sound_fresh
operation_sound Continue t room n None fit in_time k g = gone
operation_sound Continue t room n (Some c) fit in_time k g = now_is (g c refl)
operation_sound Bar t room n o fit in_time k g = gone
operation_sound (Instruct i) t room n None fit in_time k g = gone
operation_sound (Instruct i) t room n (Some c) fit in_time k g = now_is (sound_instructed t i c in_time (and_left (within 1 longest_period i.maximum) (within 1 parties i.party) (and_left (within 1 longest_period i.maximum && within 1 parties i.party) (seconds_fit i.switch) fit)) k.1.1.1.0 (g c refl))
operation_sound (Advise v) t room n None fit in_time k g = gone
operation_sound (Advise v) t room n (Some c) fit in_time k g = now_is (g c refl)
operation_sound Answer t room n None fit in_time k g = gone
operation_sound Answer t room n (Some c) fit in_time k g = now_is (sound_answered t c.grant.had c.sent c.meter.switches c.grant.period c.grant.previous c.dues (g c refl))
operation_sound Disconnect t room n o fit in_time k g = gone
operation_sound (Confirm m) t room n None fit in_time k g = gone
operation_sound (Confirm m) t room n (Some c) fit in_time k g = now_is (g c refl)
operation_sound Repeat t room n o fit in_time k g = g

pub timer_sound : (w : ℕ) (k : Timer) (a : Address) (d t : ℕ) (o : Option Connection) → due_of (dues_in o) k ≡ Some d → d ≤ last_tick → IfSound o → IfSound (by_timer w k a d t o)
timer_sound w TariffSwitch a d t None due in_time g = gone
timer_sound w TariffSwitch a d t (Some c) due in_time g = now_is (sound_switched d d c due (g c refl))
timer_sound w AdviceSwitch a d t None due in_time g = gone
timer_sound w AdviceSwitch a d t (Some c) due in_time g = now_is (g c refl)
timer_sound w Sound a d t None due in_time g = gone
timer_sound w Sound a d t (Some c) due in_time g = now_is (g c refl)
timer_sound w PeriodEnd a d t None due in_time g = gone
timer_sound w PeriodEnd a d t (Some c) due in_time g = go (releases c.grant.period)
  where
    go : (b : Bool) → IfSound (cond b None (Some (closed a d (t + w) c)))
    go true = gone
    go false = now_is (sound_closed a d (t + w) d c due in_time (g c refl))
timer_sound w ConfirmationLimit a d t o due in_time g = gone

put_sound : (f : Address → Option Connection) (a : Address) (o : Option Connection) → ((x : Address) → IfSound (f x)) → IfSound o → (x : Address) → IfSound (put f a o x)
put_sound f a o g new x c = go (same x a)
  where
    go : (b : Bool) → cond b o (f x) ≡ Some c → SoundOne c
    go true e = new c e
    go false e = g x c e

pub call_sound : (room : Bool) (c : Call) (s : Core) → Clear (rows room c s) → ((a : Address) → IfSound (s.at a)) → (a : Address) → IfSound ((effect c s).at a)
call_sound room (On t a d) s k g =
    let ranges : (lawful_address a && fits d) ≡ true = not_not (lawful_address a && fits d) k.1.0 in
    put_sound s.at a (by_operation d t (s.at a)) g (operation_sound d t room s.count (s.at a) (and_right (lawful_address a) (fits d) ranges) (in_range t s.clock k.0) k.1.1.1 (g a))
call_sound room (Fire t) s k g = go (earliest (dues_at s) t) refl
  where
    in_time : (d t : ℕ) → d ≤ t → t ≤ last_tick → d ≤ last_tick
    in_time d t p q = omega arith

    go : (o : Option Item) → earliest (dues_at s) t ≡ o → (a : Address) → IfSound ((after (fired t o) s).at a)
    go None q = g
    go (Some i) q =
        let p = picked (dues_at s) t i q in
        put_sound s.at i.address (by_timer s.wait i.timer i.address i.tick t (s.at i.address)) g (timer_sound s.wait i.timer i.address i.tick t (s.at i.address) p.runs (in_time i.tick t p.due (in_range t s.clock k.0)) (g i.address))
call_sound room Take s k g = g

pub stays_sound : StaysSound
stays_sound room c s e g a x is = holds x (call_sound room c s (clear (rows room c s) e) (λ b y q. says y (g b y q)) a x is)
