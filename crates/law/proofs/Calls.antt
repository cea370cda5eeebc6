-- Every admitted call leaves its address in agreement. Assumes nothing.
use Rattle.std.proofs.Common.{◌≡◌, ℕ, ◌+◌, ◌<◌, ◌≤◌, Bool, true, false, cond, ◌&&◌, eqb, leb, List, [], ◌∷◌, is_some, Some, None, Option, sym, refl, ap, ◌∙◌, arith}
use Rattle.std.proofs.lemmas.Bool.Decides.{nat_tests}
use Rattle.report.specs.declared.report.Address.{Address}
use Rattle.report.specs.declared.report.Standing.TheVariants.{Active, Ended, Released}
use Rattle.report.specs.Limits.{tariffs, parties}
use Rattle.report.specs.Lawful.{within, lawful}
use Rattle.account.specs.Rule.{Slot}
use Rattle.rules.specs.declared.call.Operation.{Operation}
use Rattle.rules.specs.declared.call.Operation.TheVariants.{SetUp, Continue, Bar, Instruct, Advise, Answer, Disconnect, Confirm, Repeat}
use Rattle.rules.specs.declared.due.Timer.{Timer}
use Rattle.rules.specs.declared.due.Timer.TheVariants.{TariffSwitch, AdviceSwitch, Sound, PeriodEnd, ConfirmationLimit}
use Rattle.rules.specs.declared.connection.Connection.{Connection}
use Rattle.rules.specs.Limits.{longest_period, most_instructions, most_switches}
use Rattle.rules.specs.Ranges.{fits, seconds_fit}
use Rattle.rules.specs.Periods.{none_due}
use Rattle.rules.specs.Dues.{due_of}
use Rattle.rules.specs.Occurrences.{Event, does, fires}
use Rattle.rules.specs.Core.{dues_in, answered_at}
use Rattle.rules.specs.Changes.{made, closed, releases, by_event}
use Rattle.rules.specs.Reports.{last_report, by_operation_sent, by_timer_sent, by_event_sent}
use Rattle.rules.specs.Rows.{consulting, waits, operation_rows}
use Rattle.rules.specs.Fit.{fit, Sendable}
use Rattle.law.specs.Journal.{Entry, enter_end, noted_timer, on_newest, noted_event}
use Rattle.invariants.proofs.Basics.{differ, none_some, and_right, or_right, not_not}
use Rattle.invariants.proofs.Clear.{Clear}
use Rattle.invariants.proofs.Soundness.{SoundOne, says}
use Rattle.invariants.proofs.Fitness.{fit_sound, end_had, repeatable}
use Rattle.law.proofs.Agreement.{Live, Idle, Agrees}
use Rattle.law.proofs.Unreported.{on_continue, on_advise, on_change, on_sound, on_repeat, on_confirm, on_instruct, on_answer, on_switch, on_set_up}
use Rattle.law.proofs.Reporting.{OnTime, on_time_now, on_time_limit, SentIn, ends_without_report, ends_with_report, on_close, on_release, again_sent}

-- what befalls one address: the accounts take what is sent, and all agree again
abbrev pub AgreesAfter : ℕ → Address → Event → ℕ → ℕ → Option Connection → List Entry → Slot → Type 0
AgreesAfter w a ev d t o es s = (s' : Slot) × SentIn a (by_event_sent ev a d o) s s' × Agrees w (by_event w ev a d t o) (noted_event w ev d t es) s' t

module _ (w : ℕ) (a : Address) (c : Connection) (es : List Entry) (s : Slot) (t d : ℕ) (room : Bool) (old : Live w c es s t) (g : SoundOne c) where
  -- an end
  ends : Sendable room (last_report a d (Some c)) → OnTime (answered_at c.stage) c.sent c.dues.tariff c.dues.end c.dues.limit c.grant.period c.meter old.entry.switches old.entry.reported s.open_at t d old.alike.timing → (s' : Slot) × SentIn a (last_report a d (Some c)) s s' × Idle (on_newest (enter_end d) es) s'
  ends ok on = go (eqb c.grant.had 0) refl ok
    where
      go : (b : Bool) → eqb c.grant.had 0 ≡ b → Sendable room (cond b [] (made a d Ended c ∷ [])) → (s' : Slot) × SentIn a (cond b [] (made a d Ended c ∷ [])) s s' × Idle (on_newest (enter_end d) es) s'
      go true q h = (s, refl, ends_without_report w a c es s t d old g q)
      go false q h = let r = ends_with_report w a c es s t d old g Ended refl q h.0 on in (r.0, (r.1, refl), r.2)

  -- a period end
  at_period_end : c.dues.end ≡ Some d → d ≤ t → Sendable room (by_timer_sent PeriodEnd a d (Some c)) → AgreesAfter w a (fires PeriodEnd) d t (Some c) es s
  at_period_end due on ok = go (releases c.grant.period) refl ok.0
    where
      go : (b : Bool) → releases c.grant.period ≡ b → lawful (made a d (cond b Released Active) c) ≡ true → (s' : Slot) × SentIn a (made a d (cond b Released Active) c ∷ []) s s' × Agrees w (cond b None (Some (closed a d (t + w) c))) (on_newest (noted_timer w PeriodEnd d t) es) s' t
      go true q h = let r = on_release w a c es s t d old g due q (end_had c d due g) h in (r.0, (r.1, refl), r.2)
      go false q h = let r = on_close w a c es s t d old g due q on h in (r.0, (r.1, refl), r.2)

none_runs : (k : Timer) (d : ℕ) → due_of none_due k ≡ Some d → ⊥
none_runs TariffSwitch d e = none_some e
none_runs AdviceSwitch d e = none_some e
none_runs Sound d e = none_some e
none_runs PeriodEnd d e = none_some e
none_runs ConfirmationLimit d e = none_some e

-- the connection is fit at some clock
abbrev pub IfFit : ℕ → Address → Option Connection → Type 0
IfFit clock a o = (c : Connection) → o ≡ Some c → fit clock a c ≡ true

is_sound : (clock : ℕ) (a : Address) (c : Connection) → IfFit clock a (Some c) → SoundOne c
is_sound clock a c g = says c (fit_sound clock a c (g c refl))

-- a firing
pub timer_agrees : (w : ℕ) (a : Address) (k : Timer) (t d clock : ℕ) (room : Bool) (o : Option Connection) (es : List Entry) (s : Slot) → due_of (dues_in o) k ≡ Some d → d ≤ t → ((j : Timer) (q : ℕ) → due_of (dues_in o) j ≡ Some q → d ≤ q) → Sendable room (by_timer_sent k a d o) → IfFit clock a o → Agrees w o es s t → AgreesAfter w a (fires k) d t o es s
timer_agrees w a k t d clock room None es s due on least ok g x = absurd (none_runs k d due)
timer_agrees w a TariffSwitch t d clock room (Some c) es s due on least ok g x = (s, refl, on_switch w c es s t x d due on (λ p e. least PeriodEnd p e) (λ p e. least ConfirmationLimit p e))
timer_agrees w a AdviceSwitch t d clock room (Some c) es s due on least ok g x = (s, refl, on_change w c es s t x d)
timer_agrees w a Sound t d clock room (Some c) es s due on least ok g x = (s, refl, on_sound w c es s t x d)
timer_agrees w a PeriodEnd t d clock room (Some c) es s due on least ok g x = at_period_end w a c es s t d room x (is_sound clock a c g) due on ok
timer_agrees w a ConfirmationLimit t d clock room (Some c) es s due on least ok g x = ends w a c es s t d room x (is_sound clock a c g) ok (on_time_limit (answered_at c.stage) c.sent c.dues.tariff c.dues.end c.dues.limit c.grant.period c.meter x.entry.switches x.entry.reported s.open_at t d due x.alike.timing)

-- an operation
ends_now : (w : ℕ) (a : Address) (c : Connection) (es : List Entry) (s : Slot) (t clock : ℕ) (room : Bool) → Sendable room (last_report a t (Some c)) → IfFit clock a (Some c) → Live w c es s t → (s' : Slot) × SentIn a (last_report a t (Some c)) s s' × Idle (on_newest (enter_end t) es) s'
ends_now w a c es s t clock room ok g x = ends w a c es s t t room x (is_sound clock a c g) ok (on_time_now (answered_at c.stage) c.sent c.dues.tariff c.dues.end c.dues.limit c.grant.period c.meter x.entry.switches x.entry.reported s.open_at t x.alike.timing)

few_switches : (asked : Bool) (k : ℕ) → (asked && leb most_switches k) ≡ false → asked ≡ true → k + 1 < tariffs
few_switches asked k e h = let z : leb most_switches k ≡ false = sym (ap (λ b. b && leb most_switches k) h) ∙ e in grind (arith, nat_tests)

pub operation_agrees : (w : ℕ) (a : Address) (x : Operation) (t clock : ℕ) (room : Bool) (n : ℕ) (o : Option Connection) (es : List Entry) (s : Slot) → fits x ≡ true → ((j : Timer) (q : ℕ) → due_of (dues_in o) j ≡ Some q → t < q) → Clear (operation_rows room x o n) → Sendable room (by_operation_sent x a t o) → IfFit clock a o → Agrees w o es s t → AgreesAfter w a (does x) t t o es s
operation_agrees w a SetUp t clock room n None es s fit none k ok g y = (s, refl, on_set_up w es s t y)
operation_agrees w a SetUp t clock room n (Some c) es s fit none k ok g y = absurd (differ (sym k.0))
operation_agrees w a Continue t clock room n None es s fit none k ok g y = absurd (differ (sym k.0))
operation_agrees w a Continue t clock room n (Some c) es s fit none k ok g y = (s, refl, on_continue w c es s t y (not_not (consulting c.stage) k.1.0))
operation_agrees w a Bar t clock room n None es s fit none k ok g y = absurd (differ (sym k.0))
operation_agrees w a Bar t clock room n (Some c) es s fit none k ok g y = ends_now w a c es s t clock room ok g y
operation_agrees w a (Instruct i) t clock room n None es s fit none k ok g y = absurd (differ (sym k.0))
operation_agrees w a (Instruct i) t clock room n (Some c) es s fit none k ok g y = (
  s,
  refl,
  on_instruct w c es s t y i k.1.0
      (and_right (within 1 longest_period i.maximum && within 1 parties i.party) (seconds_fit i.switch) fit)
      (few_switches (is_some i.switch) c.meter.switches (or_right (leb most_instructions c.grant.had) (is_some i.switch && leb most_switches c.meter.switches) k.1.1.1.0)),
)
operation_agrees w a (Advise v) t clock room n None es s fit none k ok g y = absurd (differ (sym k.0))
operation_agrees w a (Advise v) t clock room n (Some c) es s fit none k ok g y = (s, refl, on_advise w c es s t y v)
operation_agrees w a Answer t clock room n None es s fit none k ok g y = absurd (differ (sym k.0))
operation_agrees w a Answer t clock room n (Some c) es s fit none k ok g y = (s, refl, on_answer w c es s t y (not_not (waits c.stage) k.1.0) (λ q e. none TariffSwitch q e))
operation_agrees w a Disconnect t clock room n None es s fit none k ok g y = absurd (differ (sym k.0))
operation_agrees w a Disconnect t clock room n (Some c) es s fit none k ok g y = ends_now w a c es s t clock room ok g y
operation_agrees w a (Confirm m) t clock room n None es s fit none k ok g y = absurd (differ (sym k.0))
operation_agrees w a (Confirm m) t clock room n (Some c) es s fit none k ok g y = (s, refl, on_confirm w c es s t y m)
operation_agrees w a Repeat t clock room n None es s fit none k ok g y = absurd (differ (sym k.0))
operation_agrees w a Repeat t clock room n (Some c) es s fit none k ok g y = (s, again_sent w a c es s t t y (is_sound clock a c g) c.awaiting (λ r e. repeatable clock a c r (g c refl) e), on_repeat w c es s t y)
