-- What the connection at an address, its entry and its account have in common. Assumes nothing.
use Rattle.std.proofs.Common.{◌≡◌, ℕ, ◌+◌, ◌<◌, ◌≤◌, Bool, true, false, cond, eqb, List, [], ◌∷◌, map, length, is_some as option_is_some, Some, None, Option, sym, ap, ◌∙◌, arith}
use Rattle.std.specs.Option.{option_map}
use Rattle.report.specs.Limits.{tariffs}
use Rattle.account.specs.Rule.{Account, opened, Slot}
use Rattle.rules.specs.declared.connection.Period.{Period}
use Rattle.rules.specs.declared.connection.Meter.{Meter}
use Rattle.rules.specs.declared.connection.Connection.{Connection}
use Rattle.rules.specs.Periods.{none_due}
use Rattle.rules.specs.Times.{counts_from}
use Rattle.rules.specs.Core.{dues_in, answered_at}
use Rattle.law.specs.Journal.{Entry, dues_of, newest}
use Rattle.law.specs.Law.{Shows, AllReported}
use Rattle.rules.specs.Changes.{terms_of}
use Rattle.law.proofs.Tallies.{Metered, sent, Kept, early_list, NoLater, is_some}

-- what a connection meters since the answer a
abbrev pub metered_of : ℕ → Meter → Metered
metered_of a m = record { count = m.switches; base = counts_from a m.last; interval = m.interval }

-- the account of a connection with so many reports sent
abbrev pub Opened : ℕ → Account → Option Account → Option ℕ → ℕ → Type 0
Opened n acc o reported e0 = cond (eqb n 0) ((o ≡ None) × (acc ≡ opened) × (reported ≡ None)) ((o ≡ Some acc) × (acc.last ≡ n) × (reported ≡ Some e0))

-- what is pending comes after the newest tick of the connection
pub record Pending (tariff end limit : Option ℕ) (period : Option Period) (m : Meter) (n : ℕ) (spent : Bool) : Type 0 where
  pub switch_on : (d : ℕ) → tariff ≡ Some d → (n < d) × (spent ≡ false) × (m.switches + 1 < tariffs)
  pub end_on : (p : ℕ) → end ≡ Some p → (n ≤ p) × (option_is_some period ≡ true)
  pub quiet : option_is_some period ≡ false → (spent ≡ false) × (tariff ≡ None)
  pub limit_on : (q : ℕ) → limit ≡ Some q → (n ≤ q) × (option_is_some period ≡ false)

-- after the answer: the account is right up to e0, and n is the newest tick
pub record SinceAnswer (sent : ℕ) (tariff end limit : Option ℕ) (period : Option Period) (m : Meter) (ss : List ℕ) (reported : Option ℕ) (o : Option Account) (clock a : ℕ) : Type 0 where
  pub e0 : ℕ
  pub n : ℕ
  pub acc : Account
  pub spent : Bool
  pub sofar : Kept ss a e0 n spent (metered_of a m) acc
  pub past : n ≤ clock
  pub pending : Pending tariff end limit period m n spent
  pub account : Opened sent acc o reported e0

-- before the answer: at most one switch, and nothing reported
pub record Unanswered (sent : ℕ) (tariff end limit : Option ℕ) (period : Option Period) (m : Meter) (ss : List ℕ) (reported : Option ℕ) (o : Option Account) (clock : ℕ) : Type 0 where
  pub none_sent : sent ≡ 0
  pub no_account : o ≡ None
  pub none_shown : reported ≡ None
  pub no_end : end ≡ None
  pub no_limit : limit ≡ None
  pub no_interval : m.interval ≡ None
  pub before : Option ℕ
  pub switches_are : ss ≡ early_list before
  pub counts : m.switches ≡ length (early_list before)
  pub last_is : m.last ≡ before
  pub past : NoLater clock before
  pub spent : is_some before ≡ true → tariff ≡ None
  pub idle : option_is_some period ≡ false → (before ≡ None) × (tariff ≡ None)

-- by whether there was an answer
abbrev pub Timing : Option ℕ → ℕ → Option ℕ → Option ℕ → Option ℕ → Option Period → Meter → List ℕ → Option ℕ → Option Account → ℕ → Type 0
Timing None sent tariff end limit period m ss reported o clock = Unanswered sent tariff end limit period m ss reported o clock
Timing (Some a) sent tariff end limit period m ss reported o clock = SinceAnswer sent tariff end limit period m ss reported o clock a

-- the same of a connection
abbrev pub TimingOf : Connection → List ℕ → Option ℕ → Option Account → ℕ → Type 0
TimingOf c ss reported o clock = Timing (answered_at c.stage) c.sent c.dues.tariff c.dues.end c.dues.limit c.grant.period c.meter ss reported o clock

-- a connection and its entry have the same answer, instructions, periods and dues; w is the wait
pub record Alike (w : ℕ) (c : Connection) (e : Entry) (o : Option Account) (clock : ℕ) : Type 0 where
  pub dues_same : c.dues ≡ e.dues
  pub period_same : option_map terms_of c.grant.period ≡ e.period
  pub previous_same : c.grant.previous ≡ newest e.ends
  pub had_same : c.grant.had ≡ length e.instructions
  pub answer_same : answered_at c.stage ≡ e.answer
  pub limit_same : c.dues.limit ≡ option_map (λ f. f + w) e.awaiting
  pub timing : TimingOf c e.switches e.reported o clock

-- what each of some accounts shows
abbrev pub figures : List Account → List (ℕ → ℕ)
figures accs = map (λ x. x.ticks) accs

-- a connection that has not ended
pub record Live (w : ℕ) (c : Connection) (es : List Entry) (s : Slot) (clock : ℕ) : Type 0 where
  pub entry : Entry
  pub older : List Entry
  pub newest_is : es ≡ entry ∷ older
  pub closed_is : Shows (figures s.closed) older
  pub older_reported : AllReported older
  pub unended : entry.ended ≡ None
  pub alike : Alike w c entry s.open_at clock

-- the newest connection has ended
abbrev pub Finished : List Entry → Type 0
Finished [] = Unit {0}
Finished (e ∷ es) = option_is_some e.ended ≡ true

-- where no connection is, all entries have ended
pub record Idle (es : List Entry) (s : Slot) : Type 0 where
  pub none_open : s.open_at ≡ None
  pub closed_is : Shows (figures s.closed) es
  pub all_reported : AllReported es
  pub finished : Finished es
  pub none_due_there : dues_of es ≡ none_due

-- an address: connection, entries and accounts agree
abbrev pub Agrees : ℕ → Option Connection → List Entry → Slot → ℕ → Type 0
Agrees w None es s clock = Idle es s
Agrees w (Some c) es s clock = Live w c es s clock

-- a later clock
no_later_yet : (p : Option ℕ) (x y : ℕ) → x ≤ y → NoLater x p → NoLater y p
no_later_yet None x y h l = tt
no_later_yet (Some p) x y h l = omega arith

timing_later : (answer : Option ℕ) (sent : ℕ) (tariff end limit : Option ℕ) (period : Option Period) (m : Meter) (ss : List ℕ) (reported : Option ℕ) (o : Option Account) (clock t : ℕ) → clock ≤ t → Timing answer sent tariff end limit period m ss reported o clock → Timing answer sent tariff end limit period m ss reported o t
timing_later None sent tariff end limit period m ss reported o clock t h x = record { none_sent = x.none_sent; no_account = x.no_account; none_shown = x.none_shown; no_end = x.no_end; no_limit = x.no_limit; no_interval = x.no_interval; before = x.before; switches_are = x.switches_are; counts = x.counts; last_is = x.last_is; past = no_later_yet x.before clock t h x.past; spent = x.spent; idle = x.idle }
timing_later (Some a) sent tariff end limit period m ss reported o clock t h x = record { e0 = x.e0; n = x.n; acc = x.acc; spent = x.spent; sofar = x.sofar; past = (let p = x.past in omega arith); pending = x.pending; account = x.account }

alike_later : (w : ℕ) (c : Connection) (e : Entry) (o : Option Account) (clock t : ℕ) → clock ≤ t → Alike w c e o clock → Alike w c e o t
alike_later w c e o clock t h x = record {
  dues_same = x.dues_same;
  period_same = x.period_same;
  previous_same = x.previous_same;
  had_same = x.had_same;
  answer_same = x.answer_same;
  limit_same = x.limit_same;
  timing = timing_later (answered_at c.stage) c.sent c.dues.tariff c.dues.end c.dues.limit c.grant.period c.meter e.switches e.reported o clock t h x.timing;
}

pub later : (w : ℕ) (o : Option Connection) (es : List Entry) (s : Slot) (clock t : ℕ) → clock ≤ t → Agrees w o es s clock → Agrees w o es s t
later w None es s clock t h g = g
later w (Some c) es s clock t h g = record { entry = g.entry; older = g.older; newest_is = g.newest_is; closed_is = g.closed_is; older_reported = g.older_reported; unended = g.unended; alike = alike_later w c g.entry s.open_at clock t h g.alike }

-- the dues of an address are the same in both
pub same_dues : (w : ℕ) (o : Option Connection) (es : List Entry) (s : Slot) (clock : ℕ) → Agrees w o es s clock → dues_in o ≡ dues_of es
same_dues w None es s clock g = sym g.none_due_there
same_dues w (Some c) es s clock g = g.alike.dues_same ∙ sym (ap dues_of g.newest_is)
