-- The law of whole runs, over any link that keeps its meaning. Assumes nothing.
use Rattle.std.specs.Prelude.{◌≡◌, ℕ, zero, suc, ◌+◌, ◌*◌, ◌<◌, ◌≤◌, Bool, true, false, not, ◌⊎◌, List, [], ◌∷◌, ◌++◌, length, is_some, Some, None, Ok, Option, ◌≢◌}
use Rattle.report.specs.declared.report.Address.{Address}
use Rattle.report.specs.declared.report.Standing.TheVariants.{Ended}
use Rattle.report.specs.declared.report.Report.{Report}
use Rattle.report.specs.declared.refusal.Refusal.TheVariants.{NoFreePlace}
use Rattle.report.specs.Limits.{last_tick, tariffs}
use Rattle.account.specs.Rule.{Book, no_accounts, read_list, accounts, total}
use Rattle.rules.specs.declared.call.Operation.TheVariants.{Repeat}
use Rattle.rules.specs.declared.call.Call.{Call}
use Rattle.rules.specs.declared.call.Call.TheVariants.{On, Fire, Take}
use Rattle.rules.specs.declared.call.OrderKind.TheVariants as order-kind
use Rattle.rules.specs.declared.call.Reply.{Reply}
use Rattle.rules.specs.declared.call.Reply.TheVariants.{Refused, Done, Took}
use Rattle.rules.specs.Limits.{connections, timers}
use Rattle.rules.specs.Core.{start}
use Rattle.link.specs.Links.{View}
use Rattle.rules.specs.Steps.{State, Does, Run, taken}
use Rattle.law.specs.Ticks.{answered_ticks, whole_time}
use Rattle.law.specs.Journal.{Entry, Journal, empty, enter, feed, feed_one, call_at}

-- whether a call was admitted
abbrev pub admitted : Reply → Bool
admitted (Refused e) = false
admitted (Done o) = true
admitted (Took r) = true

-- what the journal is fed of a run: each call, and whether it was admitted
abbrev pub fed : List Call → List Reply → List (Call × Bool)
fed [] rs = []
fed (c ∷ cs) [] = []
fed (c ∷ cs) (r ∷ rs) = (c, admitted r) ∷ fed cs rs

-- the journal of a run
abbrev pub journal : ℕ → List Call → List Reply → Journal
journal w calls replies = feed (empty w) (fed calls replies)

-- The account f of a connection whose newest report is as of d shows, per tariff, exactly the answered ticks up to that report. Once the
-- connection has ended, these add up to its whole answered time.
pub record Right (f : ℕ → ℕ) (e : Entry) (d : ℕ) : Type 0 where
  pub each : (k : ℕ) → f k ≡ answered_ticks e.answer e.switches d k
  pub all : (t : ℕ) → e.ended ≡ Some t → (d ≡ t) × (total tariffs f ≡ whole_time e.answer t)

-- the newest account is the newest connection's if that has a report, and the others show the others
abbrev pub ShowsOne : List (ℕ → ℕ) → Entry → (List (ℕ → ℕ) → Type 0) → Option ℕ → Type 0
ShowsOne fs e Others None = Others fs
ShowsOne fs e Others (Some d) = (f : ℕ → ℕ) × (rest : List (ℕ → ℕ)) × (fs ≡ f ∷ rest) × Right f e d × Others rest

-- the accounts of an address are those of its reported connections, in order
abbrev pub Shows : List (ℕ → ℕ) → List Entry → Type 0
Shows fs [] = fs ≡ []
Shows fs (e ∷ es) = ShowsOne fs e (λ rest. Shows rest es) e.reported

-- an instructed connection that has ended is reported, as of its end
abbrev pub AllReported : List Entry → Type 0
AllReported [] = Unit {0}
AllReported (e ∷ es) = ((t : ℕ) → e.ended ≡ Some t → 0 < length e.instructions → e.reported ≡ Some t) × AllReported es

-- Read by the account rule, no report is refused, and at each address the accounts show what the journal has.
pub record Accounted (j : Journal) (reports : List Report) : Type 0 where
  pub book : Book
  pub none_refused : read_list reports no_accounts ≡ Ok book
  pub shows : (a : Address) → Shows (accounts (book a)) (j.entries a)
  pub ends_reported : (a : Address) → AllReported (j.entries a)

-- whether the newest connection of an address has not ended
abbrev pub lives : List Entry → Bool
lives [] = false
lives (e ∷ es) = not (is_some e.ended)

-- the newest connection of an address has not ended, and its report awaits confirmation since f
pub record Awaits (j : Journal) (a : Address) (f : ℕ) (older : List Entry) : Type 0 where
  pub entry : Entry
  pub newest_is : j.entries a ≡ entry ∷ older
  pub unended : entry.ended ≡ None
  pub since : entry.awaiting ≡ Some f

-- the newest connection of an address has ended as of d
pub record HasEnded (j : Journal) (a : Address) (d : ℕ) (older : List Entry) : Type 0 where
  pub entry : Entry
  pub newest_is : j.entries a ≡ entry ∷ older
  pub as_of : entry.ended ≡ Some d

-- a call is a firing or a take
abbrev pub FiresOrTakes : Call → Type 0
FiresOrTakes (On t a x) = ⊥
FiresOrTakes (Fire t) = Unit {0}
FiresOrTakes Take = Unit {0}

-- a call is a firing
abbrev pub Fires : Call → Type 0
Fires (On t a x) = ⊥
Fires (Fire t) = Unit {0}
Fires Take = ⊥

-- A firing ended the connection of an address as of d: the host is told so, and its last report, as of d, waits after the others.
pub record EndsSo (a : Address) (d : ℕ) (c : Call) (s : State) (r : Reply) (s' : State) : Type 0 where
  pub by_firing : Fires c
  pub told : r ≡ Done (record { address = a; kind = order-kind.Ended })
  pub last : Report
  pub sent : s'.view.waiting ≡ s.view.waiting ++ (last ∷ [])
  pub from_here : last.address ≡ a
  pub as_of : last.tick ≡ d
  pub is_last : last.standing ≡ Ended

-- so many firings at one tick
abbrev pub firings : ℕ → ℕ → List Call
firings zero t = []
firings (suc n) t = Fire t ∷ firings n t

-- none of the calls was refused because no place was free
abbrev pub NoneLacked : List Reply → Type 0
NoneLacked [] = Unit {0}
NoneLacked (r ∷ rs) = (r ≢ Refused NoFreePlace) × NoneLacked rs

-- The give-up limit, whatever call comes next.
pub record GivesUp (j : Journal) (s : State) : Type 0 where
  -- At the wait's end after an awaiting report's first sending f and later, only firings and takes are admitted,
  pub only : (c : Call) (r : Reply) (s' : State) (a : Address) (f : ℕ) (older : List Entry) → Does c s r s' → Awaits j a f older → f + j.wait ≤ call_at c j.clock → admitted r ≡ true → FiresOrTakes c
  -- until a firing ends that connection as of the wait's end, and says so.
  pub until : (c : Call) (r : Reply) (s' : State) (a : Address) (f : ℕ) (older : List Entry) → Does c s r s' → Awaits j a f older → f + j.wait ≤ call_at c j.clock → admitted r ≡ true → Awaits (enter c j) a f older ⊎ (HasEnded (enter c j) a (f + j.wait) older × EndsSo a (f + j.wait) c s r s')
  -- A firing then is admitted while a place is free,
  pub goes : (t : ℕ) (r : Reply) (s' : State) (a : Address) (f : ℕ) (older : List Entry) → Does (Fire t) s r s' → Awaits j a f older → f + j.wait ≤ t → j.clock ≤ t → t ≤ last_tick → 0 < s.view.free → admitted r ≡ true
  -- and as many firings at one tick as there can be timers, for none of which a place lacked, end it.
  pub comes : (t n : ℕ) (rs : List Reply) (s' : State) (a : Address) (f : ℕ) (older : List Entry) → Run s (firings n t) rs s' → Awaits j a f older → f + j.wait ≤ t → j.clock ≤ t → t ≤ last_tick → connections * timers ≤ n → NoneLacked rs → HasEnded (feed j (fed (firings n t) rs)) a (f + j.wait) older
  -- No repeat moves it: connections and entries stay as they were.
  pub repeats : (t : ℕ) (r : Reply) (s' : State) (a : Address) → Does (On t a Repeat) s r s' → (b : Address) → (s'.core.at b ≡ s.core.at b) × ((feed_one j (On t a Repeat, admitted r)).entries b ≡ j.entries b)

-- After a run: the reports taken, then those waiting, are accounted for; engine and journal have the same connections; and the give-up limit is kept.
-- Since every beginning of a run is a run, all this holds at each of its calls.
pub record Law (w : ℕ) (calls : List Call) (replies : List Reply) (s : State) : Type 0 where
  pub accounted : Accounted (journal w calls replies) (taken replies ++ s.view.waiting)
  pub connected : (a : Address) → is_some (s.core.at a) ≡ lives ((journal w calls replies).entries a)
  pub gives_up : GivesUp (journal w calls replies) s

-- whatever the wait and the calls, and whatever the link does within its meaning, after a run from a new engine over an empty link
abbrev pub EveryRun : Type 0
EveryRun = (w : ℕ) (calls : List Call) (replies : List Reply) (v : View) (s : State) → v.waiting ≡ [] → Run (record { core = start w; view = v }) calls replies s → Law w calls replies s
