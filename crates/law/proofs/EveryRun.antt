-- Every run keeps the law. Assumes nothing.
use Rattle.std.proofs.Common.{◌≡◌, ℕ, Bool, true, false, cond, not, eqb, List, [], ◌∷◌, ◌++◌, is_some, Some, None, Option, sym, refl, ap, ◌∙◌, subst}
use Rattle.report.specs.declared.report.Report.{Report}
use Rattle.account.specs.Rule.{Account, opened, Slot, open_list, accounts}
use Rattle.rules.specs.declared.connection.Connection.{Connection}
use Rattle.rules.specs.Ranges.{clamped}
use Rattle.rules.specs.Core.{Core, answered_at}
use Rattle.rules.specs.Steps.{State, taken}
use Rattle.law.specs.Ticks.{answered_ticks}
use Rattle.law.specs.Journal.{Entry, Journal}
use Rattle.law.specs.Law.{journal, ShowsOne, Shows, AllReported, Accounted, lives, GivesUp, EveryRun}
use Rattle.invariants.proofs.Basics.{none_some}
use Rattle.law.proofs.Agreement.{Timing, figures, Finished, Agrees}
use Rattle.law.proofs.Simulation.{Sim, from_start}
use Rattle.law.proofs.GiveUp.{only, until, goes, repeats}
use Rattle.law.proofs.Stopping.{some_wait, comes}

-- what agrees is accounted for
shows : (w : ℕ) (o : Option Connection) (es : List Entry) (sl : Slot) (clock : ℕ) → Agrees w o es sl clock → Shows (accounts sl) es
shows w None es sl clock g = subst (λ o. Shows (figures (open_list o ++ sl.closed)) es) (sym g.none_open) g.closed_is
shows w (Some c) es sl clock g = subst (λ l. Shows (accounts sl) l) (sym g.newest_is) (go (answered_at c.stage) g.alike.answer_same g.alike.timing)
  where
    unshown : sl.open_at ≡ None → g.entry.reported ≡ None → Shows (accounts sl) (g.entry ∷ g.older)
    unshown p q = subst (λ o. Shows (figures (open_list o ++ sl.closed)) (g.entry ∷ g.older)) (sym p) (subst (λ r. ShowsOne (figures sl.closed) g.entry (λ rest. Shows rest g.older) r) (sym q) g.closed_is)

    shown : (acc : Account) (d : ℕ) → sl.open_at ≡ Some acc → g.entry.reported ≡ Some d → ((k : ℕ) → acc.ticks k ≡ answered_ticks g.entry.answer g.entry.switches d k) → Shows (accounts sl) (g.entry ∷ g.older)
    shown acc d p q right = subst (λ o. Shows (figures (open_list o ++ sl.closed)) (g.entry ∷ g.older)) (sym p) (subst (λ r. ShowsOne (acc.ticks ∷ figures sl.closed) g.entry (λ rest. Shows rest g.older) r) (sym q) (acc.ticks, figures sl.closed, refl, record { each = right; all = λ t e. absurd (none_some (sym g.unended ∙ e)) }, g.closed_is))

    go : (answer : Option ℕ) → answer ≡ g.entry.answer → Timing answer c.sent c.dues.tariff c.dues.end c.dues.limit c.grant.period c.meter g.entry.switches g.entry.reported sl.open_at clock → Shows (accounts sl) (g.entry ∷ g.older)
    go None same_answer x = unshown x.no_account x.none_shown
    go (Some b) same_answer x = by_number (eqb c.sent 0) x.account
      where
        by_number : (z : Bool) → cond z ((sl.open_at ≡ None) × (x.acc ≡ opened) × (g.entry.reported ≡ None)) ((sl.open_at ≡ Some x.acc) × (x.acc.last ≡ c.sent) × (g.entry.reported ≡ Some x.e0)) → Shows (accounts sl) (g.entry ∷ g.older)
        by_number true h = unshown h.0 h.2
        by_number false h = shown x.acc x.e0 h.0 h.2 (λ k. x.sofar.right k ∙ ap (λ o. answered_ticks o g.entry.switches x.e0 k) same_answer)

all_reported_there : (w : ℕ) (o : Option Connection) (es : List Entry) (sl : Slot) (clock : ℕ) → Agrees w o es sl clock → AllReported es
all_reported_there w None es sl clock g = g.all_reported
all_reported_there w (Some c) es sl clock g = subst AllReported (sym g.newest_is) (λ t e some. absurd (none_some (sym g.unended ∙ e)), g.older_reported)

accounting : (w : ℕ) (j : Journal) (sofar : List Report) (s : Core) → Sim w j sofar s → Accounted j sofar
accounting w j sofar s old = record {
  book = old.book;
  none_refused = old.reading;
  shows = λ a. shows w (s.at a) (j.entries a) (old.book a) s.clock (old.agree a);
  ends_reported = λ a. all_reported_there w (s.at a) (j.entries a) (old.book a) s.clock (old.agree a);
}

-- engine and journal have the same connections
connects : (w : ℕ) (o : Option Connection) (es : List Entry) (sl : Slot) (clock : ℕ) → Agrees w o es sl clock → is_some o ≡ lives es
connects w None es sl clock g = go es g.finished
  where
    go : (l : List Entry) → Finished l → false ≡ lives l
    go [] h = refl
    go (e ∷ rest) h = sym (ap not h)
connects w (Some c) es sl clock g = sym (ap lives g.newest_is ∙ ap (λ o. not (is_some o)) g.unended)

giving_up : (w : ℕ) (j : Journal) (given : List Report) (s : State) → Sim (clamped w) j (given ++ s.view.waiting) s.core → GivesUp j s
giving_up w j given s old =
    let v = clamped w in
    let sofar = given ++ s.view.waiting in
    record {
      only = λ c r s' a f older d aw over-now ok. only v j sofar s old a f older aw c r s' d over-now ok;
      until = λ c r s' a f older d aw over-now ok. until v j sofar s old a f older aw c r s' d over-now ok;
      goes = λ t r s' a f older d aw over-now on in_time place. goes v j sofar s old a f older aw t r s' d over-now on in_time place;
      comes = comes v j given s (some_wait w) old;
      repeats = repeats v j sofar s old;
    }

pub every_run : EveryRun
every_run w calls replies v s none_waits run =
    let old = from_start w none_waits run in
    let j = journal w calls replies in
    record {
      accounted = accounting (clamped w) j (taken replies ++ s.view.waiting) s.core old;
      connected = λ a. connects (clamped w) (s.core.at a) (j.entries a) (old.book a) s.core.clock (old.agree a);
      gives_up = giving_up w j (taken replies) s old;
    }
