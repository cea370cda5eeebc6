-- Every list of calls has a run, and the sample runs come out as written. Assumes nothing.
use Rattle.std.proofs.Common.{◌≡◌, ℕ, suc, ◌-◌, ltb, List, [], ◌∷◌, ◌++◌, length, Some, None, Ok, Err, Option, sym, refl, ap, ◌∙◌, subst, append_assoc, append-nil, arith}
use Rattle.report.specs.declared.report.Report.{Report}
use Rattle.report.specs.declared.refusal.Refusal.{Refusal}
use Rattle.report.specs.declared.refusal.Refusal.TheVariants.{NothingWaits}
use Rattle.rules.specs.declared.call.Call.{Call}
use Rattle.rules.specs.declared.call.Call.TheVariants.{On, Fire, Take}
use Rattle.rules.specs.declared.call.Reply.{Reply}
use Rattle.rules.specs.Rows.{rows, first}
use Rattle.rules.specs.Rules.{reports, ruled, rule}
use Rattle.link.specs.Links.{View}
use Rattle.rules.specs.Steps.{State, Delivers, room, Follows, TakesFrom, Does, Run, over, then}
use Rattle.rules.specs.Play.{ruled_turn, take_turn, turn, plays, left, ring}
use Rattle.rules.specs.Fit.{AllFit, Sendable}
use Rattle.invariants.proofs.Basics.{some_of}
use Rattle.invariants.proofs.Fitness.{stays_fit, sends_lawful}
use Rattle.law.specs.AboutRuns.{NeverStuck, Beginnings, appended, Appends}
use Rattle.law.specs.Samples.{calls_of, replies_of}
use Rattle.law.specs.RunMixed.{mixed}
use Rattle.law.specs.RunLate.{late}
use Rattle.law.specs.RunTariffs.{all_tariffs}
use Rattle.law.specs.RunConnections.{all_connections}
use Rattle.law.specs.RunAdvice.{advice_and_sound}
use Rattle.law.specs.RunUnconfirmed.{unconfirmed, given_up}
use Rattle.law.specs.Runs.{KnownRuns}

-- nothing more, or less
appended_none : (v : View) → appended v [] ≡ v
appended_none v =
    let p : v.waiting ++ [] ≡ v.waiting = append-nil v.waiting in
    let q : v.free - 0 ≡ v.free = omega arith in
    ap (λ l. record { waiting = l; free = v.free - 0; capacity = v.capacity }) p ∙ ap (λ n. record { waiting = v.waiting; free = n; capacity = v.capacity }) q

-- what is delivered is appended
after_all : (rs : List Report) (v u : View) → Delivers rs v u → u ≡ appended v rs
after_all [] v u d = d ∙ sym (appended_none v)
after_all (r ∷ rs) v u d =
    let fewer : (v.free - 1) - length rs ≡ v.free - length (r ∷ rs) = take_one v.free (length rs) in
    after_all rs d.0 u d.2
    ∙ ap (λ (x : View). appended x rs) d.1.2
    ∙ ap (λ l. record { waiting = l; free = (v.free - 1) - length rs; capacity = v.capacity }) (append_assoc v.waiting (r ∷ []) rs)
    ∙ ap (λ n. record { waiting = v.waiting ++ (r ∷ rs); free = n; capacity = v.capacity }) fewer
  where
    take_one : (n k : ℕ) → (n - 1) - k ≡ n - suc k
    take_one n k = omega arith

pub appends : Appends
appends c s s' r d = after_all (rule (room s) c s.core).sent s.view s'.view d.view

-- what is sendable is delivered
delivers : (rs : List Report) (v : View) → Sendable (ltb 0 v.free) rs → Delivers rs v (appended v rs)
delivers [] v h = appended_none v
delivers (r ∷ rs) v h = subst (λ l. Delivers (r ∷ l) v (appended v (r ∷ l))) (sym h.2) (appended v (r ∷ []), (h.0, some_of v.free h.1, refl), refl)

-- one call, played by computation
timed : (c : Call) (s : State) → AllFit s.core → Follows (rule (room s) c s.core) s (rule (room s) c s.core).reply (ruled_turn s (rule (room s) c s.core)).state × AllFit (rule (room s) c s.core).core
timed c s g = go (first (rows (room s) c s.core)) refl
  where
    go : (o : Option Refusal) → first (rows (room s) c s.core) ≡ o → Follows (ruled c s.core o) s (ruled c s.core o).reply (ruled_turn s (ruled c s.core o)).state × AllFit (ruled c s.core o).core
    go (Some n) e = (record { core = refl; reply = refl; view = appended_none s.view }, g)
    go None e = (record { core = refl; reply = refl; view = delivers (reports c s.core) s.view (sends_lawful (room s) c s.core e g) }, stays_fit.ever_after (room s) c s.core e g)

takes : (s : State) (l : List Report) → s.view.waiting ≡ l → TakesFrom s (take_turn s l).reply (take_turn s l).state
takes s [] e = record { core = refl; answer = Err NothingWaits; reply = refl; view = (e, refl, refl) }
takes s (r ∷ rs) e = record { core = refl; answer = Ok r; reply = refl; view = (e, omega arith, refl) }

one : (c : Call) (s : State) → AllFit s.core → Does c s (turn c s).reply (turn c s).state × AllFit (turn c s).state.core
one (On t a x) s g = timed (On t a x) s g
one (Fire t) s g = timed (Fire t) s g
one Take s g = let x = takes s s.view.waiting refl in (x, subst AllFit (sym x.core) g)

-- any list of calls
plays_run : (calls : List Call) (s : State) → AllFit s.core → Run s calls (plays s calls) (left s calls)
plays_run [] s g = over
plays_run (c ∷ cs) s g = let x = one c s g in then x.0 (plays_run cs (turn c s).state x.1)

-- a beginning of a run
pub beginnings : Beginnings
beginnings [] more replies s s' run = record { answered = []; rest = replies; between = s; all = refl; first_part = over; second_part = run }
beginnings (c ∷ cs) more replies s s' (then {m = m} {r = r} {rs = rs} d run) =
    let x = beginnings cs more rs m s' run in
    record { answered = r ∷ x.answered; rest = x.rest; between = x.between; all = ap (λ l. r ∷ l) x.all; first_part = then d x.first_part; second_part = x.second_part }

pub never_stuck : NeverStuck
never_stuck s calls g = (plays s calls, left s calls, plays_run calls s g)

-- over a ring
comes_out : (places : ℕ) (run : List (Call × Reply)) → plays (ring 50 places) (calls_of run) ≡ replies_of run → Run (ring 50 places) (calls_of run) (replies_of run) (left (ring 50 places) (calls_of run))
comes_out places run e = subst (λ rs. Run (ring 50 places) (calls_of run) rs (left (ring 50 places) (calls_of run))) e (plays_run (calls_of run) (ring 50 places) (stays_fit.at_first 50))

pub known_runs : KnownRuns
known_runs = record {
  mixed_run = record { is_run = comes_out 3 mixed refl; shows = (record { by_accounts = refl; by_journal = refl }, (record { by_accounts = refl; by_journal = refl }, (record { by_accounts = refl; by_journal = refl }, tt))) };
  late_run = record { is_run = comes_out 3 late refl; shows = (record { by_accounts = refl; by_journal = refl }, (record { by_accounts = refl; by_journal = refl }, (record { by_accounts = refl; by_journal = refl }, tt))) };
  tariffs_run = record { is_run = comes_out 20 all_tariffs refl; shows = (record { by_accounts = refl; by_journal = refl }, tt) };
  connections_run = record { is_run = comes_out 20 all_connections refl; shows = tt };
  advice_run = record { is_run = comes_out 1 advice_and_sound refl; shows = (record { by_accounts = refl; by_journal = refl }, (record { by_accounts = refl; by_journal = refl }, tt)) };
  unconfirmed_run = record { is_run = comes_out 8 unconfirmed refl; shows = (record { by_accounts = refl; by_journal = refl }, tt) };
  awaits = record { entry = _; newest_is = refl; unended = refl; since = refl };
  given_up_run = record { is_run = comes_out 8 given_up refl; shows = (record { by_accounts = refl; by_journal = refl }, tt) };
  ends_late = record { entry = _; newest_is = refl; as_of = refl };
}
