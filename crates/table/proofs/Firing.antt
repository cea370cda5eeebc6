-- A firing by the rules. Assumes nothing.
use Rattle.std.proofs.Common.{◌≡◌, ℕ, ◌≤◌, Bool, true, false, cond, not, ◌&&◌, eqb, List, [], ◌∷◌, is_some, Some, None, Ok, Err, Option, Result, Bor, sym, refl, ap, ◌∙◌, subst}
use Rattle.std.specs.List.{position}
use Rattle.std.specs.Option.{option_copied}
use Rattle.report.specs.declared.report.Address.{Address}
use Rattle.report.specs.declared.report.Report.{Report}
use Rattle.report.specs.declared.refusal.Refusal.{Refusal}
use Rattle.report.specs.declared.refusal.Refusal.TheVariants.{Untimely, NoFreePlace}
use Rattle.report.proofs.Addresses.{same_self}
use Rattle.rules.specs.declared.call.Call.TheVariants.{Fire}
use Rattle.rules.specs.declared.call.OrderKind.{OrderKind}
use Rattle.rules.specs.declared.due.Item.{Item}
use Rattle.rules.specs.declared.due.Timer.{Timer}
use Rattle.rules.specs.declared.due.Timer.TheVariants.{TariffSwitch, AdviceSwitch, Sound, PeriodEnd, ConfirmationLimit}
use Rattle.rules.specs.declared.connection.Connection.{Connection}
use Rattle.rules.specs.Changes.{by_timer}
use Rattle.rules.specs.Core.{Core, dues_in, dues_at}
use Rattle.rules.specs.Dues.{due_of, earliest}
use Rattle.rules.specs.Fit.{fit_in, AllFit}
use Rattle.rules.specs.Occurrences.{fired}
use Rattle.rules.specs.Orders.{by_timer_order}
use Rattle.rules.specs.Reports.{listed, by_timer_sent}
use Rattle.rules.specs.Rows.{untimely, timer_reports, firing_rows, rows, first}
use Rattle.rules.specs.Rules.{after, order_of, reports_of}
use Rattle.invariants.proofs.Basics.{none_some, not_early}
use Rattle.invariants.proofs.Earliest.{picked}
use Rattle.invariants.proofs.Fitness.{stays_fit}
use Rattle.table.specs.declared.place.Place.{Place}
use Rattle.table.specs.declared.place.Outcome.{Outcome}
use Rattle.table.specs.declared.table.Table.{Table}
use Rattle.table.specs.Places.{holds, within, find, in_place}
use Rattle.table.specs.State.{core_of, admitted, moved, RoomFor, FollowsRule}
use Rattle.table.proofs.Following.{all_fit, let_in, kept_out, refuses, admits}
use Rattle.table.proofs.Slots.{Bears, read}
use Rattle.table.proofs.Seeking.{nothing}

-- whether a firing sends a report
goes : (k : Timer) (a : Address) (d : ℕ) (c : Connection) (r : Option Report) → listed r ≡ by_timer_sent k a d (Some c) → is_some r ≡ timer_reports k (Some c)
goes k a d c r h = some r ∙ (ap any h ∙ sent k)
  where
    any : List Report → Bool
    any [] = false
    any (x ∷ xs) = true

    some : (r : Option Report) → is_some r ≡ any (listed r)
    some None = refl
    some (Some x) = refl

    last : (b : Bool) (x : Report) → any (cond b [] (x ∷ [])) ≡ not b
    last true x = refl
    last false x = refl

    sent : (k : Timer) → any (by_timer_sent k a d (Some c)) ≡ timer_reports k (Some c)
    sent TariffSwitch = refl
    sent AdviceSwitch = refl
    sent Sound = refl
    sent PeriodEnd = refl
    sent ConfirmationLimit = last (eqb c.grant.had 0) _

-- the item that is due first, at the place that is read at its address
pub record Picked (t : Table) (tick now : ℕ) (i : Item) (o : Option (Bor Place)) : Type 0 where
  timely : (untimely tick (core_of t)).0 ≡ false
  is : now ≡ tick
  due : earliest (dues_at (core_of t)) tick ≡ Some i
  old : Bears i.address (find t.slots i.address) (option_copied o)

pub picks : (t : Table) (tick now : ℕ) (i : Item) (at : Option ℕ) (o : Option (Bor Place)) → Ok now ≡ admitted tick (first (untimely tick (core_of t) ∷ [])) → earliest (dues_at (core_of t)) tick ≡ Some i → at ≡ position (holds i.address) t.slots → option_copied o ≡ in_place t.slots at → Picked t tick now i o
picks t tick now i at o e q p r = let k = let_in tick now _ e in record { timely = by (untimely tick (core_of t)).0 k.0; is = k.1; due = q; old = read t.slots i.address at (option_copied o) p r }
  where
    by : (b : Bool) → cond b (Some Untimely) None ≡ None → b ≡ false
    by true e = cc
    by false e = refl

module _ (room : Bool) (t : Table) (tick now : ℕ) (i : Item) (o : Option (Bor Place)) (k : Picked t tick now i o) where
  abbrev s : Core
  s = core_of t

  -- the item decides
  by_item : (r : Option Refusal) → first (firing_rows room s (Some i)) ≡ r → first (rows room (Fire tick) s) ≡ r
  by_item r h = ap (λ (b : Bool). first ((b, Untimely) ∷ firing_rows room s (earliest (dues_at s) tick))) k.timely ∙ (ap (λ o. first (firing_rows room s o)) k.due ∙ h)

  runs_there : is_some (s.at i.address) ≡ true
  runs_there = go (s.at i.address) (picked (dues_at s) tick i k.due).runs
    where
      go : (o : Option Connection) → due_of (dues_in o) i.timer ≡ Some i.tick → is_some o ≡ true
      go None e = absurd (none_some (sym (nothing i.timer) ∙ e))
      go (Some c) e = refl

  pub place_there : is_some o ≡ true
  place_there = go o (ap is_some k.old.same ∙ runs_there)
    where
      go : (o : Option (Bor Place)) → is_some (within (option_copied o)) ≡ true → is_some o ≡ true
      go None e = e
      go (Some p) e = refl

  pub on_time : t.clock ≤ now
  on_time = rw k.is (not_early tick t.clock k.timely)

  pub room_next : (next : Option Connection) → RoomFor (is_some (s.at i.address)) s.count next
  room_next next = subst (λ b. RoomFor b s.count next) (sym runs_there) tt

  -- the place, and what it sends
  module _ (p : Bor Place) (there : o ≡ Some p) (r : Option Report) (sent : listed r ≡ by_timer_sent i.timer p.now.address i.tick (Some p.now.connection)) where
    here : p.now.address ≡ i.address
    here = k.old.at p.now (ap option_copied there)

    same : Some p.now.connection ≡ s.at i.address
    same = sym (ap (λ o. within (option_copied o)) there) ∙ k.old.same

    abbrev full : List (Bool × Refusal)
    full = (is_some r && not room, NoFreePlace) ∷ []

    by_report : (e : Option Refusal) → first full ≡ e → first (rows room (Fire tick) s) ≡ e
    by_report e h = by_item e (ap (λ (b : Bool). first ((b && not room, NoFreePlace) ∷ [])) (ap (timer_reports i.timer) (sym same) ∙ sym (goes i.timer p.now.address i.tick p.now.connection r sent)) ∙ h)

    pub refused_full : (x : Result Outcome Refusal) (e : Refusal) → x ≡ Err e → ◌≡◌ {A = Result (Unit {0}) Refusal} (Err e) (admitted tt (first full)) → FollowsRule room (Fire tick) t x t
    refused_full x e is h = refuses room (Fire tick) t x e is (by_report (Some e) (kept_out tt e (first full) h))

    module _ (pass : ◌≡◌ {A = Result (Unit {0}) Refusal} (Ok tt) (admitted tt (first full))) (next : Option Connection) (n : next ≡ by_timer s.wait i.timer p.now.address i.tick now (Some p.now.connection)) where
      passes : first (rows room (Fire tick) s) ≡ None
      passes = by_report None (let_in tt tt (first full) pass).0

      abbrev turned : Option Connection
      turned = by_timer s.wait i.timer i.address i.tick tick (s.at i.address)

      next_is : turned ≡ next
      next_is = sym (n ∙ (ap (λ a. by_timer s.wait i.timer a i.tick now (Some p.now.connection)) here ∙ (ap (by_timer s.wait i.timer i.address i.tick now) same ∙ ap (λ t. by_timer s.wait i.timer i.address i.tick t (s.at i.address)) k.is)))

      -- a firing leaves a fit connection
      pub fit_next : fit_in now i.address next ≡ true
      fit_next = rw k.is (by next next_is)
        where
          by : (next : Option Connection) → turned ≡ next → fit_in tick i.address next ≡ true
          by None e = refl
          by (Some c) e =
              let after-fit = subst (λ o. AllFit (after (fired tick o) s)) k.due (stays_fit.ever_after room (Fire tick) s passes (all_fit t.clock t.wait t.slots t.fitting)) in
              after-fit i.address c (ap (λ b. cond b turned (s.at i.address)) (same_self i.address) ∙ e)

      pub fires_so : (t' : Table) (kind : OrderKind) → core_of t' ≡ moved now i.address next s → kind ≡ by_timer_order i.timer (Some p.now.connection) → FollowsRule room (Fire tick) t (Ok (record { order = record { address = i.address; kind = kind }; report = r })) t'
      fires_so t' kind m e = admits room (Fire tick) t t' _ passes
          (m ∙ rw k.is (ap (λ o. moved tick i.address o s) (sym next_is) ∙ sym (ap (λ o. after (fired tick o) s) k.due)))
          (ap (λ k. record { address = i.address; kind = k }) (e ∙ ap (by_timer_order i.timer) same) ∙ sym (ap (λ o. order_of (fired tick o) s) k.due))
          (sent ∙ (ap (λ a. by_timer_sent i.timer a i.tick (Some p.now.connection)) here ∙ (ap (by_timer_sent i.timer i.address i.tick) same ∙ sym (ap (λ o. reports_of (fired tick o) s) k.due))))
