-- The first item by the places passed so far. Assumes nothing.
use Rattle.std.proofs.Common.{◌≡◌, ℕ, suc, ◌+◌, ◌<◌, ◌≤◌, Bool, true, false, cond, not, leb, ◌⊎◌, List, [], ◌∷◌, length, get_or, is_some, Some, None, Option, sym, refl, ap, ◌∙◌, subst, inl, inr, ⊎_elim, arith}
use Rattle.std.proofs.lemmas.Bool.Decides.{eqb_tells, nat_tests}
use Rattle.std.proofs.lemmas.List.{get_or_default}
use Rattle.report.specs.declared.report.Address.{Address}
use Rattle.report.specs.Lawful.{same, lawful_address}
use Rattle.report.proofs.Addresses.{same_address, same_self}
use Rattle.rules.specs.declared.due.Timer.{Timer}
use Rattle.rules.specs.declared.due.Timer.TheVariants.{TariffSwitch, AdviceSwitch, Sound, PeriodEnd, ConfirmationLimit}
use Rattle.rules.specs.declared.due.TheConstants.Timer.{ALL}
use Rattle.rules.specs.declared.due.Dues.{Dues}
use Rattle.rules.specs.declared.due.Item.{Item}
use Rattle.rules.specs.declared.connection.Connection.{Connection}
use Rattle.rules.specs.Core.{dues_in}
use Rattle.rules.specs.Dues.{rank, due_of, before, sooner, item, soonest, if_due}
use Rattle.rules.specs.Earliest.{Due, Earliest}
use Rattle.rules.specs.Limits.{timers}
use Rattle.rules.specs.Periods.{none_due}
use Rattle.invariants.proofs.Basics.{differ, none_some, some_same, and_left, and_right, leb_of}
use Rattle.invariants.proofs.Earliest.{one_earliest}
use Rattle.invariants.proofs.Fitness.{fit_there}
use Rattle.table.specs.declared.place.Place.{Place}
use Rattle.table.specs.Places.{holds, within, find, alone, distinct, fit_place}

-- the order of items
not_before_self : (x : Item) → before x x ≡ false
not_before_self x = grind (arith, nat_tests)

not_before_sooner : (x y b : Item) → before x b ≡ false → before y b ≡ true → before x y ≡ false
not_before_sooner x y b p q = grind (arith, nat_tests)

-- the dues at an address
abbrev pub dues_of : List (Option Place) → Address → Dues
dues_of ss a = dues_in (find ss a)

-- x is the item of a timer that runs
abbrev pub Runs : (Address → Dues) → Item → Type 0
Runs f x = Due f x.tick x

-- of the items with P, none runs, or b runs and none that runs comes before it
abbrev pub Best : (Address → Dues) → (Item → Type 0) → Option Item → Type 0
Best f P None = (x : Item) → Runs f x → P x → ⊥
Best f P (Some b) = Runs f b × ((x : Item) → Runs f x → P x → before x b ≡ false)

fewer : (f : Address → Dues) (P Q : Item → Type 0) (best : Option Item) → ((x : Item) → Q x → P x) → Best f P best → Best f Q best
fewer f P Q None to h = λ x r q. h x r (to x q)
fewer f P Q (Some b) to h = (h.0, λ x r q. h.1 x r (to x q))

-- the places that are still to come
pub record Coming (clock : ℕ) (ss rest : List (Option Place)) : Type 0 where
  pub apart : distinct rest ≡ true
  pub fitting : (k : ℕ) → fit_place clock (get_or rest k None) ≡ true
  pub there : (a : Address) (c : Connection) → find rest a ≡ Some c → find ss a ≡ Some c

pub onward : (clock : ℕ) (ss : List (Option Place)) (s : Option Place) (rest : List (Option Place)) → Coming clock ss (s ∷ rest) → Coming clock ss rest
onward clock ss s rest h = record { apart = and_right (alone s rest) (distinct rest) h.apart; fitting = λ k. h.fitting (suc k); there = λ a c e. h.there a c (past s a c (and_left (alone s rest) (distinct rest) h.apart) e) }
  where
    past : (s : Option Place) (a : Address) (c : Connection) → alone s rest ≡ true → find rest a ≡ Some c → cond (holds a s) (within s) (find rest a) ≡ Some c
    past None a c al e = e
    past (Some p) a c al e = by (same a p.address) refl
      where
        by : (b : Bool) → same a p.address ≡ b → cond b (Some p.connection) (find rest a) ≡ Some c
        by true q = let f : find rest p.address ≡ Some c = ap (find rest) (sym (same_address a p.address q)) ∙ e in absurd (differ (sym (ap (λ o. not (is_some o)) f) ∙ al))
        by false q = e

-- an item of no place that is still to come
abbrev pub Passed : List (Option Place) → Item → Type 0
Passed rest x = find rest x.address ≡ None

-- the same, and of the place p only with the first k timers
abbrev pub PassedTo : Place → List (Option Place) → ℕ → Item → Type 0
PassedTo p rest k x = (find rest x.address ≡ None) × (x.address ≡ p.address → rank x.timer < k)

pub nothing : (k : Timer) → due_of none_due k ≡ None
nothing TariffSwitch = refl
nothing AdviceSwitch = refl
nothing Sound = refl
nothing PeriodEnd = refl
nothing ConfirmationLimit = refl

-- the timers stand in their order
in_order : (t d : Timer) → get_or ALL (rank t) d ≡ t
in_order TariffSwitch d = refl
in_order AdviceSwitch d = refl
in_order Sound d = refl
in_order PeriodEnd d = refl
in_order ConfirmationLimit d = refl

below : (t : Timer) → rank t < timers
below TariffSwitch = omega arith
below AdviceSwitch = omega arith
below Sound = omega arith
below PeriodEnd = omega arith
below ConfirmationLimit = omega arith

-- the item of a timer, in parts
item_parts : (a : Address) (k : Timer) (o : Option ℕ) (x : Item) → item a k o ≡ Some x → (x.address ≡ a) × (x.timer ≡ k) × (o ≡ Some x.tick)
item_parts a k None x e = absurd (none_some e)
item_parts a k (Some d) x e = let f = some_same e in (sym (ap (λ (y : Item). y.address) f), sym (ap (λ (y : Item). y.timer) f), ap (λ (y : Item). Some y.tick) f)

item_whole : (x : Item) (a : Address) (k : Timer) (o : Option ℕ) → x.address ≡ a → x.timer ≡ k → o ≡ Some x.tick → item a k o ≡ Some x
item_whole x a k o e f g = rw g (ap (λ b. Some (record { tick = x.tick; address = b; timer = k })) (sym e) ∙ ap (λ j. Some (record { tick = x.tick; address = x.address; timer = j })) (sym f))

module _ (clock : ℕ) (ss : List (Option Place)) (p : Place) (rest : List (Option Place)) where
  -- to the timers of the next place
  pub enter : (best : Option Item) → Best (dues_of ss) (Passed (Some p ∷ rest)) best → Best (dues_of ss) (PassedTo p rest 0) best
  enter best h = fewer (dues_of ss) (Passed (Some p ∷ rest)) (PassedTo p rest 0) best (λ x q. by x q (same x.address p.address) refl) h
    where
      by : (x : Item) → PassedTo p rest 0 x → (b : Bool) → same x.address p.address ≡ b → cond b (Some p.connection) (find rest x.address) ≡ None
      by x q true e = let n = q.1 (same_address x.address p.address e) in absurd (omega arith)
      by x q false e = q.0

  -- past all of them
  pub leave : (k : ℕ) (best : Option Item) → timers ≤ k → Best (dues_of ss) (PassedTo p rest k) best → Best (dues_of ss) (Passed rest) best
  leave k best l h = fewer (dues_of ss) (PassedTo p rest k) (Passed rest) best (λ x q. (q, λ e. let b = below x.timer in omega arith)) h

  module _ (coming : Coming clock ss (Some p ∷ rest)) (k : ℕ) (lt : k < timers) (d : Timer) where
    abbrev t : Timer
    t = get_or ALL k d

    -- the item of the timer k of the place
    abbrev new : Option Item
    new = item p.address t (due_of p.connection.dues t)

    dues : dues_of ss p.address ≡ p.connection.dues
    dues = ap dues_in (coming.there p.address p.connection (ap (λ b. cond b (Some p.connection) (find rest p.address)) (same_self p.address)))

    -- an item that is passed was passed before, or is the new one
    old_or_new : (x : Item) → Runs (dues_of ss) x → PassedTo p rest (k + 1) x → PassedTo p rest k x ⊎ (new ≡ Some x)
    old_or_new x r h = ⊎_elim (λ e. by e.1 (same x.address p.address) refl) (λ n. inl (h.0, λ u. let l = h.1 u in omega (arith, n.1))) (eqb_tells (rank x.timer) k)
      where
        by : rank x.timer ≡ k → (b : Bool) → same x.address p.address ≡ b → PassedTo p rest k x ⊎ (new ≡ Some x)
        by e false q = inl (h.0, λ u. absurd (differ (sym q ∙ (ap (λ a. same a p.address) u ∙ same_self p.address))))
        by e true q =
            let here = same_address x.address p.address q in
            let timer-is : x.timer ≡ t = sym (in_order x.timer t) ∙ (ap (λ n. get_or ALL n t) e ∙ get_or_default ALL k t d lt) in
            inr (item_whole x p.address t _ here timer-is (ap (due_of p.connection.dues) (sym timer-is) ∙ (ap (λ y. due_of y x.timer) (sym (ap (dues_of ss) here ∙ dues)) ∙ r.runs)))

    -- the new one runs
    new_runs : (x : Item) → new ≡ Some x → Runs (dues_of ss) x
    new_runs x e =
        let parts = item_parts p.address t (due_of p.connection.dues t) x e in
        record {
          lawful_there = ap lawful_address parts.0 ∙ fit_there clock p.address p.connection (coming.fitting 0);
          runs = ap (λ a. due_of (dues_of ss a) x.timer) parts.0 ∙ (ap (due_of (dues_of ss p.address)) parts.1 ∙ (ap (λ y. due_of y t) dues ∙ parts.2));
          due = omega arith;
        }

    step : (best o : Option Item) → new ≡ o → Best (dues_of ss) (PassedTo p rest k) best → Best (dues_of ss) (PassedTo p rest (k + 1)) (sooner best o)
    step None None e h = λ x r q. ⊎_elim (h x r) (λ n. none_some (sym e ∙ n)) (old_or_new x r q)
    step (Some b) None e h = (h.0, λ x r q. ⊎_elim (h.1 x r) (λ n. absurd (none_some (sym e ∙ n))) (old_or_new x r q))
    step None (Some y) e h = (new_runs y e, λ x r q. ⊎_elim (λ o. absurd (h x r o)) (λ n. ap (λ z. before z y) (some_same (sym n ∙ e)) ∙ not_before_self y) (old_or_new x r q))
    step (Some b) (Some y) e h = by (before y b) refl
      where
        by : (z : Bool) → before y b ≡ z → Best (dues_of ss) (PassedTo p rest (k + 1)) (cond z (Some y) (Some b))
        by true q = (new_runs y e, λ x r u. ⊎_elim (λ o. not_before_sooner x y b (h.1 x r o) q) (λ n. ap (λ z. before z y) (some_same (sym n ∙ e)) ∙ not_before_self y) (old_or_new x r u))
        by false q = (h.0, λ x r u. ⊎_elim (h.1 x r) (λ n. ap (λ z. before z b) (some_same (sym n ∙ e)) ∙ q) (old_or_new x r u))

    pub more : (best o r : Option Item) → o ≡ new → r ≡ sooner best o → Best (dues_of ss) (PassedTo p rest k) best → Best (dues_of ss) (PassedTo p rest (k + 1)) r
    more best o r e q h = subst (Best (dues_of ss) (PassedTo p rest (k + 1))) (sym q) (step best o (sym e) h)

-- what runs and has none before it is the first of all
first_of_all : (f : Address → Dues) (best : Option Item) → Best f (λ x. Unit {0}) best → best ≡ soonest f
first_of_all f None h = sym (go (soonest f) refl)
  where
    go : (o : Option Item) → soonest f ≡ o → o ≡ None
    go None e = refl
    go (Some b) e =
        let due : if_due b.tick (soonest f) ≡ Some b = ap (if_due b.tick) e ∙ ap (λ z. cond z (Some b) None) (leb_of b.tick b.tick (omega arith)) in
        absurd (h b (subst (Earliest f b.tick) due (one_earliest.is_one f b.tick)).0 tt)
first_of_all f (Some b) h = sym (go (soonest f) (one_earliest.only_one f b.tick (Some b) (h.0, λ x d. h.1 x (record { lawful_there = d.lawful_there; runs = d.runs; due = omega arith }) tt)))
  where
    go : (o : Option Item) → if_due b.tick o ≡ Some b → o ≡ Some b
    go None e = absurd (none_some e)
    go (Some i) e = by (leb i.tick b.tick) e
      where
        by : (z : Bool) → cond z (Some i) None ≡ Some b → Some i ≡ Some b
        by true e = e
        by false e = absurd (none_some e)

-- past all places
pub at_last : (ss rest : List (Option Place)) (best : Option Item) → length rest ≡ 0 → Best (dues_of ss) (Passed rest) best → best ≡ soonest (dues_of ss)
at_last ss [] best l h = first_of_all (dues_of ss) best (fewer (dues_of ss) (Passed []) (λ x. Unit {0}) best (λ x u. refl) h)
at_last ss (s ∷ rest) best l h = absurd (omega arith)
