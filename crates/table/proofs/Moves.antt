-- The write of a place: the core after it, and what a table keeps. Assumes nothing.
use Rattle.std.proofs.Common.{◌≡◌, ℕ, zero, suc, ◌+◌, ◌<◌, ◌≤◌, ◌≢◌, Bool, true, false, cond, not, List, [], ◌∷◌, length, get_or, set, is_some, Some, None, Option, sym, refl, ap, ◌∙◌, subst, ⊎_elim, arith, length-set}
use mathlib.Core.Path.{fun_ext}
use Rattle.std.specs.List.{position}
use Rattle.std.specs.Option.{MatchOption}
use Rattle.std.proofs.lemmas.Bool.Decides.{eqb_tells}
use Rattle.std.proofs.lemmas.List.{get_or-set_same, get_or-set_other}
use Rattle.std.proofs.lemmas.List.Quantifiers.{position-Some}
use Rattle.std.proofs.lemmas.List.Recursion.{found_at}
use Rattle.std.proofs.lemmas.List.Sums.{sum_by-set}
use Rattle.report.specs.declared.report.Address.{Address}
use Rattle.report.specs.Lawful.{same}
use Rattle.report.proofs.Addresses.{same_address, same_self}
use Rattle.rules.specs.declared.connection.Connection.{Connection}
use Rattle.rules.specs.Core.{Core}
use Rattle.rules.specs.Fit.{fit, fit_in}
use Rattle.rules.specs.Limits.{connections}
use Rattle.rules.specs.Rules.{bit}
use Rattle.invariants.proofs.Basics.{differ, some_same, and_left, and_right, and_true}
use Rattle.invariants.proofs.Fitness.{each_stays_fit}
use Rattle.table.specs.declared.place.Place.{Place}
use Rattle.table.specs.declared.table.Table.{Table}
use Rattle.table.specs.Places.{holds, within, find, is_free, used, alone, distinct, fit_place}
use Rattle.table.specs.State.{held, core_of, moved, RoomFor}
use Rattle.table.proofs.Slots.{Bears, held_at, held_nowhere, find_nowhere, one_place, has_free}

-- Where a write goes: the place of the address, or else the first free one.
abbrev pub Goes : List (Option Place) → Option ℕ → Option ℕ → Type 0
Goes ss at o = MatchOption at (o ≡ position is_free ss) (λ i. o ≡ Some i)

-- such a place is there
pub goes_somewhere : (ss : List (Option Place)) (a : Address) (at o : Option ℕ) (next : Option Connection) → length ss ≡ connections → at ≡ position (holds a) ss → Goes ss at o → RoomFor (is_some (find ss a)) (used ss) next → is_some o ≡ true
goes_somewhere ss a (Some i) o next h e g r = ap is_some g
goes_somewhere ss a None o next h e g r = let none = find_nowhere a ss (held_nowhere a ss (sym e)) in let l = (subst (λ o. RoomFor (is_some o) (used ss) next) none r).0 in has_free ss o g (omega arith)

-- The place n is free or has the address a, and no other has it.
pub record Sole (a : Address) (ss : List (Option Place)) (n : ℕ) : Type 0 where
  lt : n < length ss
  at : (p : Place) → get_or ss n None ≡ Some p → p.address ≡ a
  others : (k : ℕ) → k ≢ n → holds a (get_or ss k None) ≡ false

pub sole : (ss : List (Option Place)) (a : Address) (at o : Option ℕ) (n : ℕ) → distinct ss ≡ true → at ≡ position (holds a) ss → Goes ss at o → o ≡ Some n → Sole a ss n
sole ss a None o n d e g q =
    let f = position-Some is_free ss n None (sym g ∙ q) in
    record { lt = f.0; at = λ p r. absurd (differ (ap is_free (sym r) ∙ f.1)); others = λ k ne. held_nowhere a ss (sym e) k }
sole ss a (Some i) o n d e g q =
    let f = position-Some (holds a) ss n None (sym e ∙ (sym g ∙ q)) in
    let h = held_at a (get_or ss n None) f.1 in
    record { lt = f.0; at = λ p r. ap (λ (p : Place). p.address) (some_same (sym r ∙ h.1)) ∙ h.2; others = λ k ne. no (holds a (get_or ss k None)) (λ t. ne (one_place a ss k n d t f.1)) }
  where
    no : (b : Bool) → (b ≡ true → ⊥) → b ≡ false
    no true h = absurd (h refl)
    no false h = refl

further : (a : Address) (s : Option Place) (ss : List (Option Place)) (n : ℕ) → Sole a (s ∷ ss) (suc n) → Sole a ss n
further a s ss n k = record { lt = omega (arith, k.lt); at = k.at; others = λ j ne. k.others (suc j) (λ e. ne (omega arith)) }

-- two cores that agree in what they hold
agree : (t w : ℕ) (f g : Address → Option Connection) (m n : ℕ) → ((x : Address) → f x ≡ g x) → m ≡ n → ◌≡◌ {A = Core} (record { clock = t; wait = w; at = f; count = m }) (record { clock = t; wait = w; at = g; count = n })
agree t w f g m n p q = ap (λ h. record { clock = t; wait = w; at = h; count = m }) (fun_ext p) ∙ ap (λ k. record { clock = t; wait = w; at = g; count = k }) q

-- a place without the address x
not_at : (x a : Address) (s : Option Place) → ((p : Place) → s ≡ Some p → p.address ≡ a) → same x a ≡ false → holds x s ≡ false
not_at x a None h e = refl
not_at x a (Some p) h e = ap (same x) (h p refl) ∙ e

-- past a place that has not the address a
past : (a x : Address) (v : Option Connection) (s : Option Place) (now before : Option Connection) → holds a s ≡ false → now ≡ cond (same x a) v before → cond (holds x s) (within s) now ≡ cond (same x a) v (cond (holds x s) (within s) before)
past a x v s now before p k = by (same x a) refl k
  where
    by : (b : Bool) → same x a ≡ b → now ≡ cond b v before → cond (holds x s) (within s) now ≡ cond b v (cond (holds x s) (within s) before)
    by true e k = rw (ap (λ y. holds y s) (same_address x a e) ∙ p) k
    by false e k = ap (λ o. cond (holds x s) (within s) o) k

-- what a place counts for among those that are taken
abbrev taken : Option Place → ℕ
taken s = cond (is_some s) 1 0

taken_bit : (s : Option Place) → taken s ≡ bit (within s)
taken_bit None = refl
taken_bit (Some p) = refl

used_set : (ss : List (Option Place)) (n : ℕ) (s : Option Place) → n < length ss → used (set ss n s) + taken (get_or ss n None) ≡ used ss + taken s
unfolding used
used_set ss n s l = sum_by-set taken ss n s None l

-- what was found before
before : (ss : List (Option Place)) (a : Address) (n : ℕ) → Sole a ss n → find ss a ≡ within (get_or ss n None)
before ss a n k = by (get_or ss n None) refl k.at
  where
    by : (o : Option Place) → get_or ss n None ≡ o → ((p : Place) → o ≡ Some p → p.address ≡ a) → find ss a ≡ within o
    by (Some p) e h = found_at (λ ss. find ss a) (holds a) within None refl (λ _ _. refl) ss n None k.lt (λ j l. k.others j (λ q. omega arith)) (ap (holds a) e ∙ (ap (same a) (h p refl) ∙ same_self a)) ∙ ap within e
    by None e h = find_nowhere a ss (λ j. ⊎_elim (λ q. ap (λ m. holds a (get_or ss m None)) q.1 ∙ ap (holds a) e) (λ q. k.others j q.1) (eqb_tells j n))

-- every place stays fit as the clock goes on, where the new one is
fit_set : (t : Table) (now n : ℕ) (s : Option Place) → t.clock ≤ now → n < length t.slots → fit_place now s ≡ true → (k : ℕ) → fit_place now (get_or (set t.slots n s) k None) ≡ true
fit_set t now n s on lt is k =
    ⊎_elim
    (λ p. ap (λ j. fit_place now (get_or (set t.slots n s) j None)) p.1 ∙ (ap (fit_place now) (get_or-set_same t.slots n s None lt) ∙ is))
    (λ q. ap (fit_place now) (get_or-set_other t.slots n k s None q.1) ∙ later (get_or t.slots k None) (t.fitting k))
    (eqb_tells k n)
  where
    later : (s : Option Place) → fit_place t.clock s ≡ true → fit_place now s ≡ true
    later None e = refl
    later (Some p) e = each_stays_fit.later t.clock now p.address (Some p.connection) on e

-- what a table keeps, and its core, once its places are ss
pub record Settled (t : Table) (now : ℕ) (a : Address) (next : Option Connection) (ss : List (Option Place)) : Type 0 where
  pub many : length ss ≡ connections
  pub apart : distinct ss ≡ true
  pub fitting : (k : ℕ) → fit_place now (get_or ss k None) ≡ true
  pub core : held now t.wait ss ≡ moved now a next (core_of t)

module _ (a : Address) (next : Option Connection) (s : Option Place) (puts : Bears a next s) where
  -- what is found once the place bears the connection that is to be there
  find_set : (ss : List (Option Place)) (n : ℕ) → Sole a ss n → (x : Address) → find (set ss n s) x ≡ cond (same x a) next (find ss x)
  find_set [] n k x = absurd (omega (arith, k.lt))
  find_set (o ∷ ss) zero k x = by (same x a) refl
    where
      gone : find ss a ≡ None
      gone = find_nowhere a ss (λ j. k.others (suc j) (λ e. omega arith))

      here : (s : Option Place) → ((p : Place) → s ≡ Some p → p.address ≡ a) → cond (holds a s) (within s) (find ss a) ≡ within s
      here None h = gone
      here (Some p) h = rw (ap (same a) (h p refl) ∙ same_self a)

      by : (b : Bool) → same x a ≡ b → cond (holds x s) (within s) (find ss x) ≡ cond b next (cond (holds x o) (within o) (find ss x))
      by true e = rw (same_address x a e) (here s puts.at ∙ puts.same)
      by false e = rw (not_at x a s puts.at e, not_at x a o k.at e)
  find_set (o ∷ ss) (suc n) k x = past a x next o (find (set ss n s) x) (find ss x) (k.others 0 (λ e. omega arith)) (find_set ss n (further a o ss n k) x)

  alone_set : (o : Option Place) (ss : List (Option Place)) (n : ℕ) → Sole a (o ∷ ss) (suc n) → alone o ss ≡ true → alone o (set ss n s) ≡ true
  alone_set None ss n k al = refl
  alone_set (Some q) ss n k al = by (same q.address a) refl (find_set ss n (further a (Some q) ss n k) q.address)
    where
      by : (b : Bool) → same q.address a ≡ b → find (set ss n s) q.address ≡ cond b next (find ss q.address) → not (is_some (find (set ss n s) q.address)) ≡ true
      by true e f = absurd (differ (sym (k.others 0 (λ e. omega arith)) ∙ (ap (same a) (same_address q.address a e) ∙ same_self a)))
      by false e f = ap (λ o. not (is_some o)) f ∙ al

  distinct_set : (ss : List (Option Place)) (n : ℕ) → Sole a ss n → distinct ss ≡ true → distinct (set ss n s) ≡ true
  distinct_set [] n k d = absurd (omega (arith, k.lt))
  distinct_set (o ∷ ss) zero k d = and_true (first s puts.at) (and_right (alone o ss) (distinct ss) d)
    where
      first : (s : Option Place) → ((p : Place) → s ≡ Some p → p.address ≡ a) → alone s ss ≡ true
      first None h = refl
      first (Some p) h = ap (λ b. not (is_some (find ss b))) (h p refl) ∙ ap (λ o. not (is_some o)) (find_nowhere a ss (λ j. k.others (suc j) (λ e. omega arith)))
  distinct_set (o ∷ ss) (suc n) k d = and_true (alone_set o ss n k (and_left (alone o ss) (distinct ss) d)) (distinct_set ss n (further a o ss n k) (and_right (alone o ss) (distinct ss) d))

  -- what a table keeps, and its core, once the place n holds what is put there
  pub settles : (t : Table) (now n : ℕ) → t.clock ≤ now → Sole a t.slots n → fit_in now a next ≡ true → Settled t now a next (set t.slots n s)
  settles t now n on k f =
      let old = before t.slots a n k in
      let count = used_set t.slots n s k.lt in
      let new : taken s ≡ bit next = taken_bit s ∙ ap bit puts.same in
      let gone : taken (get_or t.slots n None) ≡ bit (find t.slots a) = taken_bit (get_or t.slots n None) ∙ ap bit (sym old) in
      record {
        many = length-set t.slots n s ∙ t.many;
        apart = distinct_set t.slots n k t.apart;
        fitting = fit_set t now n s on k.lt (fits s puts.at puts.same);
        core = agree now t.wait _ _ _ _ (find_set t.slots n k) (omega arith);
      }
    where
      fits : (s : Option Place) → ((p : Place) → s ≡ Some p → p.address ≡ a) → within s ≡ next → fit_place now s ≡ true
      fits None h e = refl
      fits (Some p) h e = ap (λ b. fit now b p.connection) (h p refl) ∙ (ap (fit_in now a) e ∙ f)
