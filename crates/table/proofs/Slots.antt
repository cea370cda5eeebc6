-- Places found by their addresses. Assumes nothing.
use Rattle.std.proofs.Common.{◌≡◌, ℕ, zero, suc, ◌<◌, ◌≤◌, Bool, true, false, cond, not, ltb, nat_le, ◌⊎◌, List, [], ◌∷◌, length, get_or, is_some, Some, None, Option, sym, refl, ap, ◌∙◌, ⊎_elim, arith}
use Rattle.std.specs.List.{position, position_or_len}
use Rattle.std.proofs.lemmas.Bool.Decides.{nat_tests}
use Rattle.std.proofs.lemmas.List.{get_or_past}
use Rattle.std.proofs.lemmas.List.Quantifiers.{position-Some}
use Rattle.std.proofs.lemmas.List.Recursion.{found_at, found_nowhere}
use Rattle.std.proofs.lemmas.List.Sums.{fails_before_first, count_by-le-length, sum_by-cons}
use Rattle.report.specs.declared.report.Address.{Address}
use Rattle.report.proofs.Addresses.{same_address}
use Rattle.rules.specs.declared.connection.Connection.{Connection}
use Rattle.rules.specs.Limits.{connections}
use Rattle.invariants.proofs.Basics.{differ, some_same, and_left, and_right}
use Rattle.table.specs.declared.place.Place.{Place}
use Rattle.table.specs.Places.{holds, within, find, in_place, is_free, used, alone, distinct}

-- where `position` finds none, no place passes
pub nowhere : (test : Option Place → Bool) (ss : List (Option Place)) → position test ss ≡ None → (k : ℕ) → k < length ss → test (get_or ss k None) ≡ false
nowhere test ss e k l = fails_before_first test ss k None (by (ltb (position_or_len test ss) (length ss)) refl e)
  where
    by : (b : Bool) → ltb (position_or_len test ss) (length ss) ≡ b → cond b (Some (position_or_len test ss)) None ≡ None → k < position_or_len test ss
    by true q e = cc
    by false q e = grind (arith, nat_tests)

pub held_nowhere : (a : Address) (ss : List (Option Place)) → position (holds a) ss ≡ None → (k : ℕ) → holds a (get_or ss k None) ≡ false
held_nowhere a ss e k = ⊎_elim (nowhere (holds a) ss e k) (λ l. ap (holds a) (get_or_past ss k None l)) (split k (length ss))
  where
    split : (m n : ℕ) → (m < n) ⊎ (n ≤ m)
    split m n = grind arith

-- a place with the address a
pub held_at : (a : Address) (s : Option Place) → holds a s ≡ true → (p : Place) × (s ≡ Some p) × (p.address ≡ a)
held_at a None e = cc
held_at a (Some p) e = (p, refl, sym (same_address a p.address e))

-- what is found at an address
pub find_at : (a : Address) (ss : List (Option Place)) (i : ℕ) → position (holds a) ss ≡ Some i → find ss a ≡ within (get_or ss i None)
find_at a ss i e = let k = position-Some (holds a) ss i None e in found_at (λ ss. find ss a) (holds a) within None refl (λ _ _. refl) ss i None k.0 k.2 k.1

pub find_nowhere : (a : Address) (ss : List (Option Place)) → ((k : ℕ) → holds a (get_or ss k None) ≡ false) → find ss a ≡ None
find_nowhere a ss h = found_nowhere (λ ss. find ss a) (holds a) within None refl (λ _ _. refl) ss None (λ k l. h k)

-- a place with the connection that may be at an address
pub record Bears (a : Address) (o : Option Connection) (s : Option Place) : Type 0 where
  pub same : within s ≡ o
  pub at : (p : Place) → s ≡ Some p → p.address ≡ a

-- the place that is read at an address
pub read : (ss : List (Option Place)) (a : Address) (i : Option ℕ) (o : Option Place) → i ≡ position (holds a) ss → o ≡ in_place ss i → Bears a (find ss a) o
read ss a None o e h = record { same = ap within h ∙ sym (find_nowhere a ss (held_nowhere a ss (sym e))); at = λ p q. cc }
read ss a (Some i) o e h =
    let q = held_at a (get_or ss i None) (position-Some (holds a) ss i None (sym e)).1 in
    record {
      same = ap within h ∙ sym (find_at a ss i (sym e));
      at = λ p r. ap (λ (p : Place). p.address) (some_same (sym r ∙ (h ∙ q.1))) ∙ q.2;
    }

-- what a place with the address holds is found, if not at another place
found : (a : Address) (ss : List (Option Place)) (k : ℕ) → holds a (get_or ss k None) ≡ true → is_some (find ss a) ≡ true
found a [] k e = cc
found a (s ∷ ss) zero e = let q = held_at a s e in ap (λ b. is_some (cond b (within s) (find ss a))) e ∙ ap (λ s. is_some (within s)) q.1
found a (s ∷ ss) (suc k) e = by s (holds a s) refl (found a ss k e)
  where
    by : (s : Option Place) (b : Bool) → holds a s ≡ b → is_some (find ss a) ≡ true → is_some (cond b (within s) (find ss a)) ≡ true
    by None true q f = cc
    by (Some p) true q f = refl
    by s false q f = f

-- no place further on has the address of this one
twice : (a : Address) (s : Option Place) (ss : List (Option Place)) (k : ℕ) → alone s ss ≡ true → holds a s ≡ true → holds a (get_or ss k None) ≡ true → ⊥
twice a None ss k al p q = differ p
twice a (Some x) ss k al p q = differ (ap not (sym (found a ss k q)) ∙ (ap (λ b. not (is_some (find ss b))) (same_address a x.address p) ∙ al))

-- two places with one address are one
pub one_place : (a : Address) (ss : List (Option Place)) (i k : ℕ) → distinct ss ≡ true → holds a (get_or ss i None) ≡ true → holds a (get_or ss k None) ≡ true → i ≡ k
one_place a [] i k d p q = cc
one_place a (s ∷ ss) zero zero d p q = refl
one_place a (s ∷ ss) zero (suc k) d p q = absurd (twice a s ss k (and_left (alone s ss) (distinct ss) d) p q)
one_place a (s ∷ ss) (suc i) zero d p q = absurd (twice a s ss i (and_left (alone s ss) (distinct ss) d) q p)
one_place a (s ∷ ss) (suc i) (suc k) d p q = ap suc (one_place a ss i k (and_right (alone s ss) (distinct ss) d) p q)

-- how many places are taken
full_up : (ss : List (Option Place)) → ((k : ℕ) → k < length ss → is_free (get_or ss k None) ≡ false) → used ss ≡ length ss
unfolding used
full_up [] h = refl
full_up (s ∷ ss) h = let n = h 0 (omega arith) in let ih = full_up ss (λ k l. h (suc k) (omega arith)) in grind (arith, nat_tests, sum_by-cons (λ x. cond (is_some x) 1 0) s ss)

room_left : (ss : List (Option Place)) (k : ℕ) → k < length ss → is_free (get_or ss k None) ≡ true → used ss < length ss
unfolding used
room_left [] k l e = absurd (omega arith)
room_left (s ∷ ss) zero l e = let m = count_by-le-length is_some ss in grind (arith, nat_tests, sum_by-cons (λ x. cond (is_some x) 1 0) s ss)
room_left (s ∷ ss) (suc k) l e = let ih = room_left ss k (omega arith) e in grind (arith, nat_tests, sum_by-cons (λ x. cond (is_some x) 1 0) s ss)

pub is_full : (ss : List (Option Place)) (o : Option ℕ) → length ss ≡ connections → o ≡ position is_free ss → not (is_some o) ≡ nat_le connections (used ss)
is_full ss None h e = let u = full_up ss (nowhere is_free ss (sym e)) in let v : nat_le connections (used ss) ≡ true = grind (arith, nat_tests) in sym v
is_full ss (Some i) h e = let p = position-Some is_free ss i None (sym e) in let u = room_left ss i p.0 p.1 in let v : nat_le connections (used ss) ≡ false = grind (arith, nat_tests) in sym v

-- where there is room, a place is free
pub has_free : (ss : List (Option Place)) (o : Option ℕ) → o ≡ position is_free ss → used ss < length ss → is_some o ≡ true
has_free ss (Some i) e l = refl
has_free ss None e l = let u = full_up ss (nowhere is_free ss (sym e)) in absurd (omega arith)
