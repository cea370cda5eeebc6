-- A table's calls by the rule: refused, or admitted. Assumes nothing.
use Rattle.std.proofs.Common.{◌≡◌, ℕ, suc, Bool, true, false, cond, List, [], ◌∷◌, ◌++◌, get_or, Some, None, Ok, Err, Option, Result, sym, refl, ap, ◌∙◌, subst}
use Rattle.std.specs.Option.{option_or}
use Rattle.report.specs.declared.report.Address.{Address}
use Rattle.report.specs.declared.refusal.Refusal.{Refusal}
use Rattle.report.proofs.Addresses.{same_address}
use Rattle.rules.specs.declared.call.Call.{Call}
use Rattle.rules.specs.declared.connection.Connection.{Connection}
use Rattle.rules.specs.declared.call.Reply.TheVariants.{Done}
use Rattle.rules.specs.Core.{Core}
use Rattle.rules.specs.Fit.{fit, AllFit, Sendable}
use Rattle.rules.specs.Sound.{sound}
use Rattle.rules.specs.Reports.{listed}
use Rattle.rules.specs.Rows.{rows, first}
use Rattle.rules.specs.Rules.{Ruled, ruled, effect, order, reports}
use Rattle.invariants.proofs.Basics.{some_same}
use Rattle.invariants.proofs.Fitness.{fit_sound, sends_lawful}
use Rattle.table.specs.declared.place.Place.{Place}
use Rattle.table.specs.declared.place.Outcome.{Outcome}
use Rattle.table.specs.declared.table.Table.{Table}
use Rattle.table.specs.Places.{holds, within, find, fit_place}
use Rattle.table.specs.State.{held, core_of, admitted, FollowsRule}

-- rows before others
pub first_append : (xs ys : List (Bool × Refusal)) → first (xs ++ ys) ≡ option_or (first xs) (first ys)
first_append [] ys = refl
first_append (x ∷ xs) ys = go x.0 (first_append xs ys)
  where
    go : (b : Bool) → first (xs ++ ys) ≡ option_or (first xs) (first ys) → cond b (Some x.1) (first (xs ++ ys)) ≡ option_or (cond b (Some x.1) (first xs)) (first ys)
    go true ih = refl
    go false ih = ih

pub first_before : (xs ys : List (Bool × Refusal)) (e : Refusal) → first xs ≡ Some e → first (xs ++ ys) ≡ Some e
first_before xs ys e h = first_append xs ys ∙ ap (λ o. option_or o (first ys)) h

pub first_after : (xs ys : List (Bool × Refusal)) → first xs ≡ None → first (xs ++ ys) ≡ first ys
first_after xs ys h = first_append xs ys ∙ ap (λ o. option_or o (first ys)) h

-- the connections of a table are fit
pub all_fit : (clock w : ℕ) (ss : List (Option Place)) → ((k : ℕ) → fit_place clock (get_or ss k None) ≡ true) → AllFit (held clock w ss)
all_fit clock w ss h a c e = go ss h e
  where
    here : (s : Option Place) (b : Bool) (rest : Option Connection) → holds a s ≡ b → fit_place clock s ≡ true → (rest ≡ Some c → fit clock a c ≡ true) → cond b (within s) rest ≡ Some c → fit clock a c ≡ true
    here s false rest q f h e = h e
    here None true rest q f h e = cc
    here (Some p) true rest q f h e = ap (fit clock a) (sym (some_same e)) ∙ (ap (λ b. fit clock b p.connection) (same_address a p.address q) ∙ f)

    go : (ss : List (Option Place)) → ((k : ℕ) → fit_place clock (get_or ss k None) ≡ true) → find ss a ≡ Some c → fit clock a c ≡ true
    go [] h e = cc
    go (s ∷ ss) h e = here s (holds a s) (find ss a) refl (h 0) (go ss (λ k. h (suc k))) e

-- and so their numbers are within their types
pub sound_there : (s : Core) (a : Address) (c : Connection) → AllFit s → s.at a ≡ Some c → sound c ≡ true
sound_there s a c g e = fit_sound s.clock a c (g a c e)

-- what an admitting or refusing function returned
pub let_in : {X : Type 0} (x y : X) (r : Option Refusal) → Ok y ≡ admitted x r → (r ≡ None) × (y ≡ x)
let_in x y None e = (refl, cc)
let_in x y (Some f) e = cc

pub kept_out : {X : Type 0} (x : X) (f : Refusal) (r : Option Refusal) → Err f ≡ admitted x r → r ≡ Some f
kept_out x f None e = cc
kept_out x f (Some g) e = cc

-- a refused call
pub refuses : (room : Bool) (call : Call) (t : Table) (r : Result Outcome Refusal) (e : Refusal) → r ≡ Err e → first (rows room call (core_of t)) ≡ Some e → FollowsRule room call t r t
refuses room call t r e is q =
    let k = ap (ruled call (core_of t)) q in
    rw is (record { core = sym (ap (λ (r : Ruled). r.core) k); reply = sym (ap (λ (r : Ruled). r.reply) k); sent = sym (ap (λ (r : Ruled). r.sent) k); sendable = tt; unaltered = refl })

-- an admitted call
pub admits : (room : Bool) (call : Call) (t t' : Table) (x : Outcome) → first (rows room call (core_of t)) ≡ None → core_of t' ≡ effect call (core_of t) → x.order ≡ order call (core_of t) → listed x.report ≡ reports call (core_of t) → FollowsRule room call t (Ok x) t'
admits room call t t' x q m o r =
    let k = ap (ruled call (core_of t)) q in
    record {
      core = m ∙ sym (ap (λ (r : Ruled). r.core) k);
      reply = ap Done o ∙ sym (ap (λ (r : Ruled). r.reply) k);
      sent = r ∙ sym (ap (λ (r : Ruled). r.sent) k);
      sendable = subst (Sendable room) (sym r) (sends_lawful room call (core_of t) q (all_fit t.clock t.wait t.slots t.fitting));
      unaltered = tt;
    }
