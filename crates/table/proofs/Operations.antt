-- An operation by the rules. Assumes nothing.
use Rattle.std.proofs.Common.{◌≡◌, ℕ, ◌≤◌, Bool, true, false, cond, not, ◌&&◌, [], ◌∷◌, is_some, Some, None, Ok, Err, Option, Result, sym, refl, ap, ◌∙◌}
use Rattle.std.specs.List.{position}
use Rattle.std.specs.Option.{MatchOption, option_or}
use Rattle.report.specs.declared.report.Address.{Address}
use Rattle.report.specs.declared.report.Report.{Report}
use Rattle.report.specs.declared.refusal.Refusal.{Refusal}
use Rattle.report.specs.declared.refusal.Refusal.TheVariants.{NoConnection, WrongStage, NoFreePlace}
use Rattle.report.specs.Lawful.{lawful_address}
use Rattle.report.proofs.Addresses.{same_self}
use Rattle.rules.specs.declared.call.Operation.{Operation}
use Rattle.rules.specs.declared.call.Operation.TheVariants.{SetUp, Continue, Bar, Instruct, Advise, Answer, Disconnect, Confirm, Repeat}
use Rattle.rules.specs.declared.call.Call.TheVariants.{On}
use Rattle.rules.specs.declared.call.OrderKind.{OrderKind}
use Rattle.rules.specs.declared.connection.Connection.{Connection}
use Rattle.rules.specs.Core.{Core}
use Rattle.rules.specs.Changes.{by_operation}
use Rattle.rules.specs.Fit.{fit_in}
use Rattle.rules.specs.Limits.{connections}
use Rattle.rules.specs.Orders.{stage_in, by_operation_order}
use Rattle.rules.specs.Ranges.{fits}
use Rattle.rules.specs.Reports.{listed, awaited, by_operation_sent}
use Rattle.rules.specs.Rows.{consulting, reports_last, operation_rows, rows, first}
use Rattle.rules.specs.Rules.{effect}
use Rattle.invariants.proofs.Basics.{and_right, not_not, less_of, not_early}
use Rattle.invariants.proofs.Clear.{Clear, clear}
use Rattle.invariants.proofs.Fitness.{stays_fit}
use Rattle.table.specs.declared.place.Place.{Place}
use Rattle.table.specs.declared.place.Outcome.{Outcome}
use Rattle.table.specs.declared.table.Table.{Table}
use Rattle.table.specs.Places.{holds, within, find, in_place}
use Rattle.table.specs.State.{core_of, heads, admitted, moved, RoomFor, FollowsRule}
use Rattle.table.proofs.Following.{first_append, all_fit, let_in, kept_out, refuses, admits}
use Rattle.table.proofs.Slots.{Bears, read}

-- rows that end with a place's, with room
three : (a b r room : Bool) → first ((a, NoConnection) ∷ (b, WrongStage) ∷ (r && not room, NoFreePlace) ∷ []) ≡ None → first ((a, NoConnection) ∷ (b, WrongStage) ∷ (r && not true, NoFreePlace) ∷ []) ≡ None
three true b r room e = cc
three false true r room e = cc
three false false true room e = refl
three false false false room e = refl

-- what is admitted would be with room, and with no other connection
pub eased : (room : Bool) (x : Operation) (o : Option Connection) (n : ℕ) → first (operation_rows room x o n) ≡ None → first (operation_rows true x o 0) ≡ None
eased room SetUp None n e = refl
eased room SetUp (Some c) n e = cc
eased room Continue o n e = e
eased room Bar o n e = three (not (is_some o)) (not (consulting (stage_in o))) (reports_last o) room e
eased room (Instruct i) o n e = e
eased room (Advise v) o n e = e
eased room Answer o n e = e
eased room Disconnect o n e = three (not (is_some o)) (consulting (stage_in o)) (reports_last o) room e
eased room (Confirm k) o n e = e
eased room Repeat o n e = three (not (is_some o)) (not (is_some (awaited o))) true room e

-- a new connection has a place, and only one that is there ends
pub room_for : (room : Bool) (x : Operation) (t : ℕ) (o next : Option Connection) (n : ℕ) → first (operation_rows room x o n) ≡ None → by_operation x t o ≡ next → RoomFor (is_some o) n next
room_for room x t (Some c) next n e q = tt
room_for room SetUp t None next n e q = (less_of connections n (clear (operation_rows room SetUp None n) e).1.0, ap is_some (sym q))
room_for room Continue t None next n e q = cc
room_for room Bar t None next n e q = cc
room_for room (Instruct i) t None next n e q = cc
room_for room (Advise v) t None next n e q = cc
room_for room Answer t None next n e q = cc
room_for room Disconnect t None next n e q = cc
room_for room (Confirm k) t None next n e q = cc
room_for room Repeat t None next n e q = cc

-- what an operation sends, by the place with its connection
abbrev pub SendsBy : Operation → ℕ → Option Place → Option Report → Type 0
SendsBy x t o r = MatchOption o (r ≡ None) (λ p. listed r ≡ by_operation_sent x p.address t (Some p.connection))

sends_there : (x : Operation) (a : Address) (t : ℕ) (o : Option Place) (r : Option Report) → SendsBy x t o r → ((p : Place) → o ≡ Some p → p.address ≡ a) → listed r ≡ by_operation_sent x a t (within o)
sends_there x a t (Some p) r h at = h ∙ ap (λ b. by_operation_sent x b t (Some p.connection)) (at p refl)
sends_there x a t None r h at = ap listed h ∙ sym (none_sent x)
  where
    none_sent : (x : Operation) → by_operation_sent x a t None ≡ []
    none_sent SetUp = refl
    none_sent Continue = refl
    none_sent Bar = refl
    none_sent (Instruct i) = refl
    none_sent (Advise v) = refl
    none_sent Answer = refl
    none_sent Disconnect = refl
    none_sent (Confirm n) = refl
    none_sent Repeat = refl

-- past the rows that every operation begins with, at the place that is read at the address
pub record Entered (t : Table) (tick now : ℕ) (a : Address) (x : Operation) (o : Option Place) : Type 0 where
  passed : first (heads tick a (fits x) (core_of t)) ≡ None
  is : now ≡ tick
  old : Bears a (find t.slots a) o

pub entered : (t : Table) (tick now : ℕ) (a : Address) (x : Operation) (i : Option ℕ) (o : Option Place) → Ok now ≡ admitted tick (first (heads tick a (fits x) (core_of t))) → i ≡ position (holds a) t.slots → o ≡ in_place t.slots i → Entered t tick now a x o
entered t tick now a x i o e p q = let k = let_in tick now _ e in record { passed = k.0; is = k.1; old = read t.slots a i o p q }

-- refused by the rows that every operation begins with
pub refused_early : (room : Bool) (t : Table) (tick : ℕ) (a : Address) (x : Operation) (r : Result Outcome Refusal) (e : Refusal) → r ≡ Err e → Err e ≡ admitted tick (first (heads tick a (fits x) (core_of t))) → FollowsRule room (On tick a x) t r t
refused_early room t tick a x r e is h = let s = core_of t in refuses room (On tick a x) t r e is (first_append (heads tick a (fits x) s) (operation_rows room x (s.at a) s.count) ∙ ap (λ o. option_or o (first (operation_rows room x (s.at a) s.count))) (kept_out tick e _ h))

module _ (room : Bool) (t : Table) (tick now : ℕ) (a : Address) (x : Operation) (o : Option Place) (k : Entered t tick now a x o) where
  abbrev s : Core
  s = core_of t

  abbrev own : Option Refusal
  own = first (operation_rows room x (within o) s.count)

  -- its own rows decide
  by_rows : (r : Option Refusal) → own ≡ r → first (rows room (On tick a x) s) ≡ r
  by_rows r h = first_append (heads tick a (fits x) s) (operation_rows room x (s.at a) s.count) ∙ (ap (λ r. option_or r (first (operation_rows room x (s.at a) s.count))) k.passed ∙ (ap (λ o. first (operation_rows room x o s.count)) (sym k.old.same) ∙ h))

  pub refused_late : (r : Result Outcome Refusal) (e : Refusal) → r ≡ Err e → ◌≡◌ {A = Result (Unit {0}) Refusal} (Err e) (admitted tt own) → FollowsRule room (On tick a x) t r t
  refused_late r e is h = refuses room (On tick a x) t r e is (by_rows (Some e) (kept_out tt e own h))

  heads_clear : Clear (heads tick a (fits x) s)
  heads_clear = clear (heads tick a (fits x) s) k.passed

  module _ (pass : ◌≡◌ {A = Result (Unit {0}) Refusal} (Ok tt) (admitted tt own)) where
    own_clear : own ≡ None
    own_clear = (let_in tt tt own pass).0

    pub operable : record { fitting : fits x ≡ true; admitted : first (operation_rows true x (within o) 0) ≡ None }
    operable = record { fitting = and_right (lawful_address a) (fits x) (not_not (lawful_address a && fits x) heads_clear.1.0); admitted = eased room x (within o) s.count own_clear }

    -- what becomes of the connection
    module _ (next : Option Connection) (n : next ≡ by_operation x now (within o)) where
      next_is : by_operation x tick (s.at a) ≡ next
      next_is = ap (λ t. by_operation x t (s.at a)) (sym k.is) ∙ (ap (by_operation x now) (sym k.old.same) ∙ sym n)

      pub on_time : t.clock ≤ now
      on_time = rw k.is (not_early tick t.clock heads_clear.0)

      pub fit_next : fit_in now a next ≡ true
      fit_next = rw k.is (by next next_is)
        where
          by : (next : Option Connection) → by_operation x tick (s.at a) ≡ next → fit_in tick a next ≡ true
          by None q = refl
          by (Some c) q = stays_fit.ever_after room (On tick a x) s (by_rows None own_clear) (all_fit t.clock t.wait t.slots t.fitting) a c (ap (λ b. cond b (by_operation x tick (s.at a)) (s.at a)) (same_self a) ∙ q)

      pub room_next : RoomFor (is_some (s.at a)) s.count next
      room_next = room_for room x tick (s.at a) next s.count (ap (λ o. first (operation_rows room x o s.count)) (sym k.old.same) ∙ own_clear) next_is

      effect_is : moved now a next s ≡ effect (On tick a x) s
      effect_is = ap (λ o. moved now a o s) (sym next_is) ∙ ap (λ t. moved t a (by_operation x tick (s.at a)) s) k.is

      pub acts : (t' : Table) (kind : OrderKind) (r : Option Report) → core_of t' ≡ moved now a next s → kind ≡ by_operation_order x (within o) → SendsBy x tick o r → FollowsRule room (On tick a x) t (Ok (record { order = record { address = a; kind = kind }; report = r })) t'
      acts t' kind r m e h = admits room (On tick a x) t t' _
          (by_rows None own_clear)
          (m ∙ effect_is)
          (ap (λ k. record { address = a; kind = k }) (e ∙ ap (by_operation_order x) k.old.same))
          (sends_there x a tick o r h k.old.at ∙ ap (by_operation_sent x a tick) k.old.same)
