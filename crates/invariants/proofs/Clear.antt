-- What an admitted call tells: no row holds, and a place is free for what it sends. Assumes nothing.
use Rattle.std.proofs.Common.{◌≡◌, ℕ, Bool, true, false, cond, not, ◌&&◌, eqb, List, [], ◌∷◌, Some, None, Option, sym, refl, ap, ◌∙◌, arith}
use Rattle.report.specs.declared.report.Address.{Address}
use Rattle.report.specs.declared.report.Standing.TheVariants.{Ended}
use Rattle.report.specs.declared.report.Report.{Report}
use Rattle.report.specs.declared.refusal.Refusal.{Refusal}
use Rattle.rules.specs.declared.call.Operation.{Operation}
use Rattle.rules.specs.declared.call.Operation.TheVariants.{SetUp, Continue, Bar, Instruct, Advise, Answer, Disconnect, Confirm, Repeat}
use Rattle.rules.specs.declared.due.Timer.{Timer}
use Rattle.rules.specs.declared.due.Timer.TheVariants.{TariffSwitch, AdviceSwitch, Sound, PeriodEnd, ConfirmationLimit}
use Rattle.rules.specs.declared.connection.Connection.{Connection}
use Rattle.rules.specs.Changes.{made}
use Rattle.rules.specs.Reports.{last_report, by_operation_sent, by_timer_sent}
use Rattle.rules.specs.Rows.{operation_rows, timer_reports, first}
use Rattle.invariants.proofs.Basics.{not_not}

-- no row's test holds
abbrev pub Clear : List (Bool × Refusal) → Type 0
Clear [] = Unit {0}
Clear (x ∷ xs) = (x.0 ≡ false) × Clear xs

pub clear : (xs : List (Bool × Refusal)) → first xs ≡ None → Clear xs
clear [] e = tt
clear (x ∷ xs) e = go x.0 refl e (clear xs)
  where
    go : (b : Bool) → x.0 ≡ b → cond b (Some x.1) (first xs) ≡ None → (first xs ≡ None → Clear xs) → (x.0 ≡ false) × Clear xs
    go true p q ih = let w : ◌≡◌ {A = ℕ} 0 1 = cc in let z : ⊥ = omega arith in absurd z
    go false p q ih = (p, ih q)

-- a place is free for what goes
last_room : (b room : Bool) → (not b && not room) ≡ false → b ≡ false → room ≡ true
last_room b room e q = not_not room (and_false (not room) (ap (λ z. not z && not room) (sym q) ∙ e))
  where
    and_false : (r : Bool) → (true && r) ≡ false → r ≡ false
    and_false r e = e

abbrev pub SomeSent : List Report → Type 0
SomeSent [] = ⊥
SomeSent (r ∷ rs) = Unit {0}

last_sent : (a : Address) (d : ℕ) (c : Connection) → SomeSent (last_report a d (Some c)) → eqb c.grant.had 0 ≡ false
last_sent a d c h = go (eqb c.grant.had 0) h
  where
    go : (b : Bool) → SomeSent (cond b [] (made a d Ended c ∷ [])) → b ≡ false
    go true h = absurd h
    go false h = refl

pub operation_room : (x : Operation) (a : Address) (t : ℕ) (room : Bool) (n : ℕ) (o : Option Connection) → Clear (operation_rows room x o n) → SomeSent (by_operation_sent x a t o) → room ≡ true
operation_room SetUp a t room n o k h = absurd h
operation_room Continue a t room n o k h = absurd h
operation_room Bar a t room n None k h = absurd h
operation_room Bar a t room n (Some c) k h = last_room (eqb c.grant.had 0) room k.1.1.0 (last_sent a t c h)
operation_room (Instruct i) a t room n o k h = absurd h
operation_room (Advise v) a t room n o k h = absurd h
operation_room Answer a t room n o k h = absurd h
operation_room Disconnect a t room n None k h = absurd h
operation_room Disconnect a t room n (Some c) k h = last_room (eqb c.grant.had 0) room k.1.1.0 (last_sent a t c h)
operation_room (Confirm m) a t room n o k h = absurd h
operation_room Repeat a t room n o k h = not_not room k.1.1.0

pub timer_room : (j : Timer) (a : Address) (d : ℕ) (room : Bool) (o : Option Connection) → (timer_reports j o && not room) ≡ false → SomeSent (by_timer_sent j a d o) → room ≡ true
timer_room TariffSwitch a d room o k h = absurd h
timer_room AdviceSwitch a d room o k h = absurd h
timer_room Sound a d room o k h = absurd h
timer_room PeriodEnd a d room o k h = not_not room k
timer_room ConfirmationLimit a d room None k h = absurd h
timer_room ConfirmationLimit a d room (Some c) k h = last_room (eqb c.grant.had 0) room k (last_sent a d c h)
