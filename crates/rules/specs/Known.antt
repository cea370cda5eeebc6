-- Calls with known outcomes. The wait is 50, and all calls are at the address 1.2. Assumes nothing.
use Rattle.std.specs.Prelude.{◌≡◌, ℕ, zero, suc, false, List, [], ◌∷◌, ◌++◌, Some, None, Ok, Err, Option, Result}
use Rattle.report.specs.declared.report.Address.{Address}
use Rattle.report.specs.declared.report.Elapsed.{Elapsed}
use Rattle.report.specs.declared.report.Elapsed.TheVariants.{Plain, Switched}
use Rattle.report.specs.declared.report.Standing.{Standing}
use Rattle.report.specs.declared.report.Standing.TheVariants.{Active, Ended}
use Rattle.report.specs.declared.report.Report.{Report}
use Rattle.report.specs.declared.refusal.Refusal.{Refusal}
use Rattle.report.specs.declared.refusal.Refusal.TheVariants.{ItemDue, BurstsTooLong}
use Rattle.bursts.specs.declared.list.BurstList.{BurstList}
use Rattle.bursts.specs.Plan.{sound_length}
use Rattle.account.specs.Rule.{Book, no_accounts, read_list, accounts}
use Rattle.rules.specs.declared.call.Operation.{Operation}
use Rattle.rules.specs.declared.call.Operation.TheVariants.{SetUp, Continue, Instruct, Answer, Disconnect, Confirm, Repeat}
use Rattle.rules.specs.declared.call.Call.{Call}
use Rattle.rules.specs.declared.call.Call.TheVariants.{On, Fire}
use Rattle.rules.specs.declared.call.OrderKind.TheVariants as order-kind
use Rattle.rules.specs.declared.call.Reply.{Reply}
use Rattle.rules.specs.declared.call.Reply.TheVariants.{Refused, Done}
use Rattle.rules.specs.Core.{dues_at}
use Rattle.rules.specs.Steps.{State}
use Rattle.rules.specs.Play.{plays, left, ring}
use Rattle.rules.specs.SampleBursts.{burst_list}

-- the address
abbrev pub here : Address
here = record { kind = 1; number = 2 }

-- a call at it
abbrev pub on : ℕ → Operation → Call
on t x = On t here x

-- an instruction for party 1 without the release mark
abbrev pub instruct : ℕ → Option ℕ → Option BurstList → Operation
instruct maximum switch bursts = Instruct (record { maximum = maximum; release = false; party = 1; switch = switch; bursts = bursts })

-- set-up, continue and instruct at 0, maximum 600
abbrev pub instructed : Option ℕ → List Call
instructed switch = on 0 SetUp ∷ on 0 Continue ∷ on 0 (instruct 600 switch None) ∷ []

-- and then the answer at 100
abbrev pub answered : Option ℕ → List Call
answered switch = instructed switch ++ (on 100 Answer ∷ [])

-- a new engine, over a ring with places enough
abbrev pub engine : State
engine = ring 50 8

-- what calls send
abbrev pub sent_by : List Call → List Report
sent_by calls = (left engine calls).view.waiting

-- when the period's end is due after calls
abbrev pub end_after : List Call → Option ℕ
end_after calls = (dues_at (left engine calls).core here).end

-- the replies to further calls
abbrev pub replies_after : List Call → List Call → List Reply
replies_after earlier calls = plays (left engine earlier) calls

-- a report of party 1
abbrev pub report : ℕ → ℕ → Standing → Elapsed → Report
report number tick standing elapsed = record { address = here; number = number; party = 1; tick = tick; standing = standing; elapsed = elapsed }

-- the ticks of tariffs 1 to n of an account
abbrev pub up_to : ℕ → (ℕ → ℕ) → List ℕ
up_to zero f = []
up_to (suc n) f = up_to n f ++ (f (suc n) ∷ [])

-- and of each of some accounts
abbrev pub each_up_to : ℕ → List (ℕ → ℕ) → List (List ℕ)
each_up_to n [] = []
each_up_to n (f ∷ fs) = up_to n f ∷ each_up_to n fs

-- the accounts of an address that a reading leaves
abbrev pub figures : ℕ → Address → Result Book Refusal → List (List ℕ)
figures n a (Err e) = []
figures n a (Ok b) = each_up_to n (accounts (b a))

-- the reply with nothing to do
abbrev pub nothing : Reply
nothing = Done (record { address = here; kind = order-kind.Nothing })

-- the reply that the connection ended
abbrev pub ended : Reply
ended = Done (record { address = here; kind = order-kind.Ended })

-- a tariff switch before the answer
abbrev pub switched_early : List Call
switched_early = instructed (Some 10) ++ (Fire 100 ∷ on 100 Answer ∷ Fire 700 ∷ [])

-- a report that is repeated and not confirmed in time
abbrev pub unconfirmed : List Call
unconfirmed = answered None ++ (Fire 700 ∷ on 749 Repeat ∷ [])

-- three bursts of three tones, with a warning of 5 seconds
abbrev pub of_five_seconds : BurstList
of_five_seconds = burst_list 5 3 3 10 2 2 tt

-- the same with a warning of 4 seconds
abbrev pub of_four_seconds : BurstList
of_four_seconds = burst_list 4 3 3 10 2 2 tt

-- The list of known outcomes.
pub record KnownOutcomes : Type 0 where
  -- period end 700, plain, time 600
  pub period_end : end_after (answered None) ≡ Some 700
  pub plain : sent_by (answered None ++ (Fire 700 ∷ [])) ≡ report 1 700 Active (Plain 600) ∷ []
  -- switch 20 s: time 500, interval 100
  pub one_switch : sent_by (answered (Some 20) ++ (Fire 200 ∷ Fire 700 ∷ [])) ≡ report 1 700 Active (Switched 500 (Some 100)) ∷ []
  -- switch 10 s, fired at 100 before the answer: time 600, no interval, account 1:0 2:600
  pub early_switch : sent_by switched_early ≡ report 1 700 Active (Switched 600 None) ∷ []
  pub early_switch_account : figures 2 here (read_list (sent_by switched_early) no_accounts) ≡ (0 ∷ 600 ∷ []) ∷ []
  -- switch 70 s: time 0, interval 600
  pub switch_at_end : sent_by (answered (Some 70) ++ (Fire 700 ∷ Fire 700 ∷ [])) ≡ report 1 700 Active (Switched 0 (Some 600)) ∷ []
  -- instruct at 720, maximum 600: end 1,300
  pub next_period : end_after (answered None ++ (Fire 700 ∷ on 720 (instruct 600 None None) ∷ [])) ≡ Some 1300
  -- fired at 700, repeated at 749: confirm at 750 is refused since an item is due; firing ends it, time 650
  pub late_confirmation : replies_after unconfirmed (on 750 (Confirm 1) ∷ Fire 750 ∷ []) ≡ Refused ItemDue ∷ ended ∷ []
  pub given_up : sent_by (unconfirmed ++ (on 750 (Confirm 1) ∷ Fire 750 ∷ [])) ≡ report 1 700 Active (Plain 600) ∷ report 1 700 Active (Plain 600) ∷ report 2 750 Ended (Plain 650) ∷ []
  -- disconnect at 50, unanswered: time 0, not active
  pub unanswered : sent_by (instructed None ++ (on 50 Disconnect ∷ [])) ≡ report 1 50 Ended (Plain 0) ∷ []
  -- three bursts of three tones, tone and tone gap 2, burst gap 10 last 50 ticks: warning 5 s is admitted, 4 s is shorter than the list
  pub bursts_last : sound_length of_five_seconds ≡ 50
  pub long_enough : replies_after (on 0 SetUp ∷ []) (on 0 (instruct 600 None (Some of_five_seconds)) ∷ []) ≡ nothing ∷ []
  pub too_short : replies_after (on 0 SetUp ∷ []) (on 0 (instruct 600 None (Some of_four_seconds)) ∷ []) ≡ Refused BurstsTooLong ∷ []
