-- How sample runs are written, and what is shown of them. Assumes nothing.
use Rattle.std.specs.Prelude.{◌≡◌, ℕ, Bool, List, [], ◌∷◌, ◌++◌, Some, None, Option}
use Rattle.report.specs.declared.report.Address.{Address}
use Rattle.report.specs.declared.report.Elapsed.{Elapsed}
use Rattle.report.specs.declared.report.Standing.{Standing}
use Rattle.bursts.specs.declared.list.BurstList.{BurstList}
use Rattle.account.specs.Rule.{no_accounts, read_list}
use Rattle.rules.specs.declared.call.EValues.{EValues}
use Rattle.rules.specs.declared.call.Operation.{Operation}
use Rattle.rules.specs.declared.call.Operation.TheVariants.{Instruct, Advise}
use Rattle.rules.specs.declared.call.Call.{Call}
use Rattle.rules.specs.declared.call.OrderKind.TheVariants as order-kind
use Rattle.rules.specs.declared.call.Reply.{Reply}
use Rattle.rules.specs.declared.call.Reply.TheVariants.{Done, Took}
use Rattle.rules.specs.Steps.{Run, taken}
use Rattle.rules.specs.Play.{left, ring}
use Rattle.rules.specs.Known.{up_to, figures}
use Rattle.law.specs.Ticks.{answered_ticks}
use Rattle.law.specs.Journal.{Entry}
use Rattle.law.specs.Law.{journal}

-- the address of a leg
abbrev pub leg : ℕ → Address
leg n = record { kind = 1; number = n }

-- the address of a temporary or SRF connection
abbrev pub temporary : ℕ → Address
temporary n = record { kind = 2; number = n }

-- the e-value set of a list
abbrev pub values : List (Option ℕ) → EValues
values vs = record { values = vs }

-- one value seven times
abbrev pub all_of : ℕ → EValues
all_of v = values (Some v ∷ Some v ∷ Some v ∷ Some v ∷ Some v ∷ Some v ∷ Some v ∷ [])

-- all values absent
abbrev pub no_values : EValues
no_values = values (None ∷ None ∷ None ∷ None ∷ None ∷ None ∷ None ∷ [])

-- an instruction by its maximum, release mark, party, switch seconds and burst list
abbrev pub instruct : ℕ → Bool → ℕ → Option ℕ → Option BurstList → Operation
instruct maximum release party switch bursts = Instruct (record { maximum = maximum; release = release; party = party; switch = switch; bursts = bursts })

-- advice with one set
abbrev pub advise_one : EValues → Operation
advise_one v = Advise (record { first = v; second = None })

-- advice with two sets, and the seconds to the switch
abbrev pub advise_two : EValues → EValues → ℕ → Operation
advise_two v next seconds = Advise (record { first = v; second = Some (record { set = next; seconds = seconds }) })

-- the reply with nothing to do
abbrev pub nothing : Address → Reply
nothing a = Done (record { address = a; kind = order-kind.Nothing })

-- the reply that the connection ended
abbrev pub ended : Address → Reply
ended a = Done (record { address = a; kind = order-kind.Ended })

-- the reply that a set is to be sent
abbrev pub advise : Address → EValues → Reply
advise a v = Done (record { address = a; kind = order-kind.Advise v })

-- the reply that a burst list is to be sounded
abbrev pub sound : Address → BurstList → Reply
sound a b = Done (record { address = a; kind = order-kind.Sound b })

-- a report taken, by its address, number, party, tick, standing and elapsed time
abbrev pub took : Address → ℕ → ℕ → ℕ → Standing → Elapsed → Reply
took a number party tick standing elapsed = Took (record { address = a; number = number; party = party; tick = tick; standing = standing; elapsed = elapsed })

-- the calls of a run
abbrev pub calls_of : List (Call × Reply) → List Call
calls_of [] = []
calls_of (x ∷ xs) = x.0 ∷ calls_of xs

-- their replies
abbrev pub replies_of : List (Call × Reply) → List Reply
replies_of [] = []
replies_of (x ∷ xs) = x.1 ∷ replies_of xs

-- the answered ticks of tariffs 1 to n of a reported connection, by its entry
abbrev pub entry_figures : ℕ → Option ℕ → List ℕ → Option ℕ → List (List ℕ)
entry_figures n answer switches None = []
entry_figures n answer switches (Some d) = up_to n (answered_ticks answer switches d) ∷ []

-- the same of every reported connection of an address
abbrev pub journal_figures : ℕ → List Entry → List (List ℕ)
journal_figures n [] = []
journal_figures n (e ∷ es) = entry_figures n e.answer e.switches e.reported ++ journal_figures n es

-- what the accounts of an address show of tariffs 1 to n after a run, newest account first
pub record Shown : Type 0 where
  pub address : Address
  pub tariffs : ℕ
  pub ticks : List (List ℕ)

-- after a run over a ring with so many places, accounts and journal have these ticks
pub record ShowsSo (places : ℕ) (run : List (Call × Reply)) (x : Shown) : Type 0 where
  pub by_accounts : figures x.tariffs x.address (read_list (taken (replies_of run) ++ (left (ring 50 places) (calls_of run)).view.waiting) no_accounts) ≡ x.ticks
  pub by_journal : journal_figures x.tariffs ((journal 50 (calls_of run) (replies_of run)).entries x.address) ≡ x.ticks

-- each of a list is shown
abbrev pub AllShown : ℕ → List (Call × Reply) → List Shown → Type 0
AllShown places run [] = Unit {0}
AllShown places run (x ∷ xs) = ShowsSo places run x × AllShown places run xs

-- with the wait 50 and over a ring with so many places, the calls are a run by the rules with these replies, and the accounts show so
pub record ComesOut (places : ℕ) (run : List (Call × Reply)) (shown : List Shown) : Type 0 where
  pub is_run : Run (ring 50 places) (calls_of run) (replies_of run) (left (ring 50 places) (calls_of run))
  pub shows : AllShown places run shown
