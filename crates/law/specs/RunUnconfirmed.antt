-- A run with known outcome: each call and its reply. Assumes nothing.
use Rattle.std.specs.Prelude.{false, List, [], ◌∷◌, ◌++◌, None}
use Rattle.report.specs.declared.refusal.Refusal.TheVariants.{ItemDue}
use Rattle.rules.specs.declared.call.Operation.TheVariants.{SetUp, Continue, Answer, Confirm, Repeat}
use Rattle.rules.specs.declared.call.Call.{Call}
use Rattle.rules.specs.declared.call.Call.TheVariants.{On, Fire}
use Rattle.rules.specs.declared.call.Reply.{Reply}
use Rattle.rules.specs.declared.call.Reply.TheVariants.{Refused}
use Rattle.law.specs.Samples.{leg, instruct, nothing, ended}

-- a report that awaits confirmation since 700, and is repeated
abbrev pub unconfirmed : List (Call × Reply)
unconfirmed =
    (On 0 (leg 2) SetUp, nothing (leg 2))
    ∷ (On 0 (leg 2) Continue, nothing (leg 2))
    ∷ (On 0 (leg 2) (instruct 600 false 1 None None), nothing (leg 2))
    ∷ (On 100 (leg 2) Answer, nothing (leg 2))
    ∷ (Fire 700, nothing (leg 2))
    ∷ (On 749 (leg 2) Repeat, nothing (leg 2))
    ∷ []

-- the confirmation comes too late, and a firing ends the connection
abbrev pub given_up : List (Call × Reply)
given_up = unconfirmed ++ ((On 750 (leg 2) (Confirm 1), Refused ItemDue) ∷ (Fire 750, ended (leg 2)) ∷ [])
