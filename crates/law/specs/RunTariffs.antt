-- A run with known outcome: each call and its reply. Assumes nothing.
use Rattle.std.specs.Prelude.{false, List, [], ◌∷◌, Some, None}
use Rattle.report.specs.declared.report.Elapsed.TheVariants.{Switched}
use Rattle.report.specs.declared.report.Standing.TheVariants.{Active}
use Rattle.report.specs.declared.refusal.Refusal.TheVariants.{ItemDue, LimitReached}
use Rattle.rules.specs.declared.call.Operation.TheVariants.{SetUp, Continue, Answer, Confirm, Repeat}
use Rattle.rules.specs.declared.call.Call.{Call}
use Rattle.rules.specs.declared.call.Call.TheVariants.{On, Fire, Take}
use Rattle.rules.specs.declared.call.Reply.{Reply}
use Rattle.rules.specs.declared.call.Reply.TheVariants.{Refused}
use Rattle.law.specs.Samples.{leg, instruct, nothing, ended, took}

-- all tariffs, one after another, and then the limit
abbrev pub all_tariffs : List (Call × Reply)
all_tariffs =
    (On 0 (leg 2) SetUp, nothing (leg 2))
    ∷ (On 0 (leg 2) Continue, nothing (leg 2))
    ∷ (On 0 (leg 2) Answer, nothing (leg 2))
    ∷ (On 0 (leg 2) (instruct 30 false 1 (Some 1) None), nothing (leg 2))
    ∷ (Fire 10, nothing (leg 2))
    ∷ (Fire 30, nothing (leg 2))
    ∷ (On 30 (leg 2) (instruct 30 false 1 (Some 1) None), nothing (leg 2))
    ∷ (Fire 40, nothing (leg 2))
    ∷ (Fire 60, nothing (leg 2))
    ∷ (On 60 (leg 2) (instruct 30 false 1 (Some 1) None), nothing (leg 2))
    ∷ (Fire 70, nothing (leg 2))
    ∷ (Fire 90, nothing (leg 2))
    ∷ (On 90 (leg 2) (instruct 30 false 1 (Some 1) None), nothing (leg 2))
    ∷ (Fire 100, nothing (leg 2))
    ∷ (Fire 120, nothing (leg 2))
    ∷ (On 120 (leg 2) (instruct 30 false 1 (Some 1) None), nothing (leg 2))
    ∷ (Fire 130, nothing (leg 2))
    ∷ (Fire 150, nothing (leg 2))
    ∷ (On 150 (leg 2) (instruct 30 false 1 (Some 1) None), nothing (leg 2))
    ∷ (Fire 160, nothing (leg 2))
    ∷ (Fire 180, nothing (leg 2))
    ∷ (On 180 (leg 2) (instruct 30 false 1 (Some 1) None), nothing (leg 2))
    ∷ (Fire 190, nothing (leg 2))
    ∷ (Fire 210, nothing (leg 2))
    ∷ (On 210 (leg 2) (instruct 30 false 1 (Some 1) None), nothing (leg 2))
    ∷ (Fire 220, nothing (leg 2))
    ∷ (Fire 240, nothing (leg 2))
    ∷ (On 240 (leg 2) (instruct 30 false 1 (Some 1) None), nothing (leg 2))
    ∷ (Fire 250, nothing (leg 2))
    ∷ (Fire 270, nothing (leg 2))
    ∷ (On 270 (leg 2) (instruct 30 false 1 (Some 1) None), nothing (leg 2))
    ∷ (Fire 280, nothing (leg 2))
    ∷ (Fire 300, nothing (leg 2))
    ∷ (On 300 (leg 2) (instruct 30 false 1 (Some 1) None), nothing (leg 2))
    ∷ (Fire 310, nothing (leg 2))
    ∷ (Fire 330, nothing (leg 2))
    ∷ (On 330 (leg 2) (instruct 30 false 1 (Some 1) None), nothing (leg 2))
    ∷ (Fire 340, nothing (leg 2))
    ∷ (Fire 360, nothing (leg 2))
    ∷ (On 360 (leg 2) (instruct 30 false 1 (Some 1) None), nothing (leg 2))
    ∷ (Fire 370, nothing (leg 2))
    ∷ (Fire 390, nothing (leg 2))
    ∷ (On 390 (leg 2) (instruct 30 false 1 (Some 1) None), nothing (leg 2))
    ∷ (Fire 400, nothing (leg 2))
    ∷ (Fire 420, nothing (leg 2))
    ∷ (On 420 (leg 2) (instruct 30 false 1 (Some 1) None), nothing (leg 2))
    ∷ (Fire 430, nothing (leg 2))
    ∷ (Fire 450, nothing (leg 2))
    ∷ (On 450 (leg 2) (instruct 30 false 1 (Some 1) None), Refused LimitReached)
    ∷ (On 450 (leg 2) (instruct 30 false 2 None None), nothing (leg 2))
    ∷ (Fire 480, nothing (leg 2))
    ∷ (On 529 (leg 2) Repeat, nothing (leg 2))
    ∷ (On 530 (leg 2) (Confirm 16), Refused ItemDue)
    ∷ (Fire 530, ended (leg 2))
    ∷ (Take, took (leg 2) 1 1 30 Active (Switched 20 (Some 10)))
    ∷ []
