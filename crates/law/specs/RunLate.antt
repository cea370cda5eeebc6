-- A run with known outcome: each call and its reply. Assumes nothing.
use Rattle.std.specs.Prelude.{true, false, List, [], ◌∷◌, Some, None}
use Rattle.report.specs.declared.report.Elapsed.TheVariants.{Switched}
use Rattle.report.specs.declared.report.Standing.TheVariants.{Active, Ended}
use Rattle.report.specs.declared.refusal.Refusal.TheVariants.{Untimely, OutOfRange, ItemDue, NoConnection, AddressConnected, WrongStage, Pending, NothingDue, NothingWaits}
use Rattle.rules.specs.declared.call.Operation.TheVariants.{SetUp, Continue, Bar, Answer, Disconnect, Confirm, Repeat}
use Rattle.rules.specs.declared.call.Call.{Call}
use Rattle.rules.specs.declared.call.Call.TheVariants.{On, Fire, Take}
use Rattle.rules.specs.declared.call.Reply.{Reply}
use Rattle.rules.specs.declared.call.Reply.TheVariants.{Refused}
use Rattle.rules.specs.SampleBursts.{burst_list}
use Rattle.law.specs.Samples.{leg, temporary, instruct, nothing, ended, took}

-- a tariff switch before the answer, a confirmation that comes too late, and calls at the last tick
abbrev pub late : List (Call × Reply)
late =
    (On 0 (leg 2) Continue, Refused NoConnection)
    ∷ (On 0 (leg 1) (instruct 1 false 1 (Some 5) None), Refused NoConnection)
    ∷ (Fire 0, Refused NothingDue)
    ∷ (On 0 (temporary 1) (instruct 5 false 2 (Some 2) None), Refused NoConnection)
    ∷ (On 1 (leg 2) Disconnect, Refused NoConnection)
    ∷ (Fire 0, Refused NothingDue)
    ∷ (On 1 (leg 1) SetUp, nothing (leg 1))
    ∷ (On 2 (leg 1) Answer, Refused WrongStage)
    ∷ (On 2 (temporary 1) SetUp, nothing (temporary 1))
    ∷ (On 2 (leg 1) SetUp, Refused AddressConnected)
    ∷ (On 2 (leg 1) (instruct 600 false 2 (Some 1) None), nothing (leg 1))
    ∷ (Take, Refused NothingWaits)
    ∷ (On 402 (leg 2) (Confirm 1), Refused ItemDue)
    ∷ (Fire 12, nothing (leg 1))
    ∷ (Fire 25, Refused NothingDue)
    ∷ (Fire 294, Refused NothingDue)
    ∷ (On 12 (temporary 1) (instruct 100 true 1 (Some 10) None), nothing (temporary 1))
    ∷ (On 112 (record { kind = 0; number = 1 }) (Confirm 1), Refused OutOfRange)
    ∷ (On 112 (leg 1) Continue, Refused ItemDue)
    ∷ (On 26 (leg 1) (instruct 10 false 2 None None), Refused Pending)
    ∷ (Fire 12, Refused NothingDue)
    ∷ (On 13 (leg 2) (Confirm 1), Refused NoConnection)
    ∷ (On 117 (leg 1) SetUp, Refused ItemDue)
    ∷ (Fire 117, nothing (temporary 1))
    ∷ (On 132 (leg 1) Repeat, Refused WrongStage)
    ∷ (On 458 (leg 1) (instruct 100 false 1 None (Some (burst_list 1 2 3 8 4 2 tt))), Refused Pending)
    ∷ (On 118 (temporary 1) (Confirm 10001), Refused OutOfRange)
    ∷ (Fire 125, Refused NothingDue)
    ∷ (Take, Refused NothingWaits)
    ∷ (Fire 117, Refused NothingDue)
    ∷ (Fire 117, Refused NothingDue)
    ∷ (On 130 (leg 2) Answer, Refused NoConnection)
    ∷ (On 117 (record { kind = 3; number = 127 }) Answer, Refused OutOfRange)
    ∷ (On 117 (leg 1) Continue, nothing (leg 1))
    ∷ (Take, Refused NothingWaits)
    ∷ (On 126 (leg 1) Answer, nothing (leg 1))
    ∷ (Fire 726, nothing (leg 1))
    ∷ (On 777 (temporary 1) (instruct 5 false 1 (Some 5) None), Refused ItemDue)
    ∷ (Take, took (leg 1) 1 2 726 Active (Switched 600 None))
    ∷ (On 775 (leg 1) Bar, Refused WrongStage)
    ∷ (On 777 (temporary 1) Repeat, Refused ItemDue)
    ∷ (Fire 777, ended (leg 1))
    ∷ (On 784 (record { kind = 0; number = 128 }) SetUp, Refused OutOfRange)
    ∷ (On 777 (leg 1) (instruct 100 false 2 (Some 10) None), Refused NoConnection)
    ∷ (On 778 (leg 1) (Confirm 2), Refused NoConnection)
    ∷ (On 777 (temporary 1) SetUp, Refused AddressConnected)
    ∷ (On 805 (temporary 1) Continue, nothing (temporary 1))
    ∷ (On 1172 (temporary 1) (Confirm 1), Refused WrongStage)
    ∷ (On 2000000000 (leg 2) SetUp, nothing (leg 2))
    ∷ (On 2000000303 (temporary 1) Repeat, Refused Untimely)
    ∷ (Take, took (leg 1) 2 2 776 Ended (Switched 650 None))
    ∷ (Take, Refused NothingWaits)
    ∷ (Fire 2000000000, Refused NothingDue)
    ∷ (Take, Refused NothingWaits)
    ∷ (Fire 2000000262, Refused Untimely)
    ∷ (On 2000000004 (leg 2) Continue, Refused Untimely)
    ∷ (On 2000000022 (leg 2) Disconnect, Refused Untimely)
    ∷ (On 2000000000 (leg 2) Answer, Refused WrongStage)
    ∷ (Fire 2000000001, Refused Untimely)
    ∷ (On 2000000000 (leg 2) Continue, nothing (leg 2))
    ∷ []
