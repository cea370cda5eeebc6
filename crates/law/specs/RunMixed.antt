-- A run with known outcome: each call and its reply. Assumes nothing.
use Rattle.std.specs.Prelude.{true, false, List, [], ◌∷◌, Some, None}
use Rattle.report.specs.declared.refusal.Refusal.TheVariants.{Untimely, OutOfRange, ItemDue, NoConnection, AddressConnected, WrongStage, Pending, NothingDue, NothingWaits}
use Rattle.rules.specs.declared.call.Operation.TheVariants.{SetUp, Continue, Bar, Answer, Disconnect, Confirm, Repeat}
use Rattle.rules.specs.declared.call.Call.{Call}
use Rattle.rules.specs.declared.call.Call.TheVariants.{On, Fire, Take}
use Rattle.rules.specs.declared.call.Reply.{Reply}
use Rattle.rules.specs.declared.call.Reply.TheVariants.{Refused}
use Rattle.rules.specs.SampleBursts.{burst_list}
use Rattle.law.specs.Samples.{leg, temporary, values, instruct, advise_one, nothing, ended}

-- calls at three addresses in any order, most of them refused
abbrev pub mixed : List (Call × Reply)
mixed =
    (Take, Refused NothingWaits)
    ∷ (On 172 (leg 1) (Confirm 3), Refused NoConnection)
    ∷ (On 279 (leg 1) SetUp, nothing (leg 1))
    ∷ (On 279 (leg 2) Continue, Refused NoConnection)
    ∷ (On 307 (leg 1) Continue, nothing (leg 1))
    ∷ (On 307 (leg 2) SetUp, nothing (leg 2))
    ∷ (On 308 (temporary 1) Repeat, Refused NoConnection)
    ∷ (On 316 (leg 1) Continue, Refused WrongStage)
    ∷ (On 307 (temporary 1) Answer, Refused NoConnection)
    ∷ (On 307 (leg 1) Answer, nothing (leg 1))
    ∷ (On 307 (temporary 1) (instruct 1 false 1 (Some 10) (Some (burst_list 30 2 1 3 4 3 tt))), Refused NoConnection)
    ∷ (Fire 307, Refused NothingDue)
    ∷ (On 307 (temporary 1) Repeat, Refused NoConnection)
    ∷ (On 307 (leg 2) (instruct 100 false 2 (Some 5) None), nothing (leg 2))
    ∷ (On 356 (leg 2) Answer, Refused WrongStage)
    ∷ (Fire 357, nothing (leg 2))
    ∷ (Fire 357, Refused NothingDue)
    ∷ (Take, Refused NothingWaits)
    ∷ (Take, Refused NothingWaits)
    ∷ (Take, Refused NothingWaits)
    ∷ (On 357 (leg 1) Repeat, Refused WrongStage)
    ∷ (On 582 (leg 2) Repeat, Refused WrongStage)
    ∷ (On 374 (temporary 1) (instruct 600 true 2 (Some 1) (Some (burst_list 5 3 3 4 2 2 tt))), Refused NoConnection)
    ∷ (On 357 (temporary 1) (Confirm 2), Refused NoConnection)
    ∷ (On 412 (leg 2) Answer, Refused WrongStage)
    ∷ (On 358 (leg 2) Continue, nothing (leg 2))
    ∷ (Fire 358, Refused NothingDue)
    ∷ (On 386 (leg 1) (instruct 600 false 1 (Some 10) (Some (burst_list 5 2 3 2 2 4 tt))), nothing (leg 1))
    ∷ (On 387 (temporary 1) Answer, Refused NoConnection)
    ∷ (On 385 (leg 1) SetUp, Refused Untimely)
    ∷ (Fire 394, Refused NothingDue)
    ∷ (Fire 400, Refused NothingDue)
    ∷ (On 390 (leg 1) SetUp, Refused AddressConnected)
    ∷ (Fire 486, nothing (leg 1))
    ∷ (Fire 514, Refused NothingDue)
    ∷ (On 986 (leg 2) SetUp, Refused ItemDue)
    ∷ (On 935 (leg 2) (instruct 100 true 2 (Some 2) None), Refused Pending)
    ∷ (On 936 (leg 2) (instruct 10 false 2 (Some 10) (Some (burst_list 2 3 3 1 2 4 tt))), Refused ItemDue)
    ∷ (On 487 (leg 1) Disconnect, ended (leg 1))
    ∷ (On 487 (leg 1) SetUp, nothing (leg 1))
    ∷ (Fire 733, Refused NothingDue)
    ∷ (On 487 (leg 1) (Confirm 4), Refused WrongStage)
    ∷ (On 488 (leg 1) (instruct 5 false 2 (Some 1) (Some (burst_list 5 2 1 12 2 2 tt))), nothing (leg 1))
    ∷ (On 498 (leg 1) Answer, Refused ItemDue)
    ∷ (On 599 (temporary 1) (advise_one (values ((Some 8191) ∷ (Some 0) ∷ (Some 8191) ∷ (Some 8191) ∷ (Some 8191) ∷ (Some 8191) ∷ (Some 5) ∷ []))), Refused ItemDue)
    ∷ (On 508 (temporary 1) Disconnect, Refused ItemDue)
    ∷ (On 517 (leg 1) (Confirm 1), Refused ItemDue)
    ∷ (On 498 (leg 1) (instruct 1 false 1 (Some 5) None), Refused ItemDue)
    ∷ (Fire 503, nothing (leg 1))
    ∷ (On 754 (leg 2) Continue, Refused WrongStage)
    ∷ (On 885 (temporary 1) Continue, Refused NoConnection)
    ∷ (On 608 (temporary 128) (advise_one (values (None ∷ (Some 5) ∷ None ∷ (Some 5) ∷ (Some 0) ∷ (Some 8191) ∷ None ∷ []))), Refused OutOfRange)
    ∷ (On 503 (leg 2) (Confirm 0), Refused OutOfRange)
    ∷ (On 579 (leg 1) Repeat, Refused WrongStage)
    ∷ (On 503 (leg 1) (instruct 10 false 1 None None), Refused Pending)
    ∷ (Fire 622, Refused NothingDue)
    ∷ (On 503 (temporary 1) Continue, Refused NoConnection)
    ∷ (On 722 (temporary 1) Bar, Refused NoConnection)
    ∷ []
