-- A run with known outcome: each call and its reply. Assumes nothing.
use Rattle.std.specs.Prelude.{true, false, List, [], ◌∷◌, Some, None}
use Rattle.report.specs.declared.report.Elapsed.TheVariants.{Plain}
use Rattle.report.specs.declared.report.Standing.TheVariants.{Active, Ended, Released}
use Rattle.report.specs.declared.refusal.Refusal.TheVariants.{WrongStage, Pending, NoFreePlace, NothingWaits}
use Rattle.rules.specs.declared.call.EValues.{EValues}
use Rattle.rules.specs.declared.call.Operation.TheVariants.{SetUp, Continue, Bar, Answer, Disconnect, Confirm, Repeat}
use Rattle.rules.specs.declared.call.Call.{Call}
use Rattle.rules.specs.declared.call.Call.TheVariants.{On, Fire, Take}
use Rattle.rules.specs.declared.call.Reply.{Reply}
use Rattle.rules.specs.declared.call.Reply.TheVariants.{Refused}
use Rattle.rules.specs.SampleBursts.{burst_list}
use Rattle.law.specs.Samples.{leg, temporary, values, all_of, no_values, instruct, advise_one, advise_two, nothing, ended, advise, sound, took}

-- a set with one value absent
abbrev pub first_set : EValues
first_set = values (Some 1 ∷ Some 2 ∷ None ∷ Some 4 ∷ Some 5 ∷ Some 6 ∷ Some 7 ∷ [])

-- a set with the largest value and the least
abbrev pub second_set : EValues
second_set = values (Some 8191 ∷ None ∷ Some 0 ∷ Some 1 ∷ Some 1 ∷ Some 1 ∷ Some 1 ∷ [])

-- advice before and after the answer, a sound, a confirmation, a release, and a link that is full
abbrev pub advice_and_sound : List (Call × Reply)
advice_and_sound =
    (On 0 (leg 2) SetUp, nothing (leg 2))
    ∷ (On 0 (leg 2) Continue, nothing (leg 2))
    ∷ (On 0 (leg 2) (advise_two first_set second_set 5), nothing (leg 2))
    ∷ (On 1 (leg 2) (advise_one (all_of 3)), Refused Pending)
    ∷ (Fire 50, nothing (leg 2))
    ∷ (On 60 (leg 2) (instruct 600 false 1 None (Some (burst_list 5 3 3 10 2 2 tt))), nothing (leg 2))
    ∷ (On 100 (leg 2) Answer, advise (leg 2) second_set)
    ∷ (On 200 (leg 2) (advise_two (all_of 3) no_values 10), advise (leg 2) (all_of 3))
    ∷ (Fire 300, advise (leg 2) no_values)
    ∷ (Fire 650, sound (leg 2) (burst_list 5 3 3 10 2 2 tt))
    ∷ (Fire 700, nothing (leg 2))
    ∷ (On 710 (leg 2) Repeat, Refused NoFreePlace)
    ∷ (Take, took (leg 2) 1 1 700 Active (Plain 600))
    ∷ (On 711 (leg 2) Repeat, nothing (leg 2))
    ∷ (Take, took (leg 2) 1 1 700 Active (Plain 600))
    ∷ (On 712 (leg 2) (Confirm 2), Refused WrongStage)
    ∷ (On 713 (leg 2) (Confirm 1), nothing (leg 2))
    ∷ (On 714 (leg 2) (Confirm 1), Refused WrongStage)
    ∷ (On 720 (leg 2) (instruct 100 true 2 None None), nothing (leg 2))
    ∷ (On 730 (temporary 1) SetUp, nothing (temporary 1))
    ∷ (On 730 (temporary 1) (instruct 5 false 1 None None), nothing (temporary 1))
    ∷ (Fire 800, ended (leg 2))
    ∷ (On 801 (temporary 1) Bar, Refused NoFreePlace)
    ∷ (On 802 (temporary 1) Continue, nothing (temporary 1))
    ∷ (On 803 (temporary 1) Disconnect, Refused NoFreePlace)
    ∷ (Take, took (leg 2) 2 2 800 Released (Plain 700))
    ∷ (On 804 (temporary 1) Disconnect, ended (temporary 1))
    ∷ (Take, took (temporary 1) 1 1 804 Ended (Plain 0))
    ∷ (Take, Refused NothingWaits)
    ∷ []
