-- A run with known outcome: each call and its reply. Assumes nothing.
use Rattle.std.specs.Prelude.{List, [], ◌∷◌}
use Rattle.report.specs.declared.refusal.Refusal.TheVariants.{AddressConnected, ConnectionsFull}
use Rattle.rules.specs.declared.call.Operation.TheVariants.{SetUp, Bar}
use Rattle.rules.specs.declared.call.Call.{Call}
use Rattle.rules.specs.declared.call.Call.TheVariants.{On}
use Rattle.rules.specs.declared.call.Reply.{Reply}
use Rattle.rules.specs.declared.call.Reply.TheVariants.{Refused}
use Rattle.law.specs.Samples.{leg, temporary, nothing, ended}

-- as many connections as there can be, and one more once one is barred
abbrev pub all_connections : List (Call × Reply)
all_connections =
    (On 0 (leg 1) SetUp, nothing (leg 1))
    ∷ (On 0 (leg 2) SetUp, nothing (leg 2))
    ∷ (On 0 (leg 3) SetUp, nothing (leg 3))
    ∷ (On 0 (leg 4) SetUp, nothing (leg 4))
    ∷ (On 0 (leg 5) SetUp, nothing (leg 5))
    ∷ (On 0 (leg 6) SetUp, nothing (leg 6))
    ∷ (On 0 (leg 7) SetUp, nothing (leg 7))
    ∷ (On 0 (leg 8) SetUp, nothing (leg 8))
    ∷ (On 0 (temporary 1) SetUp, nothing (temporary 1))
    ∷ (On 0 (temporary 2) SetUp, nothing (temporary 2))
    ∷ (On 0 (temporary 3) SetUp, nothing (temporary 3))
    ∷ (On 0 (temporary 4) SetUp, nothing (temporary 4))
    ∷ (On 0 (temporary 5) SetUp, nothing (temporary 5))
    ∷ (On 0 (temporary 6) SetUp, nothing (temporary 6))
    ∷ (On 0 (temporary 7) SetUp, nothing (temporary 7))
    ∷ (On 0 (temporary 8) SetUp, nothing (temporary 8))
    ∷ (On 0 (temporary 127) SetUp, Refused ConnectionsFull)
    ∷ (On 0 (leg 1) SetUp, Refused AddressConnected)
    ∷ (On 5 (leg 1) Bar, ended (leg 1))
    ∷ (On 7 (temporary 127) SetUp, nothing (temporary 127))
    ∷ []
