-- What is returned for each refusal. Assumes nothing.
use Rattle.std.specs.Prelude.{ℕ, Some, None, Option}
use Rattle.report.specs.declared.refusal.Cause.{Cause}
use Rattle.report.specs.declared.refusal.Cause.TheVariants.{Cut, Length, FrameKind, AddressKind, AddressNumber, ReportNumber, Flags, Party, Zero, Tick, Interval, Sum}
use Rattle.report.specs.declared.refusal.Refusal.{Refusal}
use Rattle.report.specs.declared.refusal.Refusal.TheVariants.{Untimely, OutOfRange, ItemDue, NoConnection, AddressConnected, ConnectionsFull, WrongStage, Pending, BurstsTooLong, LimitReached, NoFreePlace, NothingDue, NothingWaits, PlaceTooShort, WrongFrame, AccountRule, AccountsFull}

-- the number, and the place that a wrong frame is wrong at
pub record Returned : Type 0 where
  pub number : ℕ
  pub place : Option ℕ

-- a number that no place goes with
abbrev pub alone : ℕ → Returned
alone n = record { number = n; place = None }

-- The table of returned numbers.
abbrev pub returned : Refusal → Returned
returned Untimely = alone 1
returned OutOfRange = alone 2
returned ItemDue = alone 3
returned NoConnection = alone 4
returned AddressConnected = alone 5
returned ConnectionsFull = alone 6
returned WrongStage = alone 7
returned Pending = alone 8
returned BurstsTooLong = alone 9
returned LimitReached = alone 10
returned NoFreePlace = alone 11
returned NothingDue = alone 12
returned NothingWaits = alone 13
returned PlaceTooShort = alone 14
returned (WrongFrame f) = record { number = 15; place = Some f.place }
returned AccountRule = alone 16
returned AccountsFull = alone 17

-- Where some bytes are wrong that break a rule of the frame first; size is how many there are. A cut frame is wrong at its end, a field at its
-- first byte, and a rule over several fields at the last of them.
abbrev pub wrong_at : ℕ → Cause → ℕ
wrong_at size Cut = size
wrong_at size Length = 0
wrong_at size FrameKind = 2
wrong_at size AddressKind = 4
wrong_at size AddressNumber = 5
wrong_at size ReportNumber = 6
wrong_at size Flags = 8
wrong_at size Party = 9
wrong_at size Zero = 10
wrong_at size Tick = 12
wrong_at size Interval = 20
wrong_at size Sum = 20
