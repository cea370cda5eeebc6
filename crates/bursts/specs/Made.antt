-- What the maker of burst lists answers. Assumes nothing.
use Rattle.std.specs.Prelude.{◌≡◌, Ok, Err, Result}
use Rattle.report.specs.declared.refusal.Refusal.{Refusal}
use Rattle.report.specs.declared.refusal.Refusal.TheVariants.{OutOfRange}
use Rattle.bursts.specs.declared.list.BurstList.{BurstList}
use Rattle.bursts.specs.declared.make.BurstNumbers.{BurstNumbers}
use Rattle.bursts.specs.Ranges.{InRange}

-- the six numbers of a list
abbrev pub numbers_of : BurstList → BurstNumbers
numbers_of b = b.numbers

-- the list of the numbers, or a refusal exactly where one is out of its range
abbrev pub Made : BurstNumbers → Result BurstList Refusal → Type 0
Made n (Ok b) = numbers_of b ≡ n
Made n (Err e) = (e ≡ OutOfRange) × (InRange n → ⊥)
