use Rattle.std.proofs.Common.{take}
use Rattle.account.specs.Follow.{Through}
use Rattle.account.proofs.reading.read_all.Given as goal

-- the reports before the index were read
abbrev pub invariant-loop-index : goal.invariant-loop-index
invariant-loop-index l = Through l.initial.records (take l.index l.reports) l.records
