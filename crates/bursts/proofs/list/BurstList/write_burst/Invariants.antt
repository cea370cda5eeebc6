use Rattle.std.proofs.Common.{◌≡◌, take}
use Rattle.bursts.specs.Plan.{tones_of}
use Rattle.bursts.proofs.list.BurstList.write_burst.Given as goal

abbrev pub invariant-loop-k : goal.invariant-loop-k
invariant-loop-k l = take l.k l.burst ≡ tones_of l.self l.j l.k
