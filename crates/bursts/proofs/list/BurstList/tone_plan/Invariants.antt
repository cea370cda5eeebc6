use Rattle.std.proofs.Common.{◌≡◌, ◌*◌, take}
use Rattle.bursts.specs.Plan.{bursts_of}
use Rattle.bursts.proofs.list.BurstList.tone_plan.Given as goal

abbrev pub invariant-loop-j : goal.invariant-loop-j
invariant-loop-j l = take (l.j * l.tones) l.plan ≡ bursts_of l.self l.j
