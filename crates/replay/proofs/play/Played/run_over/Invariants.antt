use Rattle.std.proofs.Common.{length}
use Rattle.replay.proofs.play.Played.run_over.Given as goal

-- each take leaves one report fewer
abbrev pub decreases-loop-report : goal.decreases-loop-report
decreases-loop-report g l = length (g.L.Link.view l.link).waiting
