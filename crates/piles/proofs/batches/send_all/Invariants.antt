use Rattle.piles.specs.Batches.{SentFirst}
use Rattle.piles.proofs.batches.send_all.Given as goal

abbrev pub invariant-loop-count : goal.invariant-loop-count
invariant-loop-count g l =
    let view = g.L.Link.view in
    SentFirst (view l.initial.link) l.reports l.count (view l.link)
