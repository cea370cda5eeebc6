use Rattle.piles.specs.Batches.{TookFirst}
use Rattle.piles.proofs.batches.take_all.Given as goal

abbrev pub invariant-loop-taken : goal.invariant-loop-taken
invariant-loop-taken g l =
    let view = g.L.Link.view in
    TookFirst (view l.initial.link) l.initial.place l.taken l.place (view l.link)
