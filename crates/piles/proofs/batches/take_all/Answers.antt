use Rattle.std.proofs.Common.{arith}
use Rattle.std.proofs.lemmas.Grind.{common_steps}
use Rattle.piles.proofs.Kept.{took_calls}
use Rattle.piles.proofs.batches.take_all.Goals as goal

pub returns-in_default-clause-calls : goal.returns-in_default-clause-calls
returns-in_default-clause-calls g c = took_calls _ _ c.args.place.now _ _ (grind (arith, common_steps))

pub returns-clause-calls : goal.returns-clause-calls
returns-clause-calls g c = took_calls _ _ c.args.place.now _ _ (grind (arith, common_steps))
