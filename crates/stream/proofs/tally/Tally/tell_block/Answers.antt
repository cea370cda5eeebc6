use Rattle.std.proofs.Common.{arith, rules}
use Rattle.std.proofs.lemmas.Grind.{common_steps}
use Rattle.stream.proofs.Loop.{page_puts}
use Rattle.stream.proofs.tally.Tally.tell_block.Goals as goal

pub returns : goal.returns
returns c = (omega arith, grind (arith, common_steps), λ p s. page_puts c.new-page.ensures.starts (c.tell_frames.ensures.told p s) c.len.ensures (omega arith) (search rules))
