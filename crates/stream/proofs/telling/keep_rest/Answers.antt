use Rattle.stream.proofs.Rest.{keeps}
use Rattle.stream.proofs.telling.keep_rest.Goals as goal

pub returns : goal.returns
returns c = keeps c.args.buffer.now c.copy_within.new.self c.args.filled c.min-filled.result c.whole_frames-whole.result c.min-filled.ensures c.whole_frames-whole.ensures.is c.copy_within.ensures.after
