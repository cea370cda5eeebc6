use Rattle.std.proofs.Common.{refl, arith}
use Rattle.lines.proofs.Puts.{adds_written}
use Rattle.lines.proofs.page.Page.put_text.Goals as goal

pub returns : goal.returns
returns c = adds_written refl refl refl c.copy_from_slice.ensures.after (omega arith) (omega arith)
