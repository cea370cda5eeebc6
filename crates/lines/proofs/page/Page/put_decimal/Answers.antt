use Rattle.std.proofs.Common.{sym, arith}
use Rattle.lines.proofs.Puts.{adds_then, adds_is}
use Rattle.lines.proofs.Decimals.{decimal-eight}
use Rattle.lines.proofs.page.Page.put_decimal.Goals as goal

pub returns-else-n-lt100000000-clause-adds : goal.returns-else-n-lt100000000-clause-adds
returns-else-n-lt100000000-clause-adds c = adds_is (sym (decimal-eight c.args.n (omega arith) (omega arith))) (adds_then c.put_up_to_two.ensures c.put_eight_digits.ensures)
