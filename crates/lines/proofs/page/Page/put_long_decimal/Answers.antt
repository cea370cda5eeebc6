use Rattle.std.proofs.Common.{◌/◌, sym, arith}
use Rattle.lines.proofs.Puts.{adds_then, adds_is}
use Rattle.lines.proofs.Decimals.{decimal-eight}
use Rattle.lines.proofs.page.Page.put_long_decimal.Goals as goal

pub returns-then-high-lt100000000-clause-adds : goal.returns-then-high-lt100000000-clause-adds
returns-then-high-lt100000000-clause-adds c =
    adds_is (sym (decimal-eight c.args.n (omega arith) (omega arith))) (adds_then c.put_up_to_eight-then-high-lt100000000.ensures c.put_eight_digits.ensures)

pub returns-else-high-lt100000000-clause-adds : goal.returns-else-high-lt100000000-clause-adds
returns-else-high-lt100000000-clause-adds c =
    let high = adds_is (sym (decimal-eight (c.args.n / 100000000) (omega arith) (omega arith))) (adds_then c.put_up_to_four.ensures c.put_eight_digits-else-high-lt100000000.ensures) in
    adds_is (sym (decimal-eight c.args.n (omega arith) (omega arith))) (adds_then high c.put_eight_digits-else-high-lt100000000-2.ensures)
