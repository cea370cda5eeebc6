use Rattle.std.proofs.Common.{ℕ, arith, ap, length, length-append}
use Rattle.lines.proofs.Puts.{adds_then, adds_is}
use Rattle.lines.proofs.Tariffs.{tariffs_more}
use Rattle.lines.proofs.page.Page.put_tariffs.Goals as goal

pub loop-k-preserved : goal.loop-k-preserved
loop-k-preserved c =
    let l = c.loop-k in
    let more = tariffs_more c.args.ticks.now l.k c.loop-k-test.true in
    record {
      adds = adds_is more (adds_then l.invariant.adds c.put_tariff.ensures.adds);
      few = omega (arith, ap length more, length-append {A = ℕ});
    }
