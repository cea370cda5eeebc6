use Rattle.std.proofs.Common.{ℕ, length, length-append, decimal, ap, arith}
use Rattle.lines.proofs.Puts.{adds_then, adds_is}
use Rattle.lines.proofs.page.Page.put_head.Goals as goal

pub returns : goal.returns
returns c =
    let kind = ap decimal c.from.ensures in
    let number = ap decimal c.from-2.ensures in
    let report = ap decimal c.from-3.ensures in
    record {
      adds =
          adds_then (adds_is kind c.put_decimal.ensures.adds)
          (adds_then c.put_byte.ensures
          (adds_then (adds_is number c.put_decimal-2.ensures.adds)
          (adds_then c.put_text.ensures (adds_is report c.put_decimal-3.ensures.adds))));
      few = omega (arith, length-append {A = ℕ}, ap length kind, ap length number, ap length report);
    }
