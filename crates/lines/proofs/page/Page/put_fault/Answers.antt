use Rattle.std.proofs.Common.{ℕ, length, decimal, ap, ◌∙◌, arith, length-append}
use Rattle.lines.proofs.Puts.{adds_then, adds_is}
use Rattle.lines.proofs.page.Page.put_fault.Goals as goal

pub returns : goal.returns
returns c =
    let number = ap decimal (c.from.ensures ∙ c.number.ensures) in (
      omega (arith, c.in_ok-check_room.ensures),
      omega (arith, length-append {A = ℕ}, ap length number, ap length c.name.ensures.is),
      adds_then c.put_text.ensures
          (adds_then (adds_is c.name.ensures.is c.put_text-2.ensures)
          (adds_then c.put_byte.ensures
          (adds_then (adds_is number c.put_decimal.ensures.adds)
          (adds_then c.put_byte-2.ensures
          (adds_then c.put_long_decimal.ensures.adds c.put_byte-3.ensures))))),
    )
