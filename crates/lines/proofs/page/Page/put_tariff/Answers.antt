use Rattle.lines.proofs.Puts.{adds_then}
use Rattle.lines.proofs.page.Page.put_tariff.Goals as goal

pub returns-clause-adds : goal.returns-clause-adds
returns-clause-adds c =
    adds_then c.put_byte.ensures
    (adds_then c.put_up_to_two.ensures
    (adds_then c.put_byte-2.ensures c.put_decimal.ensures.adds))
