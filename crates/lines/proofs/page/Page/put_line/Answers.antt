use Rattle.std.proofs.Common.{◌≡◌, ℕ, min, length, length-take, take, ap, ◌∙◌, arith, length-append}
use Rattle.report.specs.Limits.{tariffs}
use Rattle.account.specs.Records.{ticks_of}
use Rattle.lines.specs.Line.{tariffs_text}
use Rattle.lines.proofs.Puts.{adds_then, adds_is}
use Rattle.lines.proofs.Tariffs.{tariffs_front}
use Rattle.lines.proofs.page.Page.put_line.Goals as goal

pub returns : goal.returns
returns c =
    let ts = c.args.reading.now.account.ticks in
    let n = c.min-count.result in
    let is : n ≡ min c.args.reading.now.account.tariff tariffs = c.min-count.ensures ∙ ap (λ m. min m tariffs) c.from.ensures in
    let all : length (take n ts) ≡ n = omega (arith, length-take n ts, c.min-count.ensures) in
    let first = ap (λ m. tariffs_text 1 m (ticks_of (take n ts))) all ∙ tariffs_front ts n n (omega arith) ∙ ap (λ m. tariffs_text 1 m (ticks_of ts)) is in
    record {
      adds =
          adds_then c.put_head.ensures.adds
          (adds_then c.put_byte.ensures
          (adds_then (adds_is c.name_of.ensures.is c.put_text.ensures)
          (adds_then (adds_is first c.put_tariffs.ensures.adds) c.put_byte-2.ensures)));
      few = omega (arith, length-append {A = ℕ}, ap length first, ap length c.name_of.ensures.is);
    }
