use Rattle.std.proofs.Common.{◌*◌, ◌≤◌, length}
use Rattle.account.specs.Records.{ticks_of}
use Rattle.lines.specs.Line.{tariffs_text, tariff_size}
use Rattle.lines.specs.Page.{Adds}
use Rattle.lines.proofs.page.Page.put_tariffs.Given as goal

-- the first k tariffs are put
abbrev pub invariant-loop-k : goal.invariant-loop-k
invariant-loop-k l = record {
  adds : Adds l.initial.self (tariffs_text 1 l.k (ticks_of l.ticks)) l.self;
  few : length (tariffs_text 1 l.k (ticks_of l.ticks)) ≤ tariff_size * l.k;
}
