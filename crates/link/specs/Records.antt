-- The ring of records as a link. Assumes nothing.
use Rattle.std.specs.Prelude.{◌≡◌, [], length}
use Rattle.std.proofs.Common.{ap, arith}
use Rattle.report.specs.declared.report.Report.{Report}
use Rattle.ring.specs.Queue.{waiting, capacity, free}
use Rattle.ring.specs.declared.fifo.Fifo.{Fifo}
use Rattle.link.specs.Links.{View}

-- what waits in the ring, the places where nothing waits, and the records handed
abbrev pub record_view : Fifo Report → View
record_view f = record { waiting = waiting f; free = free f; capacity = capacity f }

-- an empty ring has every place free
pub record_whole : (f : Fifo Report) → (record_view f).waiting ≡ [] → (record_view f).free ≡ (record_view f).capacity
record_whole f e = omega (arith, ap length e)
