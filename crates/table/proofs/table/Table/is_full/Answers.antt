use Rattle.std.proofs.Common.{rules}
use Rattle.table.proofs.Slots.{is_full}
use Rattle.table.proofs.table.Table.is_full.Goals as goal

pub returns : goal.returns
returns c = let e = is_full c.args.self.now.slots c.free_place.result c.args.self.now.many c.free_place.ensures in search rules
