use Rattle.std.proofs.Common.{rules}
use Rattle.frame_ring.proofs.Waiting.{sent-once}
use Rattle.frame_ring.proofs.queue.send_once.Goals as goal

pub returns : goal.returns
returns c =
    let n = c.new-ring.ensures in
    let s = c.send.ensures in
    sent-once c.new-ring.result c.send.new.self c.args.bytes.now _ c.args.report c.send.result n.lent n.next n.list (search rules) s.sends s.wrote
