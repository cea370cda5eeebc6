use Rattle.frame_ring.proofs.Waiting.{is_first}
use Rattle.frame_ring.proofs.queue.FrameRing.oldest.Goals as goal

pub returns : goal.returns
returns c =
    let s = c.args.self.now in
    is_first s.bytes.now s.window c.read_place.result c.in_ok-turn.turn _ c.whole_places.ensures c.in_ok-turn.ensures c.read_place.ensures
