use Rattle.std.proofs.Common.{◌≡◌, ◌*◌, ◌≤◌}
use Rattle.std.specs.Slice.Iter.{chunks_exact_rest, chunks_exact_size}
use Rattle.frame.specs.Frame.{frame_size}
use Rattle.lines.specs.Line.{line_size}
use Rattle.lines.specs.Page.{room, SameLender}
use Rattle.stream.specs.Told.{Progress, frames_in, tell_frames, unless_ended}
use Rattle.stream.specs.Stands.{Stands}
use Rattle.stream.proofs.Loop.{SoFar}
use Rattle.stream.proofs.tally.Tally.tell_frames.Given as goal

-- the lines of what is left fit, and the frames before it are told
abbrev pub invariant-loop-frame : goal.invariant-loop-frame
invariant-loop-frame l = record {
  lender : SameLender l.initial.page l.page;
  size : chunks_exact_size l.frame-iterator ≡ frame_size;
  fits : frames_in (chunks_exact_rest l.frame-iterator) * line_size ≤ room l.page;
  told : (p : Progress) → Stands l.initial.self p → SoFar (unless_ended (tell_frames l.block)) p l.initial.page l.page l.self (chunks_exact_rest l.frame-iterator);
}
