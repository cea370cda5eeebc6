-- What a ring of frames means. Assumes nothing.
use Rattle.std.specs.Prelude.{◌≡◌, ℕ, List, [], length}
use Rattle.std.proofs.Common.{ap, arith}
use Rattle.report.specs.declared.report.Report.{Report}
use Rattle.link.specs.Links.{View}
use Rattle.frame_ring.specs.Frames.{bytes_view, next_place, Wrote, Freed}
use Rattle.frame_ring.specs.declared.queue.FrameRing.{FrameRing}

-- the lent bytes
abbrev pub memory : FrameRing → List ℕ
memory f = f.bytes.now

-- the reports that wait in the ring, its free places, and the whole places in the bytes handed
abbrev pub frame_view : FrameRing → View
frame_view f = bytes_view (memory f) f.window

-- the place that the next report is written into
abbrev pub next_slot : FrameRing → ℕ
next_slot f = next_place (memory f) f.window

-- an empty ring has every place free
pub frame_whole : (f : FrameRing) → (frame_view f).waiting ≡ [] → (frame_view f).free ≡ (frame_view f).capacity
frame_whole f e = omega (arith, ap length e)

-- what a send writes: the frame of r in one place
abbrev pub Sent : FrameRing → Report → FrameRing → Type 0
Sent f r g = Wrote (memory f) f.window r (memory g) g.window

-- what a take leaves: every byte, and one place more that is free
pub record Taken (f g : FrameRing) : Type 0 where
  pub bytes : memory g ≡ memory f
  pub freed : Freed (memory f) f.window g.window
