-- Bytes as places of one frame each, and the report that each means. Assumes nothing.
use Rattle.std.specs.Prelude.{◌≡◌, ℕ, ◌+◌, ◌*◌, ◌/◌, ◌<◌, true, false, List, ◌++◌, map, length, take, drop, slice_set}
use Rattle.std.specs.List.{range_with_len}
use Rattle.report.specs.Lawful.{lawful}
use Rattle.report.specs.declared.refusal.Refusal.{Refusal}
use Rattle.report.specs.declared.refusal.Refusal.TheVariants.{OutOfRange}
use Rattle.report.specs.declared.report.Report.{Report}
use Rattle.frame.specs.Frame.{frame_size, frame, decode}

-- the whole places in some bytes
abbrev pub places_in : List ℕ → ℕ
places_in b = length b / frame_size

-- the report that place i means: that of its frame, or the blank one where no frame stands there
abbrev pub place_at : List ℕ → ℕ → Report
place_at b i = decode (take frame_size (drop (frame_size * i) b))

-- the reports of all whole places, in their order
unfoldable pub places : List ℕ → List Report
places b = map (place_at b) (range_with_len 0 (places_in b))

-- the bytes b with the frame of r in place i, and every other byte as it was
abbrev pub with_frame : ℕ → Report → List ℕ → List ℕ
with_frame i r b = take (frame_size * i) b ++ (frame r ++ drop (frame_size * i + frame_size) b)

-- the bytes past the last whole place
abbrev pub past_places : List ℕ → List ℕ
past_places b = drop (frame_size * places_in b) b

-- the frame of r was written into place i, and every other byte is as it was, those past the last whole place too
pub record Filled (b : List ℕ) (i : ℕ) (r : Report) (after : List ℕ) : Type 0 where
  pub admitted : lawful r ≡ true
  pub inside : i < places_in b
  pub bytes : after ≡ with_frame i r b
  pub size : length after ≡ length b
  pub past : past_places after ≡ past_places b
  pub places : places after ≡ slice_set (places b) i r

-- r has no frame, and every byte is as it was
pub record NotFilled (b : List ℕ) (e : Refusal) (r : Report) (after : List ℕ) : Type 0 where
  pub unlawful : lawful r ≡ false
  pub refused : e ≡ OutOfRange
  pub same : after ≡ b
