-- The frame of a lawful report reads as that report. Assumes nothing.
use Rattle.std.proofs.Common.{◌≡◌, ℕ, ◌+◌, ◌<◌, ◌≤◌, Bool, true, false, cond, leb, List, ◌++◌, length, get_or, take, drop, Some, None, sym, refl, ap, ◌∙◌, arith}
use Rattle.std.proofs.lemmas.List.{get_or-take, length-take}
use Rattle.std.proofs.lemmas.Bool.Decides.{nat_tests}
use Rattle.report.specs.Lawful.{lawful, time_of, interval_of, counted}
use Rattle.report.specs.Limits.{report_numbers, last_tick}
use Rattle.report.specs.declared.refusal.Refusal.{Refusal}
use Rattle.report.specs.declared.refusal.Refusal.TheVariants.{OutOfRange, PlaceTooShort}
use Rattle.report.specs.declared.report.Report.{Report}
use Rattle.frame.specs.Bytes.{at16, at32}
use Rattle.frame.specs.Flags.{flags_right, interval_right, flags_of, standing_at, elapsed_at}
use Rattle.frame.specs.Frame.{frame_size, frame_kind, frame, first_fault, fields_say, or_blank, decode, unwritable, FrameWritten, FramesRead, NotBack}
use Rattle.frame.proofs.FlagBits.{told}
use Rattle.frame.proofs.Numbers.{le16_number, le32_number}

-- what stands in bytes that begin with the frame of r
record Holds (b : List ℕ) (r : Report) : Type 0 where
  long : frame_size ≤ length b
  size : at16 b 0 ≡ frame_size
  sort : at16 b 2 ≡ frame_kind
  kind : get_or b 4 0 ≡ r.address.kind
  address : get_or b 5 0 ≡ r.address.number
  number : at16 b 6 ≡ r.number
  flags : get_or b 8 0 ≡ flags_of r
  party : get_or b 9 0 ≡ r.party
  zeros : at16 b 10 ≡ 0
  tick : at32 b 12 ≡ r.tick
  time : at32 b 16 ≡ time_of r.elapsed
  interval : at32 b 20 ≡ interval_of r.elapsed

-- a byte of the frame
byte : (b : List ℕ) (r : Report) → take 24 b ≡ frame r → (k : ℕ) → k < 24 → get_or b k 0 ≡ get_or (frame r) k 0
byte b r e k h = sym (get_or-take 24 b k 0 h) ∙ ap (λ (l : List ℕ). get_or l k 0) e

-- the ranges of a lawful report, as orders
record Ranges (r : Report) : Type 0 where
  number : r.number ≤ report_numbers
  tick : r.tick ≤ last_tick
  sum : time_of r.elapsed + interval_of r.elapsed ≤ r.tick
  counts : counted r.elapsed ≡ true

ranges : (r : Report) → lawful r ≡ true → Ranges r
ranges r l = record { number = grind (arith, nat_tests); tick = grind (arith, nat_tests); sum = grind (arith, nat_tests); counts = grind (arith, nat_tests) }

-- bytes that begin with the frame of a lawful report hold its values
holds : (b : List ℕ) (r : Report) → lawful r ≡ true → take 24 b ≡ frame r → Holds b r
holds b r l e =
    let v = byte b r e in
    let g = ranges r l in
    record {
      long = omega (arith, sym (length-take 24 b) ∙ ap length e);
      size = le16_number 24 _ _ (omega arith) (v 0 (omega arith)) (v 1 (omega arith));
      sort = le16_number 1 _ _ (omega arith) (v 2 (omega arith)) (v 3 (omega arith));
      kind = v 4 (omega arith);
      address = v 5 (omega arith);
      number = le16_number r.number _ _ (omega arith) (v 6 (omega arith)) (v 7 (omega arith));
      flags = v 8 (omega arith);
      party = v 9 (omega arith);
      zeros = le16_number 0 _ _ (omega arith) (v 10 (omega arith)) (v 11 (omega arith));
      tick = le32_number r.tick _ _ _ _ (omega arith) (v 12 (omega arith)) (v 13 (omega arith)) (v 14 (omega arith)) (v 15 (omega arith));
      time = le32_number (time_of r.elapsed) _ _ _ _ (omega arith) (v 16 (omega arith)) (v 17 (omega arith)) (v 18 (omega arith)) (v 19 (omega arith));
      interval = le32_number (interval_of r.elapsed) _ _ _ _ (omega arith) (v 20 (omega arith)) (v 21 (omega arith)) (v 22 (omega arith)) (v 23 (omega arith));
    }

-- such bytes keep every rule
no_fault : (b : List ℕ) (r : Report) → lawful r ≡ true → Holds b r → first_fault b ≡ None
no_fault b r l h =
    let g = ranges r l in
    let t = told r.standing r.elapsed in
    let f : flags_right (get_or b 8 0) ≡ true = ap flags_right h.flags ∙ t.right in
    let i : interval_right (get_or b 8 0) (at32 b 20) ≡ true = (λ j. interval_right (h.flags j) (h.interval j)) ∙ t.interval g.counts in
    grind (arith, nat_tests)

-- and their fields say the report
fields_back : (b : List ℕ) (r : Report) → Holds b r → fields_say b ≡ r
fields_back b r h =
    let t = told r.standing r.elapsed in
    let s = ap standing_at h.flags ∙ t.standing in
    let e = (λ i. elapsed_at (h.flags i) (h.time i) (h.interval i)) ∙ t.elapsed in
    λ i. record { address = record { kind = h.kind i; number = h.address i }; number = h.number i; party = h.party i; tick = h.tick i; standing = s i; elapsed = e i }

-- bytes that begin with the frame of a lawful report have no fault and mean that report
pub frames_read : FramesRead
unfolding decode
frames_read b r l e =
    let h = holds b r l e in
    let n = no_fault b r l h in (n, ap (λ o. or_blank o (fields_say b)) n ∙ fields_back b r h)

-- the frame of a lawful report means that report, whatever stands further on
pub decode_frame : (r : Report) (more : List ℕ) → lawful r ≡ true → decode (frame r ++ more) ≡ r
decode_frame r more l = (frames_read (frame r ++ more) r l refl).1

-- a place that a frame was written into reads as the report
pub is_written : (r : Report) (old new : List ℕ) → lawful r ≡ true → frame_size ≤ length old → new ≡ frame r ++ drop frame_size old → FrameWritten r old new
is_written r old new l room e =
    let back = frames_read new r l (ap (take frame_size) e) in
    record { writable = grind (arith, nat_tests); bytes = e; sound = back.0; means = back.1 }

-- with room for a frame, a report is refused only if it is not lawful
refusal_at : (ok : Bool) (n : ℕ) (e : Refusal) → frame_size ≤ n → cond ok (cond (leb frame_size n) None (Some PlaceTooShort)) (Some OutOfRange) ≡ Some e → (ok ≡ false) × (e ≡ OutOfRange)
refusal_at true n e room why = absurd (grind (arith, nat_tests))
refusal_at false n e room why = (refl, cc)

pub not_back : (r : Report) (old : List ℕ) (e : Refusal) → frame_size ≤ length old → unwritable r old ≡ Some e → NotBack r e
not_back r old e room why = let p = refusal_at (lawful r) (length old) e room why in record { unlawful = p.0; refused = p.1 }
