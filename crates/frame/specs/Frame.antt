-- The report frame: the 24 bytes of a report, the rules on some bytes, and what the reader and the writer promise. Assumes nothing.
use Rattle.std.specs.Prelude.{◌≡◌, ℕ, ◌+◌, ◌≤◌, Bool, true, false, cond, List, [], ◌∷◌, ◌++◌, length, take, drop, Some, None, Option, ◌==◌, nat_le, slice_index}
use Rattle.report.specs.Lawful.{within, lawful, time_of, interval_of}
use Rattle.report.specs.Limits.{address_kinds, address_numbers, report_numbers, parties, last_tick}
use Rattle.report.specs.Refusals.{wrong_at}
use Rattle.report.specs.declared.refusal.Cause.{Cause}
use Rattle.report.specs.declared.refusal.Cause.TheVariants.{Cut, Length, FrameKind, AddressKind, AddressNumber, ReportNumber, Flags, Party, Zero, Tick, Interval, Sum}
use Rattle.report.specs.declared.refusal.Refusal.{Refusal}
use Rattle.report.specs.declared.refusal.Refusal.TheVariants.{OutOfRange, PlaceTooShort, WrongFrame}
use Rattle.report.specs.declared.report.Elapsed.TheVariants.{Plain}
use Rattle.report.specs.declared.report.Standing.TheVariants.{Ended}
use Rattle.report.specs.declared.report.Report.{Report}
use Rattle.frame.specs.Bytes.{le16, le32, at16, at32, AllBytes}
use Rattle.frame.specs.Flags.{flags_right, interval_right, flags_of, standing_at, elapsed_at}

-- a frame has so many bytes
abbrev pub frame_size : ℕ
frame_size = 24

-- the frame kind of a report
abbrev pub frame_kind : ℕ
frame_kind = 1

-- the bytes of a report: length, frame kind, address, number, flags, party, zero, tick, time and interval
abbrev pub frame : Report → List ℕ
frame r =
    le16 frame_size ++ (le16 frame_kind ++ (r.address.kind ∷ r.address.number ∷ (le16 r.number ++ (flags_of r ∷ r.party ∷ (le16 0
    ++ (le32 r.tick ++ (le32 (time_of r.elapsed) ++ le32 (interval_of r.elapsed))))))))

-- the rules on some bytes in the order in which they are checked, each with the cause that is named where it does not hold
abbrev pub rules : List ℕ → List (Bool × Cause)
rules b =
    (nat_le frame_size (length b), Cut) ∷
    ((at16 b 0 == frame_size), Length) ∷
    ((at16 b 2 == frame_kind), FrameKind) ∷
    (within 1 address_kinds (slice_index b 4), AddressKind) ∷
    (within 1 address_numbers (slice_index b 5), AddressNumber) ∷
    (within 1 report_numbers (at16 b 6), ReportNumber) ∷
    (flags_right (slice_index b 8), Flags) ∷
    (within 1 parties (slice_index b 9), Party) ∷
    ((at16 b 10 == 0), Zero) ∷
    (nat_le (at32 b 12) last_tick, Tick) ∷
    (interval_right (slice_index b 8) (at32 b 20), Interval) ∷
    (nat_le (at32 b 16 + at32 b 20) (at32 b 12), Sum) ∷
    []

-- the cause of the first rule that does not hold
abbrev pub first_broken : List (Bool × Cause) → Option Cause
first_broken [] = None
first_broken (p ∷ more) = cond p.0 (first_broken more) (Some p.1)

-- the first fault of some bytes, if they do not begin with a frame
abbrev pub first_fault : List ℕ → Option Cause
first_fault b = first_broken (rules b)

-- the report that the fields say
abbrev pub fields_say : List ℕ → Report
fields_say b =
    record {
      address = record { kind = slice_index b 4; number = slice_index b 5 };
      number = at16 b 6;
      party = slice_index b 9;
      tick = at32 b 12;
      standing = standing_at (slice_index b 8);
      elapsed = elapsed_at (slice_index b 8) (at32 b 16) (at32 b 20);
    }

-- a report that is never lawful: the meaning of bytes that are no frame
abbrev pub blank : Report
blank = record { address = record { kind = 0; number = 0 }; number = 0; party = 0; tick = 0; standing = Ended; elapsed = Plain 0 }

-- without a fault the report, else the blank one
abbrev pub or_blank : Option Cause → Report → Report
or_blank None r = r
or_blank (Some c) r = blank

-- the meaning of some bytes: the report of the frame that they begin with, or the blank one
unfoldable pub decode : List ℕ → Report
decode b = or_blank (first_fault b) (fields_say b)

-- what the reader hands out for the bytes b: the report of the frame at their front, whose bytes are those of the report, and the bytes after it
pub record FrameRead (b : List ℕ) (r : Report) (after : List ℕ) : Type 0 where
  pub sound : first_fault b ≡ None
  pub means : r ≡ decode b
  pub admitted : lawful r ≡ true
  pub front : take frame_size b ≡ frame r
  pub rest : after ≡ drop frame_size b
  pub count : length after + frame_size ≡ length b

-- what it refuses them with: the first rule that they break, and where that is, which is in them or at their end
pub record FrameRefused (b : List ℕ) (e : Refusal) : Type 0 where
  pub cause : Cause
  pub first : first_fault b ≡ Some cause
  pub refused : e ≡ WrongFrame (record { cause = cause; place = wrong_at (length b) cause })
  pub inside : wrong_at (length b) cause ≤ length b

-- why a report can't be written into a place: it is not lawful, else the place is too short
abbrev pub unwritable : Report → List ℕ → Option Refusal
unwritable r old = cond (lawful r) (cond (nat_le frame_size (length old)) None (Some PlaceTooShort)) (Some OutOfRange)

-- what the writer leaves: the frame, and further on what was there; the place then reads as the report
pub record FrameWritten (r : Report) (old new : List ℕ) : Type 0 where
  pub writable : unwritable r old ≡ None
  pub bytes : new ≡ frame r ++ drop frame_size old
  pub sound : first_fault new ≡ None
  pub means : decode new ≡ r

-- when it refuses, and that it then leaves the place as it was
pub record FrameUnwritten (e : Refusal) (r : Report) (old new : List ℕ) : Type 0 where
  pub why : unwritable r old ≡ Some e
  pub same : new ≡ old

-- what the writer and the reader make of a report together: a lawful report as it was
pub record Back (r back : Report) : Type 0 where
  pub admitted : lawful r ≡ true
  pub same : back ≡ r

-- and no other report
pub record NotBack (r : Report) (e : Refusal) : Type 0 where
  pub unlawful : lawful r ≡ false
  pub refused : e ≡ OutOfRange

-- bytes that begin with the frame of a lawful report have no fault and mean that report
abbrev pub FramesRead : Type 0
FramesRead = (b : List ℕ) (r : Report) → lawful r ≡ true → take frame_size b ≡ frame r → (first_fault b ≡ None) × (decode b ≡ r)

-- bytes without a fault mean a lawful report and begin with its frame, and with that of no other lawful report
abbrev pub ReadsAreFrames : Type 0
ReadsAreFrames =
    (b : List ℕ) → AllBytes b → first_fault b ≡ None →
    (lawful (decode b) ≡ true) × (take frame_size b ≡ frame (decode b)) × ((r : Report) → lawful r ≡ true → take frame_size b ≡ frame r → r ≡ decode b)

-- a last report: address 1.2, number 1, party 1, tick 1000, ended, plain form, time 600
abbrev pub sample : Report
sample = record { address = record { kind = 1; number = 2 }; number = 1; party = 1; tick = 1000; standing = Ended; elapsed = Plain 600 }

-- the bytes of its frame
abbrev pub sample_bytes : List ℕ
sample_bytes =
    0x18 ∷ 0x00 ∷ 0x01 ∷ 0x00 ∷ 0x01 ∷ 0x02 ∷ 0x01 ∷ 0x00 ∷ 0x00 ∷ 0x01 ∷ 0x00 ∷ 0x00 ∷
    0xE8 ∷ 0x03 ∷ 0x00 ∷ 0x00 ∷ 0x58 ∷ 0x02 ∷ 0x00 ∷ 0x00 ∷ 0x00 ∷ 0x00 ∷ 0x00 ∷ 0x00 ∷ []

-- the sample is lawful, has these bytes, and is what they mean
pub record Sample : Type 0 where
  pub admitted : lawful sample ≡ true
  pub bytes : frame sample ≡ sample_bytes
  pub all : AllBytes sample_bytes
  pub sound : first_fault sample_bytes ≡ None
  pub means : decode sample_bytes ≡ sample

-- written frames read back, what reads is a frame that would be written, and the sample shows that both have cases
pub record RoundTrip : Type 0 where
  pub read : FramesRead
  pub frames : ReadsAreFrames
  pub shown : Sample
