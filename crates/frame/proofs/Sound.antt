-- Bytes without a fault begin with the frame of the report that they mean. Assumes nothing.
use Rattle.std.proofs.Common.{◌≡◌, ℕ, ◌+◌, ◌≤◌, Bool, true, false, cond, leb, ◌⊎◌, List, ◌∷◌, ◌++◌, length, get_or, take, drop, Some, None, Option, sym, refl, ap, ◌∙◌, inl, inr, arith, eqb-true, leb-true}
use Rattle.std.proofs.lemmas.List.{length-drop}
use Rattle.std.proofs.lemmas.Bool.Decides.{nat_tests}
use Rattle.report.specs.Lawful.{within, lawful, time_of, interval_of}
use Rattle.report.specs.Limits.{address_kinds, address_numbers, report_numbers, parties, last_tick}
use Rattle.report.specs.Refusals.{wrong_at}
use Rattle.report.specs.declared.refusal.Cause.{Cause}
use Rattle.report.specs.declared.refusal.Cause.TheVariants.{Cut, Length, FrameKind, AddressKind, AddressNumber, ReportNumber, Flags, Party, Zero, Tick, Interval, Sum}
use Rattle.report.specs.declared.refusal.Refusal.{Refusal}
use Rattle.report.specs.declared.refusal.Refusal.TheVariants.{WrongFrame}
use Rattle.report.specs.declared.report.Report.{Report}
use Rattle.frame.specs.Bytes.{at16, at32, AllBytes}
use Rattle.frame.specs.Flags.{flags_right, interval_right}
use Rattle.frame.specs.Frame.{frame_size, frame_kind, frame, first_fault, fields_say, blank, or_blank, decode, FrameRead, FrameRefused, ReadsAreFrames}
use Rattle.frame.proofs.Back.{frames_read}
use Rattle.frame.proofs.FlagBits.{right_flags_tell}
use Rattle.frame.proofs.Numbers.{le16_bytes, le32_bytes}
use Rattle.frame.proofs.Places.{Placed, rest, all_placed, spelled}

-- what stands in bytes without a fault
record Sound (b : List ℕ) : Type 0 where
  long : frame_size ≤ length b
  size : at16 b 0 ≡ frame_size
  sort : at16 b 2 ≡ frame_kind
  kind : within 1 address_kinds (get_or b 4 0) ≡ true
  address : within 1 address_numbers (get_or b 5 0) ≡ true
  number : within 1 report_numbers (at16 b 6) ≡ true
  flags : flags_right (get_or b 8 0) ≡ true
  party : within 1 parties (get_or b 9 0) ≡ true
  zeros : at16 b 10 ≡ 0
  tick : leb (at32 b 12) last_tick ≡ true
  interval : interval_right (get_or b 8 0) (at32 b 20) ≡ true
  sum : leb (at32 b 16 + at32 b 20) (at32 b 12) ≡ true

-- a rule that holds leaves the fault to the later ones
passed : (ok : Bool) (later : Option Cause) (c : Cause) → cond ok later (Some c) ≡ None → (ok ≡ true) × (later ≡ None)
passed true later c e = (refl, e)
passed false later c e = absurd (let z : ◌≡◌ {A = ℕ} 0 1 = cc in omega arith)

-- bytes without a fault keep every rule
sound : (b : List ℕ) → first_fault b ≡ None → Sound b
sound b e =
    let p0 = passed _ _ _ e in
    let p1 = passed _ _ _ p0.1 in
    let p2 = passed _ _ _ p1.1 in
    let p3 = passed _ _ _ p2.1 in
    let p4 = passed _ _ _ p3.1 in
    let p5 = passed _ _ _ p4.1 in
    let p6 = passed _ _ _ p5.1 in
    let p7 = passed _ _ _ p6.1 in
    let p8 = passed _ _ _ p7.1 in
    let p9 = passed _ _ _ p8.1 in
    let p10 = passed _ _ _ p9.1 in
    let p11 = passed _ _ _ p10.1 in
    record {
      long = leb-true _ _ p0.0;
      size = eqb-true _ _ p1.0;
      sort = eqb-true _ _ p2.0;
      kind = p3.0;
      address = p4.0;
      number = p5.0;
      flags = p6.0;
      party = p7.0;
      zeros = eqb-true _ _ p8.0;
      tick = p9.0;
      interval = p10.0;
      sum = p11.0;
    }

-- bytes without a fault mean what their fields say
pub decode_sound : (b : List ℕ) → first_fault b ≡ None → decode b ≡ fields_say b
unfolding decode
decode_sound b e = ap (λ o. or_blank o (fields_say b)) e

-- bytes with a fault mean the blank report
pub decode_fault : (b : List ℕ) (c : Cause) → first_fault b ≡ Some c → decode b ≡ blank
unfolding decode
decode_fault b c e = ap (λ o. or_blank o (fields_say b)) e

-- the report that the fields say is lawful
fields_lawful : (b : List ℕ) → Sound b → lawful (fields_say b) ≡ true
fields_lawful b s =
    let t = right_flags_tell (get_or b 8 0) (at32 b 16) (at32 b 20) s.flags s.interval in
    grind (arith, nat_tests)

-- the frame of what the fields say is the bytes that they stand in
fields_frame : (b : List ℕ) → AllBytes b → Sound b → take frame_size b ≡ frame (fields_say b)
fields_frame b bytes s =
    let t = right_flags_tell (get_or b 8 0) (at32 b 16) (at32 b 20) s.flags s.interval in
    let size = le16_bytes 24 _ _ (bytes 0) (bytes 1) (sym s.size) in
    let sort = le16_bytes 1 _ _ (bytes 2) (bytes 3) (sym s.sort) in
    let number = le16_bytes (at16 b 6) _ _ (bytes 6) (bytes 7) refl in
    let zeros = le16_bytes 0 _ _ (bytes 10) (bytes 11) (sym s.zeros) in
    let tick = le32_bytes (at32 b 12) _ _ _ _ (bytes 12) (bytes 13) (bytes 14) (bytes 15) refl in
    let time = le32_bytes (time_of (fields_say b).elapsed) _ _ _ _ (bytes 16) (bytes 17) (bytes 18) (bytes 19) t.times in
    let interval = le32_bytes (interval_of (fields_say b).elapsed) _ _ _ _ (bytes 20) (bytes 21) (bytes 22) (bytes 23) t.intervals in
    spelled b s.long
    ∙ sym (λ i. size i ++ (sort i ++ (get_or b 4 0 ∷ get_or b 5 0 ∷ (number i ++ (t.flags i ∷ get_or b 9 0 ∷ (zeros i ++ (tick i ++ (time i ++ interval i))))))))

-- bytes without a fault that were read
pub is_read : (b : List ℕ) (r : Report) (after : List ℕ) → AllBytes b → first_fault b ≡ None → r ≡ fields_say b → after ≡ drop frame_size b → FrameRead b r after
is_read b r after bytes e p d =
    let s = sound b e in
    record {
      sound = e;
      means = p ∙ sym (decode_sound b e);
      admitted = ap lawful p ∙ fields_lawful b s;
      front = fields_frame b bytes s ∙ ap frame (sym p);
      rest = d;
      count = omega (arith, s.long, ap length d, length-drop frame_size b);
    }

-- a place of at least a frame has every field
near : (n : ℕ) (c : Cause) → frame_size ≤ n → wrong_at n c ≤ n
near n Cut h = omega arith
near n Length h = omega arith
near n FrameKind h = omega arith
near n AddressKind h = omega arith
near n AddressNumber h = omega arith
near n ReportNumber h = omega arith
near n Flags h = omega arith
near n Party h = omega arith
near n Zero h = omega arith
near n Tick h = omega arith
near n Interval h = omega arith
near n Sum h = omega arith

-- only too few bytes are cut
long_or_cut : (ok : Bool) (later : Option Cause) (c : Cause) → cond ok later (Some Cut) ≡ Some c → (ok ≡ true) ⊎ (c ≡ Cut)
long_or_cut true later c e = inl refl
long_or_cut false later c e = inr (cc)

-- a fault is wrong at a place in the bytes or at their end
inside : (b : List ℕ) (c : Cause) → first_fault b ≡ Some c → wrong_at (length b) c ≤ length b
inside b c e =
    elim (long_or_cut (leb frame_size (length b)) _ c e) [ inl t ↦ near (length b) c (leb-true _ _ t) | inr q ↦ omega (arith, ap (wrong_at (length b)) q) ]

-- bytes with a fault that were refused, by where the fields stand after the first four bytes
pub is_refused : (b : List ℕ) (c : Cause) (e : Refusal) → (Placed b (rest b) → first_fault b ≡ Some c) → e ≡ WrongFrame (record { cause = c; place = wrong_at (length b) c }) → FrameRefused b e
is_refused b c e faulty refused = let first = faulty (all_placed b) in record { cause = c; first = first; refused = refused; inside = inside b c first }

-- bytes without a fault mean a lawful report and begin with its frame, and with that of no other lawful report
pub reads_are_frames : ReadsAreFrames
reads_are_frames b bytes e =
    let r = is_read b (decode b) (drop frame_size b) bytes e (decode_sound b e) refl in
    (r.admitted, r.front, λ q l f. sym (frames_read b q l f).1)
