-- What is told of an input of frames, up to its end or its first fault. Assumes nothing.
use Rattle.std.specs.Prelude.{ℕ, zero, suc, ◌+◌, ◌-◌, ◌*◌, ◌/◌, ◌^◌, min, Bool, true, false, cond, List, [], ◌∷◌, ◌++◌, length, take, drop, Some, None, Ok, Err, Option, Result}
use Rattle.report.specs.Refusals.{wrong_at}
use Rattle.report.specs.declared.report.Report.{Report}
use Rattle.report.specs.declared.refusal.Cause.{Cause}
use Rattle.report.specs.declared.refusal.Refusal.{Refusal}
use Rattle.report.specs.declared.refusal.Refusal.TheVariants.{WrongFrame}
use Rattle.frame.specs.Frame.{frame_size, first_fault, decode}
use Rattle.account.specs.Rule.{Account, Book, no_accounts, read_one}
use Rattle.account.specs.Follow.{newest, status_at}
use Rattle.account.specs.declared.record.Status.{Status}
use Rattle.lines.specs.Line.{line_text, fault_text}
use Rattle.lines.specs.declared.line.Layer.TheVariants.{Frame as FrameLayer, Account as AccountLayer}

-- how far an input is read: the accounts so far, the place of the next byte in the input, and whether a fault ended it
pub record Progress : Type 0 where
  pub book : Book
  pub place : ℕ
  pub ended : Bool

-- a text, and how far the input is read after it
pub record Told : Type 0 where
  pub text : List ℕ
  pub progress : Progress

-- a place further on; places from the largest number of 64 bits on are not told apart
abbrev pub further : ℕ → ℕ → ℕ
further place n = min (place + n) (2 ^ 64 - 1)

abbrev pub nothing : Progress → Told
nothing p = record { text = []; progress = p }

-- a fault ends the text
abbrev pub faulted : List ℕ → Progress → Told
faulted text p = record { text = text; progress = record { book = p.book; place = p.place; ended = true } }

-- the line of a report that was read
abbrev pub reading_text : Report → Status → Option Account → List ℕ
reading_text r s None = []
reading_text r s (Some acc) = line_text r.address r.number s acc

-- what is told of a report that the account rule reads, or refuses: the place of such a fault is the frame's first byte
abbrev pub after_rule : Report → Progress → Result Book Refusal → Told
after_rule r p (Err e) = faulted (fault_text AccountLayer e p.place) p
after_rule r p (Ok b) = record {
  text = reading_text r (status_at r (p.book r.address).open_at) (newest (b r.address));
  progress = record { book = b; place = further p.place frame_size; ended = p.ended };
}

-- what is told of bytes that begin with a frame, or have a first fault
abbrev pub after_reader : List ℕ → Progress → Option Cause → Told
after_reader b p None = after_rule (decode b) p (read_one (decode b) p.book)
after_reader b p (Some c) = faulted (fault_text FrameLayer (WrongFrame (record { cause = c; place = wrong_at (length b) c })) (further p.place (wrong_at (length b) c))) p

-- what is told of one frame
abbrev pub tell_one : List ℕ → Progress → Told
tell_one b p = after_reader b p (first_fault b)

-- what is told next, unless a fault ended it
abbrev pub then_tell : Told → (Progress → Told) → Told
then_tell x f = cond x.progress.ended x (record { text = x.text ++ (f x.progress).text; progress = (f x.progress).progress })

-- what is told of the n frames that some bytes begin with
abbrev pub tell : ℕ → List ℕ → Progress → Told
tell zero b p = nothing p
tell (suc n) b p = then_tell (tell_one (take frame_size b) p) (tell n (drop frame_size b))

-- the whole frames that some bytes begin with, and the bytes after them
abbrev pub frames_in : List ℕ → ℕ
frames_in b = length b / frame_size

abbrev pub after_frames : List ℕ → List ℕ
after_frames b = drop (frame_size * frames_in b) b

-- what is told of the whole frames
abbrev pub tell_frames : List ℕ → Progress → Told
tell_frames b p = tell (frames_in b) b p

-- what is told of the bytes that an input ends with: to end between frames is no fault
abbrev pub tell_end : List ℕ → Progress → Told
tell_end [] p = nothing p
tell_end (x ∷ b) p = tell_one (x ∷ b) p

-- what is told of a whole input
abbrev pub tell_all : List ℕ → Progress → Told
tell_all b p = then_tell (tell_frames b p) (tell_end (after_frames b))

-- nothing more is told once a fault ended the input
abbrev pub unless_ended : (Progress → Told) → Progress → Told
unless_ended f p = cond p.ended (nothing p) (f p)

-- before the first byte
abbrev pub at_start : Progress
at_start = record { book = no_accounts; place = 0; ended = false }
