-- The tally in memory, and where it stands in an input. Assumes nothing.
use Rattle.std.specs.Prelude.{◌≡◌, ℕ, ◌*◌, ◌<◌, ◌≤◌, false, List, length, take, drop, replicate, Some, None, Option}
use Rattle.report.specs.Limits.{open_accounts}
use Rattle.account.specs.Records.{closed_record}
use Rattle.account.specs.Follow.{Holds}
use Rattle.lines.specs.Line.{line_size}
use Rattle.lines.specs.Page.{Adds}
use Rattle.lines.specs.declared.page.Page.{Page}
use Rattle.stream.specs.declared.tally.Tally.{Tally}
use Rattle.stream.specs.Told.{Progress, Told, after_frames}

-- a tally that has read nothing
pub record Blank (t : Tally) : Type 0 where
  pub closed : t.records ≡ replicate open_accounts closed_record
  pub first : t.place ≡ 0
  pub on : t.ended ≡ false

-- the tally is so far in an input
pub record Stands (t : Tally) (p : Progress) : Type 0 where
  pub accounts : Holds t.records p.book
  pub place : t.place ≡ p.place
  pub ended : t.ended ≡ p.ended

-- what is told was put on the page, and the tally is so far
pub record PutsOn (told : Told) (old new : Page) (after : Tally) : Type 0 where
  pub text : Adds old told.text new
  pub stands : Stands after told.progress

-- what is told was put at the front of a place, up to `end`; what stands further on is as it was; and the tally is so far
pub record Puts (told : Told) (old : List ℕ) (end : ℕ) (new : List ℕ) (after : Tally) : Type 0 where
  pub ends : end ≡ length told.text
  pub front : take end new ≡ told.text
  pub rest : drop end new ≡ drop end old
  pub same : length new ≡ length old
  pub stands : Stands after told.progress

-- A text is put at the front of a place where n lines fit, whatever they are; else nothing is altered.
abbrev pub Tells : ℕ → (Progress → Told) → Tally → List ℕ → Option ℕ → List ℕ → Tally → Type 0
Tells n tell before old None new after = (length old < n * line_size) × (new ≡ old) × (after ≡ before)
Tells n tell before old (Some end) new after = (n * line_size ≤ length old) × (end ≤ length old) × ((p : Progress) → Stands before p → Puts (tell p) old end new after)

-- the bytes that stand after the whole frames among the first ones of a buffer lie at its front, as many as told, and what stands further on is as it was
pub record Keeps (old : List ℕ) (filled r : ℕ) (new : List ℕ) : Type 0 where
  pub front : take r new ≡ after_frames (take filled old)
  pub count : r ≡ length (after_frames (take filled old))
  pub inside : r ≤ length old
  pub further_on : drop r new ≡ drop r old
