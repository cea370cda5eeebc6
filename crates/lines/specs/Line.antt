-- The text of a line. Assumes nothing.
use Rattle.std.specs.Prelude.{◌≡◌, ℕ, zero, suc, ◌+◌, ◌<◌, ◌≤◌, min, List, [], ◌∷◌, ◌++◌, length, Ok, Err, Result, codes, decimal}
use Rattle.report.specs.Limits.{tariffs}
use Rattle.report.specs.Refusals.{returned}
use Rattle.report.specs.declared.report.Address.{Address}
use Rattle.report.specs.declared.refusal.Refusal.{Refusal}
use Rattle.account.specs.Rule.{Account}
use Rattle.account.specs.declared.record.Status.{Status}
use Rattle.account.specs.declared.record.Status.TheVariants.{Open, Closed, Repeat}
use Rattle.lines.specs.declared.line.Layer.{Layer}
use Rattle.lines.specs.declared.line.Layer.TheVariants.{Frame, Account as AccountLayer}
use Rattle.lines.specs.declared.page.Page.{Page}
use Rattle.lines.specs.declared.page.NoRoom.{NoRoom}
use Rattle.lines.specs.Page.{room, Adds}

-- what a line calls each status
abbrev pub status_text : Status → List ℕ
status_text Open = codes "open"
status_text Closed = codes "closed"
status_text Repeat = codes "repeat"

-- kind, point, number, a space, # and the report's number
abbrev pub head_text : Address → ℕ → List ℕ
head_text a n = decimal a.kind ++ (codes "." ++ (decimal a.number ++ (codes " #" ++ decimal n)))

-- a space, the tariff, a colon and its ticks
abbrev pub tariff_text : ℕ → ℕ → List ℕ
tariff_text k t = codes " " ++ (decimal k ++ (codes ":" ++ decimal t))

-- n tariffs from the kth on
abbrev pub tariffs_text : ℕ → ℕ → (ℕ → ℕ) → List ℕ
tariffs_text k zero f = []
tariffs_text k (suc n) f = tariff_text k (f k) ++ tariffs_text (k + 1) n f

-- the line of a report that was read: its address and number, what became of its account, and the account's tariffs up to the current one
abbrev pub line_text : Address → ℕ → Status → Account → List ℕ
line_text a n s acc = head_text a n ++ (codes " " ++ (status_text s ++ (tariffs_text 1 (min acc.current tariffs) acc.ticks ++ (10 ∷ []))))

-- what a line calls the layer that found a fault: the reader of frames, or the account rule
abbrev pub layer_text : Layer → List ℕ
layer_text Frame = codes "frame"
layer_text AccountLayer = codes "account"

-- the line of a fault: its layer, the number that is returned, and the place of the byte
abbrev pub fault_text : Layer → Refusal → ℕ → List ℕ
fault_text l e place = codes "fault " ++ (layer_text l ++ (codes " " ++ (decimal (returned e).number ++ (codes " " ++ (decimal place ++ (10 ∷ []))))))

-- no head is longer, and no tariff
abbrev pub head_size : ℕ
head_size = 33

abbrev pub tariff_size : ℕ
tariff_size = 22

-- no line is longer
abbrev pub line_size : ℕ
line_size = 800

-- A line is put on a page where a longest one fits; else nothing is altered.
abbrev pub Placed : Page → List ℕ → Result (Unit {0}) NoRoom → Page → Type 0
Placed old bs (Ok _) new = (line_size ≤ room old) × (length bs ≤ line_size) × Adds old bs new
Placed old bs (Err _) new = (room old < line_size) × (new ≡ old)
