-- Where the reports of a reserve lie, and how they move. Assumes nothing.
use Rattle.std.specs.Prelude.{◌≡◌, ℕ, zero, suc, ◌+◌, ◌-◌, ◌<◌, ◌≤◌, min, Bool, true, false, cond, ◌&&◌, ◌⊎◌, List, [], ◌∷◌, ◌++◌, length, take, drop, Ok, ◌==◌, nat_lt, refl}
use Rattle.std.proofs.Common.{ap, arith}
use Rattle.std.specs.List.{AllByRecursion}
use Rattle.report.specs.declared.report.Report.{Report}
use Rattle.report.specs.Lawful.{lawful}
use Rattle.ring.specs.Slots.{list}
use Rattle.link.specs.Links.{View, with_one_more, Sends, Takes}
use Rattle.reserve.specs.declared.held.Held.{Held}
use Rattle.reserve.specs.declared.layer.Reserve.{Reserve}

-- so many places a reserve has of its own
abbrev pub reserve_places : ℕ
reserve_places = 8

-- the reports in the places of a reserve, oldest first
abbrev pub kept : Held → List Report
kept h = list h.places h.window

-- r was held behind the others
pub record Kept (h : Held) (r : Report) (k : Held) : Type 0 where
  pub room : length (kept h) < reserve_places
  pub list : kept k ≡ kept h ++ r ∷ []

-- every place was taken, and nothing changed
pub record NotKept (h k : Held) : Type 0 where
  pub full : length (kept h) ≡ reserve_places
  pub same : k ≡ h

-- where the reports lie: what the link below means, and the held ones, oldest first
pub record Lies : Type 0 where
  pub below : View
  pub held : List Report

-- the free places: those below and the reserve's own where nothing is held, else the reserve's own less the held
abbrev pub places_left : (held below : ℕ) → ℕ
places_left zero below = below + reserve_places
places_left (suc n) below = reserve_places - suc n

-- what the reserve means as a link: the list below, then the held ones
abbrev pub stacked : Lies → View
stacked s = record { waiting = s.below.waiting ++ s.held; free = places_left (length s.held) s.below.free; capacity = s.below.capacity + reserve_places }

-- a sent report goes down where nothing is held and a place is free below
abbrev pub goes_down : Lies → Bool
goes_down s = length s.held == 0 && nat_lt 0 s.below.free

-- one report more, below or held
abbrev pub sent : Lies → Report → Lies
sent s r = cond (goes_down s) (record { below = with_one_more s.below r; held = s.held }) (record { below = s.below; held = s.held ++ (r ∷ []) })

-- the oldest n of the held reports go down, in their order
abbrev pub moved : ℕ → Lies → Lies
moved n s = record { below = record { waiting = s.below.waiting ++ take n s.held; free = s.below.free - n; capacity = s.below.capacity }; held = drop n s.held }

-- so many held reports go down: as many as there are, or as there are free places below
abbrev pub moving : Lies → ℕ
moving s = min s.below.free (length s.held)

-- every one of the reports is within the frame's rules
abbrev pub AllLawful : List Report → Type 0
AllLawful rs = AllByRecursion (λ r. lawful r ≡ true) rs

-- the oldest held report goes down into a free place
pub record Moves (s t : Lies) : Type 0 where
  pub oldest : Report
  pub out : s.held ≡ oldest ∷ t.held
  pub room : 0 < s.below.free
  pub down : t.below ≡ with_one_more s.below oldest

-- nothing moves: where all that is held may be sent, nothing is held or no place is free below
pub record Rests (s t : Lies) : Type 0 where
  pub same : t ≡ s
  pub done : AllLawful s.held → (s.held ≡ []) ⊎ (s.below.free ≡ 0)

-- held reports went down in their order: where all of them may be sent, as many as there are free places for
pub record Settles (s t : Lies) : Type 0 where
  pub count : ℕ
  pub few : count ≤ length s.held
  pub room : count ≤ s.below.free
  pub is : t ≡ moved count s
  pub whole : AllLawful s.held → count ≡ moving s

-- r comes out, of those below or of the held ones
abbrev pub Drawn : (from_below : Bool) → Lies → Report → Lies → Type 0
Drawn true s r t = Takes s.below (Ok r) t.below × (t.held ≡ s.held)
Drawn false s r t = (t.below ≡ s.below) × (s.held ≡ r ∷ t.held)

-- r comes out as the oldest: of those below where one waits there, else of the held ones
abbrev pub Draws : Lies → Report → Lies → Type 0
Draws s r t = Drawn (nat_lt 0 (length s.below.waiting)) s r t

-- r comes out as the oldest, and then held reports move down while places are free
pub record Taken (s : Lies) (r : Report) (t : Lies) : Type 0 where
  pub between : Lies
  pub out : Draws s r between
  pub down : t ≡ moved (moving between) between

-- What a reserve keeps from call to call: what it holds may be sent, and waits only while nothing is free below.
pub record Sound (s : Lies) : Type 0 where
  pub lawful : AllLawful s.held
  pub settled : 0 < length s.held → s.below.free ≡ 0

-- What an admitted send does: as a link means it, and where the report lies then.
pub record Placed (s : Lies) (r : Report) (t : Lies) : Type 0 where
  pub sends : Sends (stacked s) r (Ok tt) (stacked t)
  pub lies : t ≡ sent s r
  pub sound : Sound s → Sound t

-- What an admitted take does: as a link means it, and where the others lie then.
pub record TakenOut (s : Lies) (r : Report) (t : Lies) : Type 0 where
  pub takes : Takes (stacked s) (Ok r) (stacked t)
  pub lies : Sound s → Taken s r t
  pub sound : Sound s → Sound t

-- two lists that join to nothing are empty
none : (xs ys : List Report) → xs ++ ys ≡ [] → (xs ≡ []) × (length ys ≡ 0)
none [] ys e = (refl, ap length e)
none (x ∷ xs) ys e = absurd (omega (arith, ap length e))

-- with nothing held, the places below and the reserve's own are free
none_held : (n below room : ℕ) → n ≡ 0 → below ≡ room → places_left n below ≡ room + reserve_places
none_held zero below room e f = omega arith
none_held (suc n) below room e f = absurd (omega arith)

module _ {L : Type 0} (view : L → View) where
  -- where the reports lie, by what the link below means
  abbrev pub lies : Reserve L → Lies
  lies s = record { below = view s.below; held = kept s.held }

  -- what the reserve means as a link
  abbrev pub layer_view : Reserve L → View
  layer_view s = stacked (lies s)

  -- with nothing below and nothing held, every place is free
  pub layer_whole : ((b : L) → (view b).waiting ≡ [] → (view b).free ≡ (view b).capacity) → (s : Reserve L) → (layer_view s).waiting ≡ [] → (layer_view s).free ≡ (layer_view s).capacity
  layer_whole whole s e =
      let parts = none (view s.below).waiting (kept s.held) e in
      none_held (length (kept s.held)) (view s.below).free (view s.below).capacity parts.1 (whole s.below parts.0)
