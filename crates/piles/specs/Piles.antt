-- Piles: a ring of records or of frames, bare or under reserves, and what generic code learns of each. Assumes nothing.
use Rattle.std.specs.Prelude.{◌≡◌, ℕ, ◌+◌, ◌≤◌, min, List, [], length, Option}
use Rattle.report.specs.declared.refusal.Refusal.{Refusal}
use Rattle.report.specs.declared.report.Report.{Report}
use Rattle.ring.specs.declared.fifo.Fifo.{Fifo}
use Rattle.ring.specs.Queue.{capacity}
use Rattle.link.specs.Links.{View}
use Rattle.link.specs.Records.{record_view}
use Rattle.frame_ring.specs.declared.queue.FrameRing.{FrameRing}
use Rattle.frame_ring.specs.Places.{places_in}
use Rattle.frame_ring.specs.Ring.{memory, frame_view}
use Rattle.reserve.specs.declared.layer.Reserve.{Reserve}
use Rattle.reserve.specs.Lies.{reserve_places, layer_view, AllLawful}
use Rattle.piles.specs.Calls.{Calls, KeepsAll}
use Rattle.piles.specs.Batches.{SentFirst, Stops, TookFirst, Fills, Empties}

-- the kinds of piles: a ring of records, a ring of frames, and a reserve above a pile
pub data Kind : Type 0 where
  records : Kind
  frames : Kind
  above : Kind → Kind

-- the piles of a kind
abbrev pub Pile : Kind → Type 0
Pile records = Fifo Report
Pile frames = FrameRing
Pile (above k) = Reserve (Pile k)

-- what a pile means as a link
abbrev pub pile_view : (k : Kind) → Pile k → View
pile_view records f = record_view f
pile_view frames f = frame_view f
pile_view (above k) s = layer_view (pile_view k) s

-- the places of a pile: the records lent, or the whole places in the bytes lent, and eight for each reserve
abbrev pub pile_places : (k : Kind) → Pile k → ℕ
pile_places records f = capacity f
pile_places frames f = places_in (memory f)
pile_places (above k) s = pile_places k s.below + reserve_places

-- What generic code learns of a link by its promises alone, the link's states being those of S. Whatever calls it makes from an empty
-- one on, reports come out in the order of admission, each once, and all places are free whenever nothing waits; an empty one is filled
-- to the last place; and one whose reports fit into a place is emptied into it, and has its whole capacity free again.
pub record Learns {S : Type 0} (view : S → View) : Type 0 where
  pub calls : (s t : S) (admitted handed : List Report) → (view s).waiting ≡ [] → Calls (view s) admitted handed (view t) → KeepsAll (view s).capacity admitted handed (view t)
  pub fills : (s t : S) (rs : List Report) (n : ℕ) (why : Option Refusal) → (view s).waiting ≡ [] → AllLawful rs → SentFirst (view s) rs n (view t) → Stops why (view t) rs n → Fills (view s).capacity rs n why (view t)
  pub empties : (s t : S) (old new : List Report) (n : ℕ) → length (view s).waiting ≤ length old → TookFirst (view s) old n new (view t) → n ≡ min (length old) (length (view s).waiting) → Empties (view s) n new (view t)

-- What generic code learns of a link holds of every pile, however many reserves it has; and its capacity is its places.
pub record EveryPile (k : Kind) : Type 0 where
  pub learns : Learns (pile_view k)
  pub capacity : (s : Pile k) → (pile_view k s).capacity ≡ pile_places k s

-- the theorem over all kinds of piles
abbrev pub EachPileStands : Type 0
EachPileStands = (k : Kind) → EveryPile k
