-- Links that are filled to the last place, and emptied; and the piles among them. Assumes nothing.
use Rattle.std.proofs.Common.{◌≡◌, ℕ, ◌<◌, ◌≤◌, min, true, cond, ltb, List, [], length, Some, None, Option, refl, ap, arith}
use Rattle.std.proofs.ByRecursion.{All-drop}
use Rattle.std.proofs.lemmas.Bool.Decides.{nat_tests}
use Rattle.std.proofs.lemmas.Grind.{common_steps}
use Rattle.report.specs.declared.refusal.Refusal.{Refusal}
use Rattle.report.specs.declared.refusal.Refusal.TheVariants.{NoFreePlace}
use Rattle.report.specs.declared.report.Report.{Report}
use Rattle.report.specs.Lawful.{lawful}
use Rattle.link.specs.Links.{View}
use Rattle.link.specs.Records.{record_whole}
use Rattle.frame_ring.specs.Ring.{frame_whole}
use Rattle.reserve.specs.Lies.{layer_whole, AllLawful}
use Rattle.piles.specs.Batches.{SentFirst, RefusedNext, Stops, TookFirst, empty, Fills, Empties}
use Rattle.piles.specs.Piles.{Kind, Pile, pile_view, pile_places, Learns, EachPileStands}
use Rattle.piles.specs.Piles.Kind.{records, frames, above}
use Rattle.piles.proofs.Kept.{keeps_all}

-- a view with nothing waiting and all of so many places free
is_empty : (v : View) (n : ℕ) → v.waiting ≡ [] → v.free ≡ v.capacity → v.capacity ≡ n → v ≡ empty n
is_empty v n none whole size = grind arith

-- a lawful report is refused only where no place is free
refused_lawful : (e : Refusal) (w : View) (rs : List Report) (n : ℕ) → AllLawful rs → RefusedNext e w rs n → (n < length rs) × (w.free ≡ 0) × (e ≡ NoFreePlace)
refused_lawful e w rs n all so = let rest = All-drop (λ r. lawful r ≡ true) n rs all in grind (arith, common_steps, so.left, so.why)

-- what is left to show of an empty link that is filled: how many went, and why no more did
as_filled : (v w : View) (rs : List Report) (n : ℕ) (why : Option Refusal) → v.waiting ≡ [] → v.free ≡ v.capacity → SentFirst v rs n w → n ≡ min (length rs) v.capacity → why ≡ cond (ltb v.capacity (length rs)) (Some NoFreePlace) None → Fills v.capacity rs n why w
as_filled v w rs n why none whole so count refusal = grind (arith, common_steps)

-- an empty link is filled to the last place
filled : (v w : View) (rs : List Report) (n : ℕ) (why : Option Refusal) → v.waiting ≡ [] → v.free ≡ v.capacity → AllLawful rs → SentFirst v rs n w → Stops why w rs n → Fills v.capacity rs n why w
filled v w rs n None none whole all so stops = as_filled v w rs n None none whole so (omega (arith, so.room)) (grind (arith, nat_tests, so.room))
filled v w rs n (Some e) none whole all so stops =
    let next = refused_lawful e w rs n all stops in
    let full : n ≡ v.capacity = omega (arith, so.room, next.1, ap (λ x. x.free) so.is) in
    as_filled v w rs n (Some e) none whole so (omega (arith, next.0)) (grind (arith, nat_tests, next))

-- a link whose reports fit into a place is emptied into it
emptied : (v w : View) (old new : List Report) (n : ℕ) → (w.waiting ≡ [] → w.free ≡ w.capacity) → length v.waiting ≤ length old → TookFirst v old n new w → n ≡ min (length old) (length v.waiting) → Empties v n new w
emptied v w old new n whole fits so count = grind (arith, common_steps)

-- generic code learns the same of every link whose empty list has its whole capacity free
pub learned : {S : Type 0} (view : S → View) → ((s : S) → (view s).waiting ≡ [] → (view s).free ≡ (view s).capacity) → Learns view
learned view whole =
    record {
      calls = λ s t xs ys none made. keeps_all (view s) (view t) xs ys none (whole s none) (whole t) made;
      fills = λ s t rs n why none all so stops. filled (view s) (view t) rs n why none (whole s none) all so stops;
      empties = λ s t old new n fits so count. emptied (view s) (view t) old new n (whole t) fits so count;
    }

-- an empty pile has every place free
pile_whole : (k : Kind) (s : Pile k) → (pile_view k s).waiting ≡ [] → (pile_view k s).free ≡ (pile_view k s).capacity
pile_whole records s e = record_whole s e
pile_whole frames s e = frame_whole s e
pile_whole (above k) s e = layer_whole (pile_view k) (pile_whole k) s e

-- the capacity of a pile is its places
pile_size : (k : Kind) (s : Pile k) → (pile_view k s).capacity ≡ pile_places k s
pile_size records s = refl
pile_size frames s = refl
pile_size (above k) s = omega (arith, pile_size k s.below)

-- what generic code learns holds of every pile
pub every_pile : EachPileStands
every_pile k = record { learns = learned (pile_view k) (pile_whole k); capacity = pile_size k }
