-- What calls on a link keep. Assumes nothing.
use Rattle.std.proofs.Common.{◌≡◌, ℕ, ◌-◌, ◌≤◌, List, [], ◌∷◌, ◌++◌, length, take, Ok, sym, refl, ap, subst, append_assoc, append-nil, arith}
use Rattle.std.proofs.lemmas.Grind.{common_steps}
use Rattle.report.specs.declared.report.Report.{Report}
use Rattle.link.specs.Links.{View, with_one_more, Sends, Takes}
use Rattle.reserve.specs.Lies.{AllLawful}
use Rattle.piles.specs.Batches.{SentFirst, TookFirst}
use Rattle.piles.specs.Calls.{Calls, Keeps, KeepsAll}
use Rattle.piles.specs.Calls.Calls.{over, admits, refuses, hands_out, has_none}

admitted : (v u w : View) (r : Report) (xs ys : List Report) → Sends v r (Ok tt) u → Keeps u xs ys w → Keeps v (r ∷ xs) ys w
admitted v u w r xs ys is so = grind (arith, common_steps, append_assoc)

handed : (v u w : View) (r : Report) (xs ys : List Report) → Takes v (Ok r) u → Keeps u xs ys w → Keeps v xs (r ∷ ys) w
handed v u w r xs ys is so = grind (arith, common_steps)

pub keeps : {v w : View} {xs ys : List Report} → Calls v xs ys w → Keeps v xs ys w
keeps {v} over = record { order = append-nil v.waiting; places = omega arith; capacity = refl }
keeps {v} {w} (admits {u = u} {r = r} {xs = xs} {ys = ys} is rest) = admitted v u w r xs ys is (keeps rest)
keeps {v} {w} {xs} {ys} (refuses r e is rest) = subst (λ x. Keeps x xs ys w) is.1 (keeps rest)
keeps {v} {w} (hands_out {u = u} {r = r} {xs = xs} {ys = ys} is rest) = handed v u w r xs ys is (keeps rest)
keeps {v} {w} {xs} {ys} (has_none e is rest) = subst (λ x. Keeps x xs ys w) is.2 (keeps rest)

-- from an empty link
pub keeps_all : (v w : View) (xs ys : List Report) → v.waiting ≡ [] → v.free ≡ v.capacity → (w.waiting ≡ [] → w.free ≡ w.capacity) → Calls v xs ys w → KeepsAll v.capacity xs ys w
keeps_all v w xs ys none whole whole-after calls = let so = keeps calls in grind (arith, common_steps)

-- reports that are sent one after the other
sends_each : (v w : View) (xs : List Report) → AllLawful xs → length xs ≤ v.free → w ≡ record { waiting = v.waiting ++ xs; free = v.free - length xs; capacity = v.capacity } → Calls v xs [] w
sends_each v w [] all room is =
    let same : w ≡ v = grind (arith, common_steps) in
    subst (λ x. Calls v [] [] x) (sym same) over
sends_each v w (x ∷ xs) all room is =
    admits {u = with_one_more v x} (all.0, omega arith, refl) (sends_each (with_one_more v x) w xs all.1 (omega arith) (grind (arith, common_steps)))

-- the first n of a row, sent
pub sent_calls : (v w : View) (rs : List Report) (n : ℕ) → SentFirst v rs n w → Calls v (take n rs) [] w
sent_calls v w rs n so = sends_each v w (take n rs) so.admitted (grind (arith, common_steps, so.room)) (grind (arith, common_steps, so.few))

-- reports that are taken one after the other
takes_each : (v w : View) (xs : List Report) → v.waiting ≡ xs ++ w.waiting → v.free ≤ w.free → w.capacity ≡ v.capacity → (xs ≡ [] → w ≡ v) → Calls v [] xs w
takes_each v w [] out free same none = subst (λ x. Calls v [] [] x) (sym (none refl)) over
takes_each v w (x ∷ []) out free same none = hands_out (out, free, same) over
takes_each v w (x ∷ y ∷ xs) out free same none =
    let u : View = record { waiting = y ∷ (xs ++ w.waiting); free = v.free; capacity = v.capacity } in
    hands_out {u = u} (out, omega arith, refl) (takes_each u w (y ∷ xs) refl free same (λ e. absurd (omega (arith, ap length e))))

-- the n oldest, taken
pub took_calls : (v w : View) (old new : List Report) (n : ℕ) → TookFirst v old n new w → Calls v [] (take n new) w
took_calls v w old new n so = takes_each v w (take n new) so.out so.free so.capacity (λ e. grind (arith, common_steps, so.none))
