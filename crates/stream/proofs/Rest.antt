-- The bytes after the whole frames of a buffer, moved to its front. Assumes nothing.
use Rattle.std.proofs.Common.{◌≡◌, ℕ, ◌+◌, ◌-◌, ◌*◌, ◌/◌, ◌≤◌, min, List, length, take, drop, sym, ap, ◌∙◌, arith, length-drop, length-take}
use Rattle.std.proofs.Math.Seq.{paste}
use Rattle.std.proofs.lemmas.List.{drop-take, take_min}
use Rattle.std.proofs.lemmas.List.Edits.{take-paste, drop-paste}
use Rattle.frame.specs.Frame.{frame_size}
use Rattle.stream.specs.Told.{frames_in}
use Rattle.stream.specs.Stands.{Keeps}

pub keeps : (old new : List ℕ) (filled n whole : ℕ) → n ≡ min filled (length old) → whole ≡ n / frame_size * frame_size → new ≡ paste old 0 (drop whole old) (n - whole) → Keeps old filled (n - whole) new
keeps old new filled n whole is whole_is moved =
    let long = length-take filled old in
    let some : n - whole ≤ length (drop whole old) = omega (arith, length-drop whole old) in
    let at : whole ≡ frame_size * frames_in (take filled old) = omega arith in
    let all : whole + (n - whole) ≡ min filled (length old) = omega arith in
    let zero : n - whole ≡ 0 + (n - whole) = omega arith in
    record {
      front =
          (λ i. take (zero i) (moved i)) ∙ take-paste old 0 (drop whole old) (n - whole) (omega arith) some
          ∙ (sym (drop-take whole (n - whole) old) ∙ ap (λ k. drop whole (take k old)) all ∙ (λ i. drop (at i) (take_min filled old i)));
      count = omega (arith, length-drop (frame_size * frames_in (take filled old)) (take filled old));
      inside = omega arith;
      further_on = (λ i. drop (zero i) (moved i)) ∙ drop-paste old 0 (drop whole old) (n - whole) (omega arith) some ∙ ap (λ k. drop k old) (sym zero);
    }
