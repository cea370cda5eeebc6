-- Blocks of an input, however it is cut. Assumes nothing.
use Rattle.std.proofs.Common.{◌≡◌, ℕ, zero, suc, ◌+◌, ◌*◌, ◌<◌, ◌≤◌, Bool, true, false, cond, List, [], ◌∷◌, ◌++◌, length, take, drop, sym, refl, ap, ◌∙◌, append_assoc, append-nil, arith, length-append, length-drop}
use Rattle.std.proofs.lemmas.List.{take-append-le, drop-append-le, drop-drop}
use Rattle.frame.specs.Frame.{frame_size}
use Rattle.stream.specs.Told.{Progress, Told, nothing, tell_one, then_tell, tell, frames_in, after_frames, tell_frames, tell_end, tell_all}
use Rattle.stream.proofs.Loop.{joined_to}
use Rattle.stream.specs.Cuts.{joined, tell_blocks, CutAnyhow}

-- what is told next matters only where no fault ended it
then_same : (x : Told) (f g : Progress → Told) → (x.progress.ended ≡ false → f x.progress ≡ g x.progress) → then_tell x f ≡ then_tell x g
then_same x f g h = go x.progress.ended refl
  where
    go : (v : Bool) → x.progress.ended ≡ v → cond v x (record { text = x.text ++ (f x.progress).text; progress = (f x.progress).progress }) ≡ cond v x (record { text = x.text ++ (g x.progress).text; progress = (g x.progress).progress })
    go true e = refl
    go false e = ap (λ (y : Told). record { text = x.text ++ y.text; progress = y.progress }) (h e)

then_assoc : (x : Told) (f g : Progress → Told) → then_tell (then_tell x f) g ≡ then_tell x (λ q. then_tell (f q) g)
then_assoc x f g = go x.progress.ended refl (f x.progress)
  where
    inner : (v : Bool) (y : Told) → cond v (joined_to x.text y) (joined_to (x.text ++ y.text) (g y.progress)) ≡ joined_to x.text (cond v y (joined_to y.text (g y.progress)))
    inner true y = refl
    inner false y = ap (λ l. record { text = l; progress = (g y.progress).progress }) (append_assoc x.text y.text (g y.progress).text)

    go : (v : Bool) → x.progress.ended ≡ v → (y : Told) → then_tell (cond v x (joined_to x.text y)) g ≡ cond v x (joined_to x.text (then_tell y g))
    go true e y = ap (λ v. cond v x (record { text = x.text ++ (g x.progress).text; progress = (g x.progress).progress })) e
    go false e y = inner y.progress.ended y

-- after nothing, what is told next is all
then_nothing : (p : Progress) (f : Progress → Told) → p.ended ≡ false → then_tell (nothing p) f ≡ f p
then_nothing p f e = ap (λ v. cond v (nothing p) (record { text = (f p).text; progress = (f p).progress })) e

-- frames at the front are told whatever comes after them
tell_front : (n : ℕ) (a b : List ℕ) (p : Progress) → frame_size * n ≤ length a → tell n (a ++ b) p ≡ tell n a p
tell_front zero a b p le = refl
tell_front (suc n) a b p le =
    let one : frame_size ≤ length a = omega arith in
    let rest : frame_size * n ≤ length (drop frame_size a) = omega (arith, length-drop frame_size a) in
    let x : Told = tell_one (take frame_size a) p in
    ap (λ z. then_tell (tell_one z p) (tell n (drop frame_size (a ++ b)))) (take-append-le frame_size a b one)
    ∙ then_same x (tell n (drop frame_size (a ++ b))) (tell n (drop frame_size a)) (λ e. ap (λ z. tell n z x.progress) (drop-append-le frame_size a b one) ∙ tell_front n (drop frame_size a) b x.progress rest)

-- so many frames, and so many more
tell_plus : (n m : ℕ) (b : List ℕ) (p : Progress) → p.ended ≡ false → tell (n + m) b p ≡ then_tell (tell n b p) (tell m (drop (frame_size * n) b))
tell_plus zero m b p e =
    let is : 0 + m ≡ m = omega arith in
    ap (λ k. tell k b p) is ∙ sym (then_nothing p (tell m b) e)
tell_plus (suc n) m b p e =
    let is : suc n + m ≡ suc (n + m) = omega arith in
    let at : frame_size + frame_size * n ≡ frame_size * suc n = omega arith in
    let x : Told = tell_one (take frame_size b) p in
    ap (λ k. tell k b p) is
    ∙ (then_same x (tell (n + m) (drop frame_size b)) (λ q. then_tell (tell n (drop frame_size b) q) (tell m (drop (frame_size * suc n) b))) (λ on. tell_plus n m (drop frame_size b) x.progress on ∙ ap (λ z. then_tell (tell n (drop frame_size b) x.progress) (tell m z)) (drop-drop (frame_size * n) frame_size b ∙ ap (λ k. drop k b) at))
    ∙ sym (then_assoc x (tell n (drop frame_size b)) (tell m (drop (frame_size * suc n) b))))

-- a block, and what comes after it
module _ (c rest : List ℕ) (p : Progress) (on : p.ended ≡ false) where
  whole_le : frame_size * frames_in c ≤ length c
  whole_le = omega arith

  counts : frames_in (c ++ rest) ≡ frames_in c + frames_in (after_frames c ++ rest)
  counts = let a = length-append c rest in let b = length-append (after_frames c) rest in let d = length-drop (frame_size * frames_in c) c in omega arith

  dropped : drop (frame_size * frames_in c) (c ++ rest) ≡ after_frames c ++ rest
  dropped = drop-append-le (frame_size * frames_in c) c rest whole_le

  frames_apart : tell_frames (c ++ rest) p ≡ then_tell (tell_frames c p) (tell_frames (after_frames c ++ rest))
  frames_apart =
      ap (λ k. tell k (c ++ rest) p) counts
      ∙ (tell_plus (frames_in c) (frames_in (after_frames c ++ rest)) (c ++ rest) p on
      ∙ (ap (λ z. then_tell (tell (frames_in c) (c ++ rest) p) (tell (frames_in (after_frames c ++ rest)) z)) dropped
      ∙ ap (λ z. then_tell z (tell_frames (after_frames c ++ rest))) (tell_front (frames_in c) c rest p whole_le)))

  rest_same : after_frames (c ++ rest) ≡ after_frames (after_frames c ++ rest)
  rest_same =
      let at : frame_size * frames_in c + frame_size * frames_in (after_frames c ++ rest) ≡ frame_size * frames_in (c ++ rest) = omega (arith, counts) in
      ap (λ k. drop k (c ++ rest)) (sym at) ∙ (sym (drop-drop (frame_size * frames_in (after_frames c ++ rest)) (frame_size * frames_in c) (c ++ rest)) ∙ ap (drop (frame_size * frames_in (after_frames c ++ rest))) dropped)

  block_then : then_tell (tell_frames c p) (tell_all (after_frames c ++ rest)) ≡ tell_all (c ++ rest) p
  block_then =
      sym (ap (λ z. then_tell z (tell_end (after_frames (c ++ rest)))) frames_apart
      ∙ (then_assoc (tell_frames c p) (tell_frames (after_frames c ++ rest)) (tell_end (after_frames (c ++ rest)))
      ∙ ap (λ z. then_tell (tell_frames c p) (λ q. then_tell (tell_frames (after_frames c ++ rest) q) (tell_end z))) rest_same))

few_left : (c : List ℕ) → length (after_frames c) < frame_size
few_left c = omega (arith, length-drop (frame_size * frames_in c) c)

all_short : (left : List ℕ) (p : Progress) → length left < frame_size → p.ended ≡ false → tell_end left p ≡ tell_all left p
all_short left p short on =
    let none : frames_in left ≡ 0 = omega arith in
    let at : frame_size * frames_in left ≡ 0 = omega arith in
    sym (ap (λ k. then_tell (tell k left p) (tell_end (after_frames left))) none ∙ (then_nothing p (tell_end (after_frames left)) on ∙ ap (λ k. tell_end (drop k left) p) at))

cut_so : (blocks : List (List ℕ)) (left : List ℕ) (p : Progress) → length left < frame_size → p.ended ≡ false → tell_blocks blocks left p ≡ tell_all (left ++ joined blocks) p
cut_so [] left p short on = all_short left p short on ∙ ap (λ z. tell_all z p) (sym (append-nil left))
cut_so (x ∷ xs) left p short on =
    let c : List ℕ = left ++ x in
    then_same (tell_frames c p) (tell_blocks xs (after_frames c)) (tell_all (after_frames c ++ joined xs)) (λ e. cut_so xs (after_frames c) (tell_frames c p).progress (few_left c) e)
    ∙ (block_then c (joined xs) p on ∙ ap (λ z. tell_all z p) (append_assoc left x (joined xs)))

pub cut_anyhow : CutAnyhow
cut_anyhow blocks p on = cut_so blocks [] p (omega arith) on
