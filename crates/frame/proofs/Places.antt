-- Where the fields of a frame stand. Assumes nothing.
use Rattle.std.proofs.Common.{◌≡◌, ℕ, zero, suc, ◌+◌, ◌-◌, ◌<◌, ◌≤◌, List, [], ◌∷◌, length, get_or, take, drop, refl, ap, ◌∙◌, arith, drop-cons}
use Rattle.std.proofs.lemmas.List.{get_or-drop, take_rest, drop-drop}
use Rattle.frame.specs.Bytes.{at16, at32}

-- the bytes after the four of a slice pattern, as the checker has them
abbrev pub rest : List ℕ → List ℕ
rest b = take (length b - 4) (drop 4 b)

-- a byte after the four is the byte four places further on of the frame
placed : (b : List ℕ) (k : ℕ) → get_or (rest b) k 0 ≡ get_or b (4 + k) 0
placed b k = ap (λ (l : List ℕ). get_or l k 0) (take_rest b 4) ∙ get_or-drop 4 b k 0

-- a frame's fields, by their places in the bytes f after the four
pub record Placed (b f : List ℕ) : Type 0 where
  pub kind : get_or f 0 0 ≡ get_or b 4 0
  pub address : get_or f 1 0 ≡ get_or b 5 0
  pub number : at16 f 2 ≡ at16 b 6
  pub flags : get_or f 4 0 ≡ get_or b 8 0
  pub party : get_or f 5 0 ≡ get_or b 9 0
  pub zeros : at16 f 6 ≡ at16 b 10
  pub tick : at32 f 8 ≡ at32 b 12
  pub time : at32 f 12 ≡ at32 b 16
  pub interval : at32 f 16 ≡ at32 b 20

pub all_placed : (b : List ℕ) → Placed b (rest b)
all_placed b =
    let p = placed b in
    record {
      kind = p 0;
      address = p 1;
      number = omega (arith, p 2, p 3);
      flags = p 4;
      party = p 5;
      zeros = omega (arith, p 6, p 7);
      tick = omega (arith, p 8, p 9, p 10, p 11);
      time = omega (arith, p 12, p 13, p 14, p 15);
      interval = omega (arith, p 16, p 17, p 18, p 19);
    }

-- n bytes from place i on, one by one
abbrev pub listing : ℕ → ℕ → List ℕ → List ℕ
listing zero i b = []
listing (suc n) i b = get_or b i 0 ∷ listing n (suc i) b

listed_from : (n i : ℕ) (b : List ℕ) → i + n ≤ length b → take n (drop i b) ≡ listing n i b
listed_from zero i b h = refl
listed_from (suc n) i b h =
    let l : i < length b = omega arith in
    let m : suc i + n ≤ length b = omega arith in
    ap (take (suc n)) (drop-cons b i 0 l) ∙ ap (λ (r : List ℕ). get_or b i 0 ∷ r) (listed_from n (suc i) b m)

-- the 24 bytes of a frame, one by one
pub spelled : (b : List ℕ) → 24 ≤ length b → take 24 b ≡ listing 24 0 b
spelled b h = listed_from 24 0 b h

-- what stands after the fields stands after the frame
pub rest_drop : (b : List ℕ) → take (length (rest b) - 20) (drop 20 (rest b)) ≡ drop 24 b
rest_drop b = take_rest (rest b) 20 ∙ ap (drop 20) (take_rest b 4) ∙ drop-drop 20 4 b
