-- What is told of an input does not depend on how it is cut into blocks. Assumes nothing.
use Rattle.std.specs.Prelude.{◌≡◌, ℕ, false, List, [], ◌∷◌, ◌++◌}
use Rattle.stream.specs.Told.{Progress, Told, then_tell, tell_frames, after_frames, tell_end, tell_all}

-- the bytes of all blocks
abbrev pub joined : List (List ℕ) → List ℕ
joined [] = []
joined (x ∷ xs) = x ++ joined xs

-- what is told as blocks come in: of each block, after what the block before left over, the whole frames; of what is left at the end, the rest
abbrev pub tell_blocks : List (List ℕ) → List ℕ → Progress → Told
tell_blocks [] left p = tell_end left p
tell_blocks (x ∷ xs) left p = then_tell (tell_frames (left ++ x) p) (tell_blocks xs (after_frames (left ++ x)))

-- However an input that no fault has ended is cut into blocks, what is told of it is what is told of the whole.
abbrev pub CutAnyhow : Type 0
CutAnyhow = (blocks : List (List ℕ)) (p : Progress) → p.ended ≡ false → tell_blocks blocks [] p ≡ tell_all (joined blocks) p
