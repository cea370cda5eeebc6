use Rattle.std.proofs.Common.{◌≡◌, ℕ, zero, suc, Bool, true, ◌&&◌, ltb, List, [], ◌∷◌, refl, arith}
use Rattle.std.proofs.lemmas.Bool.Decides.{nat_tests}
use Rattle.frame.specs.Bytes.{AllBytes}
use Rattle.frame.specs.Frame.{decode, sample_bytes, Sample}
use Rattle.frame.proofs.Back.{frames_read}
use Rattle.frame.proofs.Sound.{reads_are_frames}
use Rattle.frame.proofs.roundtrip.frames_read_back.Goals as goal

-- a test that each is a byte, which computes
abbrev small : List ℕ → Bool
small [] = true
small (x ∷ xs) = ltb x 256 && small xs

all_small : (b : List ℕ) → small b ≡ true → AllBytes b
all_small [] e k = omega arith
all_small (x ∷ xs) e zero = grind (arith, nat_tests)
all_small (x ∷ xs) e (suc k) = let h : small xs ≡ true = grind (arith, nat_tests) in all_small xs h k

shown : Sample
unfolding decode
shown = record { admitted = refl; bytes = refl; all = all_small sample_bytes refl; sound = refl; means = refl }

pub returns : goal.returns
returns c = record { back = c.write_and_read.ensures; all = record { read = frames_read; frames = reads_are_frames; shown = shown } }
