-- Flags, and the standing and the elapsed time that they tell. Assumes nothing.
use Rattle.std.proofs.Common.{◌≡◌, ℕ, ◌+◌, true, Some, None, refl, arith}
use Rattle.std.proofs.lemmas.Bool.Decides.{nat_tests}
use Rattle.report.specs.Lawful.{time_of, interval_of, counted}
use Rattle.report.specs.declared.report.Elapsed.{Elapsed}
use Rattle.report.specs.declared.report.Elapsed.TheVariants.{Plain, Switched}
use Rattle.report.specs.declared.report.Standing.{Standing}
use Rattle.report.specs.declared.report.Standing.TheVariants.{Active, Ended, Released}
use Rattle.frame.specs.Flags.{flags_right, interval_right, standing_bits, elapsed_bits, standing_at, elapsed_at}

-- the flags f are those of a standing s and an elapsed time e
pub record Told (f : ℕ) (s : Standing) (e : Elapsed) : Type 0 where
  pub right : flags_right f ≡ true
  pub standing : standing_at f ≡ s
  pub elapsed : elapsed_at f (time_of e) (interval_of e) ≡ e
  pub interval : counted e ≡ true → interval_right f (interval_of e) ≡ true

abbrev bits : Standing → Elapsed → ℕ
bits s e = standing_bits s + elapsed_bits e

-- the flags of a report tell its standing and its elapsed time
pub told : (s : Standing) (e : Elapsed) → Told (bits s e) s e
told Active (Plain n) = record { right = refl; standing = refl; elapsed = refl; interval = λ _. refl }
told Active (Switched n None) = record { right = refl; standing = refl; elapsed = refl; interval = λ _. refl }
told Active (Switched n (Some i)) = record { right = refl; standing = refl; elapsed = refl; interval = λ h. h }
told Ended (Plain n) = record { right = refl; standing = refl; elapsed = refl; interval = λ _. refl }
told Ended (Switched n None) = record { right = refl; standing = refl; elapsed = refl; interval = λ _. refl }
told Ended (Switched n (Some i)) = record { right = refl; standing = refl; elapsed = refl; interval = λ h. h }
told Released (Plain n) = record { right = refl; standing = refl; elapsed = refl; interval = λ _. refl }
told Released (Switched n None) = record { right = refl; standing = refl; elapsed = refl; interval = λ _. refl }
told Released (Switched n (Some i)) = record { right = refl; standing = refl; elapsed = refl; interval = λ h. h }

-- what right flags, a time and an interval that goes with them tell has those flags, that time and that interval
pub record Tells (f time interval : ℕ) : Type 0 where
  pub flags : bits (standing_at f) (elapsed_at f time interval) ≡ f
  pub times : time_of (elapsed_at f time interval) ≡ time
  pub intervals : interval_of (elapsed_at f time interval) ≡ interval
  pub counts : counted (elapsed_at f time interval) ≡ true

pub right_flags_tell : (f time interval : ℕ) → flags_right f ≡ true → interval_right f interval ≡ true → Tells f time interval
right_flags_tell f time interval h k =
    record {
      flags = grind (arith, nat_tests);
      times = grind (arith, nat_tests);
      intervals = grind (arith, nat_tests);
      counts = grind (arith, nat_tests);
    }
