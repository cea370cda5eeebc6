-- The ranges of a burst list's numbers, as its type has them. Assumes nothing.
use Rattle.std.specs.Prelude.{ℕ, ◌≤◌}
use Rattle.bursts.specs.declared.make.BurstNumbers.{BurstNumbers}
use Rattle.bursts.specs.Limits.{longest_warning, most_bursts, burst_tones, longest_gap, longest_tone, longest_pause}

-- n is from low to high, both included
abbrev pub Within : ℕ → ℕ → ℕ → Type 0
Within low high n = (low ≤ n) × (n ≤ high)

-- each number is within its range
pub record InRange (n : BurstNumbers) : Type 0 where
  pub warning_in : Within 1 longest_warning n.warning
  pub bursts_in : Within 1 most_bursts n.bursts
  pub tones_in : Within 1 burst_tones n.tones
  pub gap_in : Within 1 longest_gap n.gap
  pub tone_in : Within 1 longest_tone n.tone
  pub pause_in : Within 1 longest_pause n.pause
