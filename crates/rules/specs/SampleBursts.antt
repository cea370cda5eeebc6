-- Burst lists with written-out numbers, for samples. Assumes nothing.
use Rattle.std.specs.Prelude.{ℕ, Bool, true, false, ◌&&◌, T, nat_le}
use Rattle.std.proofs.Common.{lit≤}
use Rattle.report.specs.Lawful.{within}
use Rattle.bursts.specs.declared.list.BurstList.{BurstList}
use Rattle.bursts.specs.Limits.{longest_warning, most_bursts, burst_tones, longest_gap, longest_tone, longest_pause}

-- the tests of a burst list's ranges
abbrev pub in_range : ℕ → ℕ → ℕ → ℕ → ℕ → ℕ → Bool
in_range warning bursts tones gap tone pause = within 1 longest_warning warning && (within 1 most_bursts bursts && (within 1 burst_tones tones && (within 1 longest_gap gap && (within 1 longest_tone tone && within 1 longest_pause pause))))

-- the first of two tests that hold
abbrev pub left_of : (a b : Bool) → T (a && b) → T a
left_of true b h = tt
left_of false b h = h

-- the second of two tests that hold
abbrev pub right_of : (a b : Bool) → T (a && b) → T b
right_of true b h = h
right_of false b h = absurd h

-- the burst list of six numbers that are in range
abbrev pub burst_list : (warning bursts tones gap tone pause : ℕ) → T (in_range warning bursts tones gap tone pause) → BurstList
burst_list w b t g n p h =
    let h1 = right_of (within 1 longest_warning w) _ h in
    let h2 = right_of (within 1 most_bursts b) _ h1 in
    let h3 = right_of (within 1 burst_tones t) _ h2 in
    let h4 = right_of (within 1 longest_gap g) _ h3 in
    let a0 = left_of (within 1 longest_warning w) _ h in
    let a1 = left_of (within 1 most_bursts b) _ h1 in
    let a2 = left_of (within 1 burst_tones t) _ h2 in
    let a3 = left_of (within 1 longest_gap g) _ h3 in
    let a4 = left_of (within 1 longest_tone n) _ h4 in
    let a5 = right_of (within 1 longest_tone n) _ h4 in
    record {
      numbers = record { warning = w; bursts = b; tones = t; gap = g; tone = n; pause = p };
      in_range = record {
        warning_in = (lit≤ (left_of (nat_le 1 w) _ a0), lit≤ (right_of (nat_le 1 w) _ a0));
        bursts_in = (lit≤ (left_of (nat_le 1 b) _ a1), lit≤ (right_of (nat_le 1 b) _ a1));
        tones_in = (lit≤ (left_of (nat_le 1 t) _ a2), lit≤ (right_of (nat_le 1 t) _ a2));
        gap_in = (lit≤ (left_of (nat_le 1 g) _ a3), lit≤ (right_of (nat_le 1 g) _ a3));
        tone_in = (lit≤ (left_of (nat_le 1 n) _ a4), lit≤ (right_of (nat_le 1 n) _ a4));
        pause_in = (lit≤ (left_of (nat_le 1 p) _ a5), lit≤ (right_of (nat_le 1 p) _ a5));
      };
    }
