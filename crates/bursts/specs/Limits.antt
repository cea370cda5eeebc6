-- The numbers that bound a burst list, each under one name; every range starts at 1. Assumes nothing.
use Rattle.std.specs.Prelude.{ℕ}

-- the longest warning, in seconds
abbrev pub longest_warning : ℕ
longest_warning = 1200

-- the most bursts of a list
abbrev pub most_bursts : ℕ
most_bursts = 3

-- the most tones of a burst
abbrev pub burst_tones : ℕ
burst_tones = 3

-- the longest gap between bursts, in ticks
abbrev pub longest_gap : ℕ
longest_gap = 1200

-- the longest tone, in ticks
abbrev pub longest_tone : ℕ
longest_tone = 20

-- the longest gap between tones, in ticks
abbrev pub longest_pause : ℕ
longest_pause = 20

-- the most tones of a list
abbrev pub most_tones : ℕ
most_tones = 9
