-- How long a burst list sounds, and the plan of its tones. Assumes nothing.
use Rattle.std.specs.Prelude.{◌≡◌, ℕ, zero, suc, ◌+◌, ◌-◌, ◌*◌, ◌<◌, ◌≤◌, List, [], ◌∷◌, ◌++◌, length, drop, Ok, Err, Result}
use Rattle.report.specs.declared.refusal.Refusal.{Refusal}
use Rattle.report.specs.declared.refusal.Refusal.TheVariants.{PlaceTooShort}
use Rattle.bursts.specs.declared.list.BurstList.{BurstList}
use Rattle.bursts.specs.declared.plan.Tone.{Tone}
use Rattle.bursts.specs.Limits.{most_tones}

-- a burst lasts its tones and the pauses between them
abbrev pub burst_length : BurstList → ℕ
burst_length b = b.numbers.tones * b.numbers.tone + (b.numbers.tones - 1) * b.numbers.pause

-- a sound lasts its bursts and the gaps between them
abbrev pub sound_length : BurstList → ℕ
sound_length b = b.numbers.bursts * burst_length b + (b.numbers.bursts - 1) * b.numbers.gap

-- the tone k of the burst j, both counted from 0: a burst starts with every burst length and gap, a tone in it with every tone and pause
abbrev pub tone_at : BurstList → ℕ → ℕ → Tone
tone_at b j k = record { start = j * (burst_length b + b.numbers.gap) + k * (b.numbers.tone + b.numbers.pause); length = b.numbers.tone }

-- the first n tones of the burst j
abbrev pub tones_of : BurstList → ℕ → ℕ → List Tone
tones_of b j zero = []
tones_of b j (suc n) = tones_of b j n ++ (tone_at b j n ∷ [])

-- the tones of the first n bursts
abbrev pub bursts_of : BurstList → ℕ → List Tone
bursts_of b zero = []
bursts_of b (suc n) = bursts_of b n ++ tones_of b n b.numbers.tones

-- the plan: every tone of every burst, in order
abbrev pub plan : BurstList → List Tone
plan b = bursts_of b b.numbers.bursts

-- how many tones there are
abbrev pub tone_count : BurstList → ℕ
tone_count b = b.numbers.bursts * b.numbers.tones

-- a place that is long enough has the plan in front and is as it was further on
pub record Written (b : BurstList) (before after : List Tone) (n : ℕ) : Type 0 where
  pub count : n ≡ tone_count b
  pub few : n ≤ most_tones
  pub long_enough : n ≤ length before
  pub place : after ≡ plan b ++ drop n before

-- a place that is too short is refused, and stays as it was
pub record Short (b : BurstList) (before after : List Tone) (e : Refusal) : Type 0 where
  pub refusal : e ≡ PlaceTooShort
  pub too_short : length before < tone_count b
  pub unaltered : after ≡ before

-- what the tone plan answers, and what it leaves in the place
abbrev pub Planned : BurstList → List Tone → List Tone → Result ℕ Refusal → Type 0
Planned b before after (Ok n) = Written b before after n
Planned b before after (Err e) = Short b before after e
