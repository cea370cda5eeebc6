-- A burst is written tone by tone. Assumes nothing.
use Rattle.std.proofs.Common.{◌≡◌, ℕ, ◌+◌, ◌<◌, List, length, take, set, add-one}
use Rattle.std.proofs.lemmas.List.{take_more_set}
use Rattle.bursts.specs.declared.plan.Tone.{Tone}
use Rattle.bursts.specs.declared.list.BurstList.{BurstList}
use Rattle.bursts.specs.Plan.{tone_at, tones_of}

-- one tone more of the burst j
pub tone_more : (b : BurstList) (j k : ℕ) (p : List Tone) (t : Tone) → k < length p → t ≡ tone_at b j k → take k p ≡ tones_of b j k → take (k + 1) (set p k t) ≡ tones_of b j (k + 1)
tone_more b j k p t lt is h = cc (take_more_set p k t lt, add-one k)
