use Rattle.std.proofs.Common.{◌≡◌, sym, ap, ◌∙◌, arith}
use Rattle.std.proofs.lemmas.List.{take_all}
use Rattle.bursts.specs.Plan.{tones_of}
use Rattle.bursts.proofs.Steps.{tone_more}
use Rattle.bursts.proofs.list.BurstList.write_burst.Goals as goal

pub loop-k-preserved : goal.loop-k-preserved
loop-k-preserved c = tone_more c.args.self.now c.args.j c.loop-k.k c.loop-k.burst _ (omega arith) c.tone_at.ensures c.loop-k.invariant

pub returns : goal.returns
returns c =
    let b = c.args.self.now in
    let l = c.loop-k in
    let all : l.k ≡ b.numbers.tones = omega arith in
    sym (take_all l.k l.burst (omega arith)) ∙ (l.invariant ∙ ap (tones_of b c.args.j) all)
