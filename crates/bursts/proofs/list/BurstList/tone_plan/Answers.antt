use Rattle.std.proofs.Common.{◌≡◌, ◌*◌, ◌+◌, ◌-◌, ◌≤◌, ◌++◌, length, take, drop, sym, refl, ap, ◌∙◌, add-one, add-mul, mul-le-mul, arith}
use Rattle.std.proofs.lemmas.List.{take_all, length-take-le}
use Rattle.std.proofs.lemmas.Slice.{take-put_mid}
use Rattle.std.proofs.Math.Nat.{mul-le-mul_right}
use Rattle.bursts.specs.Plan.{plan, bursts_of, tone_count}
use Rattle.bursts.proofs.list.BurstList.tone_plan.Goals as goal

pub loop-j-preserved : goal.loop-j-preserved
loop-j-preserved c =
    let b = c.args.self.now in
    let t = b.numbers.tones in
    let l = c.loop-j in
    let at = l.j * t in
    let burst = c.write_burst.new.burst in
    let front : length (take (tone_count b) c.args.place.now) ≡ tone_count b = length-take-le _ _ (omega arith) in
    let next : (l.j + 1) * t ≡ at + t = omega (arith, add-mul l.j 1 t) in
    let within : (l.j + 1) * t ≤ tone_count b = mul-le-mul_right t (omega arith) in
    take-put_mid at (at + t - at) l.plan burst ((l.j + 1) * t) (omega arith) (omega arith)
    ∙ (ap (λ xs. xs ++ burst) l.invariant ∙ (ap (λ xs. bursts_of b l.j ++ xs) c.write_burst.ensures ∙ ap (bursts_of b) (sym (add-one l.j))))

pub returns : goal.returns
returns c =
    let b = c.args.self.now in
    let l = c.loop-j in
    let front : length (take (tone_count b) c.args.place.now) ≡ tone_count b = length-take-le _ _ (omega arith) in
    let all : l.j ≡ b.numbers.bursts = omega arith in
    let count : l.j * b.numbers.tones ≡ tone_count b = ap (λ z. z * b.numbers.tones) all in
    let written : l.plan ≡ plan b = sym (take_all (l.j * b.numbers.tones) l.plan (omega arith)) ∙ (l.invariant ∙ ap (bursts_of b) all) in
    record {
      count = refl;
      few = mul-le-mul b.in_range.bursts_in.1 b.in_range.tones_in.1;
      long_enough = omega arith;
      place = ap (λ xs. xs ++ drop (tone_count b) c.args.place.now) written;
    }
