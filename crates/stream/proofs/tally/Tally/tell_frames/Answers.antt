use Rattle.std.proofs.Common.{refl, arith, sym, ap, ◌∙◌}
use Rattle.std.specs.Slice.Iter.{chunks_exact_rest, chunks_exact_size}
use Rattle.stream.specs.Told.{frames_in, tell_frames, unless_ended}
use Rattle.stream.proofs.Loop.{so_far_first, fewer_frames, so_far_more, so_far_ended, so_far_all}
use Rattle.stream.proofs.tally.Tally.tell_frames.Goals as goal

pub loop-frame-init : goal.loop-frame-init
loop-frame-init c =
    let same = c.into_iter-frame-iterator.ensures.into_iter_gives in
    let rest = ap chunks_exact_rest same ∙ c.chunks_exact-frame-items.ensures.rest in
    record {
      lender = refl;
      size = ap chunks_exact_size same ∙ c.chunks_exact-frame-items.ensures.size;
      fits = omega (arith, ap frames_in rest);
      told = λ p s. so_far_first _ p _ _ _ (ap (λ b. unless_ended (tell_frames b) p) (sym rest)) s;
    }

pub loop-frame-preserved : goal.loop-frame-preserved
loop-frame-preserved c =
    let l = c.loop-frame.invariant in
    let step = c.in-Some.ensures.steps in
    let one = step.1.1 ∙ l.size in
    record {
      lender = c.tell_frame.ensures.lender ∙ l.lender;
      size = step.0 ∙ l.size;
      fits = omega (arith, fewer_frames _ _ _ step.1.0 one);
      told = λ p s. so_far_more _ p _ _ _ _ _ _ _ _ c.if-self.false step.1.0 one c.tell_frame.ensures.told (l.told p s);
    }

pub returns-in-None-clause-told : goal.returns-in-None-clause-told
returns-in-None-clause-told c p s =
    let l = c.loop-frame.invariant in
    so_far_all _ p _ _ _ _ (omega (arith, l.size, c.in-None.ensures.steps.1.0)) (l.told p s)

pub returns-then-self-clause-told : goal.returns-then-self-clause-told
returns-then-self-clause-told c p s = so_far_ended _ p _ _ _ _ c.if-self.true (c.loop-frame.invariant.told p s)
