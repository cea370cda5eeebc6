use Rattle.std.proofs.Common.{length, sym, ◌∙◌, arith, rules}
use Rattle.std.proofs.lemmas.Bool.{eqb-true, eqb-false}
use Rattle.std.proofs.lemmas.Grind.{common_steps}
use Rattle.stream.specs.Told.{tell_end, unless_ended}
use Rattle.stream.proofs.Loop.{nothing_puts, unless_true, end_none, end_puts, page_puts}
use Rattle.stream.proofs.tally.Tally.tell_rest.Goals as goal
use Rattle.stream.proofs.tally.Tally.tell_rest.Goals.{then-is_empty-via-then-is_empty, then-is_empty-via-else-is_empty+then-self}

pub returns-then-is_empty : goal.returns-then-is_empty
returns-then-is_empty c = (
  omega arith,
  omega arith,
  λ p s. nothing_puts (unless_ended (tell_end c.args.rest.now)) p c.args.out.now c.args.self.now (elim c.then-is_empty.branch [
    | then-is_empty-via-then-is_empty w ↦ end_none c.args.rest.now p (eqb-true (length c.args.rest.now) 0 (sym c.is_empty.ensures ∙ w.if-is_empty.true))
    | then-is_empty-via-else-is_empty+then-self w ↦ unless_true (tell_end c.args.rest.now) p (sym s.ended ∙ w.if-self.true)
  ]) s,
)

pub returns : goal.returns
returns c =
    let some = eqb-false (length c.args.rest.now) 0 (sym c.is_empty.ensures ∙ c.if-is_empty.false) in
    (omega arith, grind (arith, common_steps), λ p s. page_puts c.new-page.ensures.starts (end_puts c.args.rest.now p _ _ c.args.self.now _ (omega (arith, some)) c.if-self.false s (c.tell_frame.ensures.told p s)) c.len.ensures (omega arith) (search rules))
