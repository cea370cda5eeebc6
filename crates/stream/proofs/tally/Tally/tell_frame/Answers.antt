use Rattle.std.proofs.Common.{◌+◌, ◌-◌, ◌^◌, min, ap, ◌∙◌}
use Rattle.stream.proofs.Steps.{told_frame, told_fault, wrong_place}
use Rattle.stream.proofs.tally.Tally.tell_frame.Goals as goal

pub returns-in-Ok-clause-told : goal.returns-in-Ok-clause-told
returns-in-Ok-clause-told c p stands = told_frame c.args.self.now p c.args.frame.now c.args.page.now c.tell_report.new.page c.in-Ok.report _ c.tell_report.new.self c.in-Ok.ensures (c.tell_report.ensures.told p stands)

pub returns-in-Err-clause-told : goal.returns-in-Err-clause-told
returns-in-Err-clause-told c p stands =
    let refused = c.in-Err.ensures in
    let wrong = wrong_place c.args.frame.now c.in-Err.refusal refused c.place.result c.unwrap-wrong.result c.place.ensures c.unwrap-wrong.ensures in
    told_fault c.args.self.now p c.args.frame.now c.args.page.now c.put_fault.new.self c.in-Err.refusal c.saturating_add-place.result stands refused (c.saturating_add-place.ensures ∙ ap (λ n. min (c.args.self.now.place + n) (2 ^ 64 - 1)) wrong) (rw c.unwrap.ensures at c.put_fault.ensures).2
