use Rattle.stream.proofs.Steps.{told_reading, told_refusal}
use Rattle.stream.proofs.tally.Tally.tell_report.Goals as goal

pub returns-in-Ok-clause-told : goal.returns-in-Ok-clause-told
returns-in-Ok-clause-told c p stands =
    told_reading c.args.self.now p c.args.report.now c.read_one.new.records c.args.page.now c.put_reading.new.self stands c.in-Ok.reading c.saturating_add-self.result (c.in-Ok.ensures.rule p.book stands.accounts) c.in-Ok.ensures.answer.1 c.saturating_add-self.ensures (rw c.unwrap.ensures at c.put_reading.ensures).2

pub returns-in-Err-clause-told : goal.returns-in-Err-clause-told
returns-in-Err-clause-told c p stands =
    told_refusal c.args.self.now p c.args.report.now c.read_one.new.records c.args.page.now c.put_fault.new.self stands c.in-Err.refusal (c.in-Err.ensures.rule p.book stands.accounts) c.in-Err.ensures.records (rw c.unwrap-in-Err.ensures at c.put_fault.ensures).2
