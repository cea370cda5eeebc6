use Rattle.account.proofs.Laws.{account_laws}
use Rattle.account.proofs.Ruling.{follows}
use Rattle.account.proofs.reading.read_one.Goals as goal

pub returns-clause-rule : goal.returns-clause-rule
returns-clause-rule c = λ b h. follows c.args.records.now c.step.new.records b c.args.report.now c.step.result c.step.ensures.answer c.step.ensures.records h

pub returns-clause-laws : goal.returns-clause-laws
returns-clause-laws c = account_laws
