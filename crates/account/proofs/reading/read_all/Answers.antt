use Rattle.std.proofs.Common.{Ok, Err, sym, ap, ◌∙◌, subst, arith}
use Rattle.std.proofs.lemmas.List.{take_all}
use Rattle.std.proofs.lemmas.Result.{err_from_is_err_and}
use Rattle.account.specs.Follow.{Through, done, Reads}
use Rattle.account.proofs.Lists.{through_more, stopped_at, follows_all}
use Rattle.account.proofs.reading.read_all.Goals as goal

pub loop-index-init : goal.loop-index-init
loop-index-init c = done

pub returns-in_err-read_at : goal.returns-in_err-read_at
returns-in_err-read_at c =
    let p = err_from_is_err_and c.from_residual.result c.from_residual.ensures.1 in
    let at = stopped_at c.args.records.now c.loop-index.records c.read_at.new.records c.args.reports.now c.loop-index.index c.in_err-read_at.field-0.0 c.loop-index-test.true c.loop-index.invariant c.in_err-read_at.ensures in
    let read : Reads c.args.records.now c.args.reports.now c.from_residual.result c.read_at.new.records = subst (λ o. Reads c.args.records.now c.args.reports.now o c.read_at.new.records) (sym (p.1 ∙ ap Err p.2)) at in
    record { records = read; rule = follows_all c.args.records.now c.read_at.new.records c.args.reports.now c.from_residual.result read }

pub loop-index-preserved : goal.loop-index-preserved
loop-index-preserved c =
    let said-so = c.in_ok-read_at.ensures in
    through_more c.args.records.now c.loop-index.records c.read_at.new.records c.args.reports.now c.loop-index.index _ c.loop-index-test.true c.loop-index.invariant said-so.0 said-so.1

pub returns : goal.returns
returns c =
    let read : Through c.args.records.now c.args.reports.now c.loop-index.records = subst (λ rs. Through c.args.records.now rs c.loop-index.records) (take_all c.loop-index.index c.args.reports.now (omega arith)) c.loop-index.invariant in
    record { records = read; rule = follows_all c.args.records.now c.loop-index.records c.args.reports.now (Ok tt) read }
