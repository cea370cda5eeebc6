use Rattle.std.proofs.Common.{replicate, lit≤}
use Rattle.std.proofs.lemmas.Result.{err_from_is_err_and}
use Rattle.frame.proofs.Back.{not_back}
use Rattle.frame.proofs.roundtrip.write_and_read.Goals as goal

pub returns-in_err-write : goal.returns-in_err-write
returns-in_err-write c =
    let p = err_from_is_err_and c.from_residual.result c.from_residual.ensures.1 in
    rw (p.1, p.2) (not_back c.args.report (replicate 24 0) _ (lit≤ tt) c.in_err-write.ensures.why)
