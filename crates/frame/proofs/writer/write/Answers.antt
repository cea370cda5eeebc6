use Rattle.std.proofs.Common.{◌++◌, drop, sym, ap, ◌∙◌, arith}
use Rattle.frame.proofs.Back.{is_written}
use Rattle.frame.proofs.writer.write.Goals as goal

pub returns : goal.returns
returns c =
    is_written c.args.report c.args.place.now _ (sym c.is_lawful.ensures ∙ c.if-not-is_lawful.false) (omega arith)
    (ap (λ l. l ++ drop 24 c.args.place.now) (c.copy_from_slice.ensures.after ∙ c.to_frame-bytes.ensures))
