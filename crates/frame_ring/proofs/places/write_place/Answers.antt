use Rattle.std.proofs.lemmas.Result.{MatchResult-weaker}
use Rattle.frame_ring.proofs.Written.{is_filled, is_not_filled}
use Rattle.frame_ring.proofs.places.write_place.Goals as goal

pub returns : goal.returns
returns c =
    let b = c.args.bytes.now in
    let i = c.args.i in
    let r = c.args.report in
    MatchResult-weaker c.write.result c.write.ensures (λ _ w. is_filled b c.write.new.place i r c.requires w) (λ e w. is_not_filled b c.write.new.place i r e c.requires w)
