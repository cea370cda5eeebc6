use Rattle.std.proofs.Common.{refl, ◌∙◌, arith}
use Rattle.std.proofs.Math.Seq.{map-set_same}
use Rattle.rules.specs.Steps.{over}
use Rattle.engine.proofs.Turns.{run_more}
use Rattle.engine.proofs.engine.Engine.carry_out_all.Goals as goal

pub loop-record-init : goal.loop-record-init
loop-record-init g c = record { ran = over; calls = refl }

pub loop-record-preserved : goal.loop-record-preserved
loop-record-preserved g c =
    let l = c.loop-record in
    record {
      ran = run_more l.records l.record-index _ _ _ _ (omega arith) l.invariant.ran c.carry_out-record.ensures;
      calls = map-set_same _ l.records l.record-index _ c.record-item.result refl ∙ l.invariant.calls;
    }
