use Rattle.std.proofs.Common.{◌≡◌, take}
use Rattle.rules.specs.Steps.{Run}
use Rattle.engine.specs.Engines.{state}
use Rattle.engine.specs.Runs.{calls_of, replies_of}
use Rattle.engine.proofs.engine.Engine.carry_out_all.Given as goal

-- the calls before the record are carried out, and no call is altered
abbrev pub invariant-loop-record : goal.invariant-loop-record
invariant-loop-record g l =
    let view = g.L.Link.view in
    let before = take l.record-index l.records in
    record {
      ran : Run (state view l.initial.self) (calls_of before) (replies_of before) (state view l.self);
      calls : calls_of l.records ≡ calls_of l.initial.records;
    }
