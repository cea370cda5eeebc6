use Rattle.std.proofs.Common.{Err, refl, arith}
use Rattle.std.proofs.lemmas.Bool.Decides.{nat_tests}
use Rattle.std.proofs.lemmas.List.{nil_from_length}
use Rattle.report.specs.declared.refusal.Refusal.TheVariants.{NothingWaits}
use Rattle.engine.proofs.engine.Engine.take.Goals as goal

pub returns-then-not-has_waiting-clause-does : goal.returns-then-not-has_waiting-clause-does
returns-then-not-has_waiting-clause-does g c =
    record {
      core = refl;
      answer = Err NothingWaits;
      reply = refl;
      view = (nil_from_length _ (grind (arith, nat_tests)), refl, refl);
    }
