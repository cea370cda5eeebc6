-- Sample runs that come out as written. Assumes nothing.
use Rattle.std.specs.Prelude.{[], ◌∷◌}
use Rattle.law.specs.Law.{journal, Awaits, HasEnded}
use Rattle.law.specs.Samples.{leg, temporary, calls_of, replies_of, ComesOut}
use Rattle.law.specs.RunMixed.{mixed}
use Rattle.law.specs.RunLate.{late}
use Rattle.law.specs.RunTariffs.{all_tariffs}
use Rattle.law.specs.RunConnections.{all_connections}
use Rattle.law.specs.RunAdvice.{advice_and_sound}
use Rattle.law.specs.RunUnconfirmed.{unconfirmed, given_up}

-- each run, with the places of its ring and what the accounts of its addresses show; one has a report that awaits confirmation, and is given up
pub record KnownRuns : Type 0 where
  pub mixed_run : ComesOut 3 mixed (record { address = leg 1; tariffs = 4; ticks = (179 ∷ 1 ∷ 0 ∷ 0 ∷ []) ∷ [] } ∷ record { address = leg 2; tariffs = 4; ticks = [] } ∷ record { address = temporary 1; tariffs = 4; ticks = [] } ∷ [])
  pub late_run : ComesOut 3 late (record { address = leg 1; tariffs = 4; ticks = (0 ∷ 650 ∷ 0 ∷ 0 ∷ []) ∷ [] } ∷ record { address = leg 2; tariffs = 4; ticks = [] } ∷ record { address = temporary 1; tariffs = 4; ticks = [] } ∷ [])
  pub tariffs_run : ComesOut 20 all_tariffs (record { address = leg 2; tariffs = 16; ticks = (10 ∷ 30 ∷ 30 ∷ 30 ∷ 30 ∷ 30 ∷ 30 ∷ 30 ∷ 30 ∷ 30 ∷ 30 ∷ 30 ∷ 30 ∷ 30 ∷ 30 ∷ 100 ∷ []) ∷ [] } ∷ [])
  pub connections_run : ComesOut 20 all_connections []
  pub advice_run : ComesOut 1 advice_and_sound (record { address = leg 2; tariffs = 2; ticks = (700 ∷ 0 ∷ []) ∷ [] } ∷ record { address = temporary 1; tariffs = 2; ticks = (0 ∷ 0 ∷ []) ∷ [] } ∷ [])
  pub unconfirmed_run : ComesOut 8 unconfirmed (record { address = leg 2; tariffs = 2; ticks = (600 ∷ 0 ∷ []) ∷ [] } ∷ [])
  pub awaits : Awaits (journal 50 (calls_of unconfirmed) (replies_of unconfirmed)) (leg 2) 700 []
  pub given_up_run : ComesOut 8 given_up (record { address = leg 2; tariffs = 2; ticks = (650 ∷ 0 ∷ []) ∷ [] } ∷ [])
  pub ends_late : HasEnded (journal 50 (calls_of given_up) (replies_of given_up)) (leg 2) 750 []
