-- The state of an engine over any link. Assumes nothing.
use Rattle.link.specs.Links.{View}
use Rattle.rules.specs.Steps.{State}
use Rattle.table.specs.State.{core_of}
use Rattle.engine.specs.declared.engine.Engine.{Engine}

-- its core, and what its link means
module _ {L : Type 0} (view : L → View) where
  abbrev pub state : Engine L → State
  state e = record { core = core_of e.table; view = view e.link }
