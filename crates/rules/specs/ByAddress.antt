-- Values by address. Assumes nothing.
use Rattle.std.specs.Prelude.{cond}
use Rattle.report.specs.declared.report.Address.{Address}
use Rattle.report.specs.Lawful.{same}

-- f, but with the value v at the address a
abbrev pub put : {X : Type 0} → (Address → X) → Address → X → Address → X
put f a v x = cond (same x a) v (f x)
