-- What the engine's calls answer, as replies, and what a refusal leaves. Assumes nothing.
use Rattle.std.specs.Prelude.{◌≡◌, ◌<◌, true, Some, None, Ok, Err, OnErr, Option, Result}
use Rattle.link.specs.Links.{View, with_one_more}
use Rattle.report.specs.Lawful.{lawful}
use Rattle.report.specs.declared.report.Report.{Report}
use Rattle.report.specs.declared.refusal.Refusal.{Refusal}
use Rattle.rules.specs.declared.call.Order.{Order}
use Rattle.rules.specs.declared.call.Reply.{Reply}
use Rattle.rules.specs.declared.call.Reply.TheVariants.{Refused, Done}
use Rattle.engine.specs.declared.consultation.Returned.{Returned}

-- a lawful report is appended to the link while a place is free; without a report the link stays as it was
abbrev pub Hands : View → Option Report → View → Type 0
Hands v None w = w ≡ v
Hands v (Some r) w = lawful r ≡ true → 0 < v.free → w ≡ with_one_more v r

-- an admitted call has written its order
abbrev pub replied : {A : Type 0} → Result A Refusal → Order → Reply
replied (Ok _) o = Done o
replied (Err e) o = Refused e

-- the same of a call that took a consultation back
abbrev pub returned_replied : Result (Unit {0}) Returned → Order → Reply
returned_replied (Ok _) o = Done o
returned_replied (Err x) o = Refused x.refusal

-- a refusal leaves the whole engine, its link included, and the order's place as they were
abbrev pub Leaves : {A X E : Type 0} → Result A X → E → E → Order → Order → Type 0
Leaves r e e' o o' = OnErr r ((e' ≡ e) × (o' ≡ o))
