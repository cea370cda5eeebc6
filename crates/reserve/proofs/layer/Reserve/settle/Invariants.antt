use Rattle.std.proofs.Common.{◌≡◌, ℕ, ◌≤◌, length}
use Rattle.reserve.specs.Lies.{kept, lies, moved}
use Rattle.reserve.proofs.layer.Reserve.settle.Given as goal

abbrev pub invariant-loop : goal.invariant-loop
invariant-loop g l =
    let view = g.L.Link.view in
    let start = lies view l.initial.self in
    (n : ℕ) × (n ≤ length start.held) × (n ≤ start.below.free) × (lies view l.self ≡ moved n start)

abbrev pub decreases-loop : goal.decreases-loop
decreases-loop g l = length (kept l.self.held)
