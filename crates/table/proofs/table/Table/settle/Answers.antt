use Rattle.std.proofs.Common.{set, sym, ap, ◌∙◌, rules}
use Rattle.rules.specs.Fit.{fit_in}
use Rattle.invariants.proofs.Fitness.{fit_sound}
use Rattle.table.proofs.Moves.{Settled, goes_somewhere, sole, settles}
use Rattle.table.proofs.table.Table.settle.Goals as goal
use Rattle.table.proofs.table.Table.settle.Goals.{After-map}

-- what the table keeps, and its core, once the place is written
settled : (c : After-map) → Settled c.args.self.now c.args.tick.at c.args.address c.args.next (set c.args.self.now.slots c.unwrap-place.result c.map.result)
settled c =
    let t = c.args.self.now in
    let n = sole t.slots c.args.address c.args.at c.or_else.result c.unwrap-place.result t.apart c.requires.placed (search rules) c.unwrap-place.ensures in
    settles c.args.address c.args.next c.map.result (record { same = search rules; at = λ p e. search rules }) t c.args.tick.at c.unwrap-place.result c.requires.on_time n c.requires.fitting

pub unwrap-place-requires : goal.unwrap-place-requires
unwrap-place-requires c = goes_somewhere c.args.self.now.slots c.args.address c.args.at _ c.args.next c.args.self.now.many c.requires.placed (search rules) c.requires.room

pub map-requires : goal.map-requires
map-requires c = λ x e. fit_sound c.args.tick.at c.args.address x (ap (fit_in c.args.tick.at c.args.address) (sym e) ∙ c.requires.fitting)

pub invariant_of-self : goal.invariant_of-self
invariant_of-self c =
    let k = settled (goal.at.invariant_of-self c).After-map in
    record { many = k.many; apart = k.apart; fitting = k.fitting; patient = c.args.self.now.patient }

pub returns : goal.returns
returns c = (settled (goal.at.returns c).After-map).core
