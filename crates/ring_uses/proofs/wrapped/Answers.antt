use Rattle.std.proofs.Common.{[], ◌∷◌, length, ap, arith, rules}
use Rattle.ring_uses.proofs.Runs.{Holds, push_holds, pop_holds}
use Rattle.ring_uses.proofs.wrapped.Goals as goal

pub returns : goal.returns
returns c =
    let a = c.args.a in
    let e = c.new-queue.ensures in
    let f = c.new-queue.result in
    let none : Holds f (a ∷ a ∷ []) 0 0 = record { memory = e.lent; count = ap length e.list; next = e.next } in
    let one = push_holds f c.push.new.self a c.push.result (a ∷ a ∷ []) 0 0 none (omega arith) c.push.ensures.does in
    let two = push_holds c.push.new.self c.push-2.new.self c.args.b c.push-2.result (a ∷ a ∷ []) 1 1 one (omega arith) c.push-2.ensures.does in
    let back = pop_holds c.push-2.new.self c.pop.new.self c.pop.result (a ∷ c.args.b ∷ []) 1 0 two c.pop.ensures.does in
    let last = push_holds c.pop.new.self c.push-3.new.self c.args.c c.push-3.result (a ∷ c.args.b ∷ []) 1 0 back (omega arith) c.push-3.ensures.does in
    let is = last.memory in
    search rules
