-- What follows from the answers of a queue that has room, or something waiting. Assumes nothing.
use Rattle.std.proofs.Common.{◌≡◌, ℕ, ◌+◌, ◌<◌, List, length, set, Some, None, Ok, Err, Option, Result, ap, ◌∙◌, arith, MatchOption, MatchResult}
use Rattle.std.proofs.lemmas.List.{length_push}
use Rattle.ring.specs.declared.fifo.Fifo.{Fifo}
use Rattle.ring.specs.declared.fifo.Full.{Full}
use Rattle.ring.specs.Slots.{after}
use Rattle.ring.specs.Queue.{waiting, memory, next_slot, Pushed, NotPushed, Popped, NotPopped}

module _ {T : Type 0} where
  -- the queue in memory ys holds n elements, and the next one is written at i
  pub record Holds (f : Fifo T) (ys : List T) (n i : ℕ) : Type 0 where
    pub memory : memory f ≡ ys
    pub count : length (waiting f) ≡ n
    pub next : next_slot f ≡ i

  pub push_holds : (f g : Fifo T) (x : T) (r : Result (Unit {0}) Full) (ys : List T) (n i : ℕ) → Holds f ys n i → n < length ys
      → MatchResult r (λ _. Pushed f x g) (λ _. NotPushed f g) → Holds g (set ys i x) (n + 1) (after (length ys) i)
  push_holds f g x (Ok _) ys n i h room p =
      record {
        memory = p.wrote ∙ (λ k. set (h.memory k) (h.next k) x);
        count = ap length p.list ∙ length_push (waiting f) x ∙ ap (λ m. m + 1) h.count;
        next = p.next ∙ (λ k. after (length (h.memory k)) (h.next k));
      }
  push_holds f g x (Err _) ys n i h room p = absurd (omega (arith, p.full, h.count, ap length h.memory))

  pub pop_holds : (f g : Fifo T) (r : Option T) (ys : List T) (n i : ℕ) → Holds f ys (n + 1) i
      → MatchOption r (NotPopped f g) (λ x. Popped f x g) → Holds g ys n i
  pop_holds f g (Some x) ys n i h p =
      let long = ap length p.list in
      record {
        memory = p.memory ∙ h.memory;
        count = omega (arith, long, h.count);
        next = p.next ∙ h.next;
      }
  pop_holds f g None ys n i h p = absurd (omega (arith, ap length p.none, h.count))
