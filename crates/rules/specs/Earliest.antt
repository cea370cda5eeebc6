-- The earliest due item, told by the order of firing alone. Assumes nothing.
use Rattle.std.specs.Prelude.{◌≡◌, ℕ, ◌≤◌, true, false, Some, None, Option}
use Rattle.report.specs.declared.report.Address.{Address}
use Rattle.report.specs.Lawful.{lawful_address}
use Rattle.rules.specs.declared.due.Dues.{Dues}
use Rattle.rules.specs.declared.due.Item.{Item}
use Rattle.rules.specs.Dues.{due_of, before, earliest}

-- the item x is due at or before t
pub record Due (f : Address → Dues) (t : ℕ) (x : Item) : Type 0 where
  pub lawful_there : lawful_address x.address ≡ true
  pub runs : due_of (f x.address) x.timer ≡ Some x.tick
  pub due : x.tick ≤ t

-- nothing is due at or before t, or b is, and nothing due comes before it
abbrev pub Earliest : (Address → Dues) → ℕ → Option Item → Type 0
Earliest f t None = (x : Item) → Due f t x → ⊥
Earliest f t (Some b) = Due f t b × ((x : Item) → Due f t x → before x b ≡ false)

-- there is one such, and it is the item that fire carries out
pub record OneEarliest : Type 0 where
  pub is_one : (f : Address → Dues) (t : ℕ) → Earliest f t (earliest f t)
  pub only_one : (f : Address → Dues) (t : ℕ) (o : Option Item) → Earliest f t o → earliest f t ≡ o
