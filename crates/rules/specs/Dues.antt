-- The order of due items, and which is due first. Assumes nothing.
use Rattle.std.specs.Prelude.{ℕ, zero, suc, Bool, cond, ◌&&◌, ◌||◌, Some, None, Option, ◌==◌, nat_le, nat_lt}
use Rattle.report.specs.declared.report.Address.{Address}
use Rattle.report.specs.Limits.{address_numbers}
use Rattle.rules.specs.declared.due.Timer.{Timer}
use Rattle.rules.specs.declared.due.Timer.TheVariants.{TariffSwitch, AdviceSwitch, Sound, PeriodEnd, ConfirmationLimit}
use Rattle.rules.specs.declared.due.Dues.{Dues}
use Rattle.rules.specs.declared.due.Item.{Item}

-- the order of the timers of one address
abbrev pub rank : Timer → ℕ
rank TariffSwitch = 0
rank AdviceSwitch = 1
rank Sound = 2
rank PeriodEnd = 3
rank ConfirmationLimit = 4

-- when a timer is due, if it runs
abbrev pub due_of : Dues → Timer → Option ℕ
due_of d TariffSwitch = d.tariff
due_of d AdviceSwitch = d.advice
due_of d Sound = d.sound
due_of d PeriodEnd = d.end
due_of d ConfirmationLimit = d.limit

-- items go by tick, then address kind, then address number, then timer
abbrev pub before : Item → Item → Bool
before x y = nat_lt x.tick y.tick || (x.tick == y.tick && (nat_lt x.address.kind y.address.kind || (x.address.kind == y.address.kind && (nat_lt x.address.number y.address.number || (x.address.number == y.address.number && nat_lt (rank x.timer) (rank y.timer))))))

-- the first of two items, if there is one
abbrev pub sooner : Option Item → Option Item → Option Item
sooner None y = y
sooner (Some x) None = Some x
sooner (Some x) (Some y) = cond (before y x) (Some y) (Some x)

-- the item of a timer that is due at d, if it runs
abbrev pub item : Address → Timer → Option ℕ → Option Item
item a k None = None
item a k (Some d) = Some (record { tick = d; address = a; timer = k })

-- the first item of an address
abbrev pub soonest_of : Address → Dues → Option Item
soonest_of a d = sooner (item a TariffSwitch d.tariff) (sooner (item a AdviceSwitch d.advice) (sooner (item a Sound d.sound) (sooner (item a PeriodEnd d.end) (item a ConfirmationLimit d.limit))))

-- the first item of the addresses of kind k with numbers 1 to n
abbrev pub soonest_to : ℕ → ℕ → (Address → Dues) → Option Item
soonest_to zero k f = None
soonest_to (suc n) k f = sooner (soonest_to n k f) (soonest_of (record { kind = k; number = suc n }) (f (record { kind = k; number = suc n })))

-- the first item of all addresses
abbrev pub soonest : (Address → Dues) → Option Item
soonest f = sooner (soonest_to address_numbers 1 f) (soonest_to address_numbers 2 f)

-- an item, if it is due at or before t
abbrev pub if_due : ℕ → Option Item → Option Item
if_due t None = None
if_due t (Some i) = cond (nat_le i.tick t) (Some i) None

-- the earliest item that is due at or before t
abbrev pub earliest : (Address → Dues) → ℕ → Option Item
earliest f t = if_due t (soonest f)
