-- The earliest due item is the one that nothing due comes before. Assumes nothing.
use Rattle.std.proofs.Common.{◌≡◌, ℕ, zero, suc, ◌<◌, ◌≤◌, Bool, true, false, cond, ◌&&◌, ◌||◌, eqb, ltb, leb, ◌⊎◌, is_some, Some, None, Option, sym, refl, ap, ◌∙◌, subst, inl, inr, arith}
use Rattle.std.proofs.lemmas.Bool.Decides.{nat_tests}
use Rattle.report.specs.declared.report.Address.{Address}
use Rattle.report.specs.Lawful.{lawful_address}
use Rattle.report.specs.Limits.{address_numbers, address_kinds}
use Rattle.rules.specs.declared.due.Timer.{Timer}
use Rattle.rules.specs.declared.due.Timer.TheVariants.{TariffSwitch, AdviceSwitch, Sound, PeriodEnd, ConfirmationLimit}
use Rattle.rules.specs.declared.due.Dues.{Dues}
use Rattle.rules.specs.declared.due.Item.{Item}
use Rattle.rules.specs.Dues.{rank, due_of, before, sooner, item, soonest_of, soonest_to, soonest, if_due, earliest}
use Rattle.rules.specs.Earliest.{Earliest, OneEarliest}
use Rattle.report.proofs.Addresses.{kinds}
use Rattle.invariants.proofs.Basics.{differ, none_some, some_same, and_true, le_of, leb_of, less_of}

-- the order as a relation
abbrev Before : Item → Item → Type 0
Before x y = (x.tick < y.tick) ⊎ ((x.tick ≡ y.tick) × ((x.address.kind < y.address.kind) ⊎ ((x.address.kind ≡ y.address.kind) × ((x.address.number < y.address.number) ⊎ ((x.address.number ≡ y.address.number) × (rank x.timer < rank y.timer))))))

lex : (a b : ℕ) (r : Bool) → (ltb a b || (eqb a b && r)) ≡ true → (a < b) ⊎ ((a ≡ b) × (r ≡ true))
lex a b r e = go (ltb a b) refl (eqb a b) refl e
  where
    go : (p : Bool) → ltb a b ≡ p → (q : Bool) → eqb a b ≡ q → (p || (q && r)) ≡ true → (a < b) ⊎ ((a ≡ b) × (r ≡ true))
    go true p q z e = inl (grind (arith, nat_tests))
    go false p true z e = inr (grind (arith, nat_tests), e)
    go false p false z e = absurd (differ e)

not_lex : (a b : ℕ) (r : Bool) → (ltb a b || (eqb a b && r)) ≡ false → (a < b → ⊥) × (a ≡ b → r ≡ false)
not_lex a b r e = go (ltb a b) refl (eqb a b) refl e
  where
    go : (p : Bool) → ltb a b ≡ p → (q : Bool) → eqb a b ≡ q → (p || (q && r)) ≡ false → (a < b → ⊥) × (a ≡ b → r ≡ false)
    go true p q z e = absurd (differ (sym e))
    go false p true z e = (λ h. grind (arith, nat_tests), λ _. e)
    go false p false z e = (λ h. grind (arith, nat_tests), λ h. absurd (let w : ⊥ = grind (arith, nat_tests) in w))

less_than : (a b : ℕ) → ltb a b ≡ true → a < b
less_than a b e = grind (arith, nat_tests)

not_less_of : (a b : ℕ) → ltb a b ≡ false → a < b → ⊥
not_less_of a b e h = grind (arith, nat_tests)

says : (x y : Item) → before x y ≡ true → Before x y
says x y e = first (lex x.tick y.tick _ e)
  where
    third : (x.address.number < y.address.number) ⊎ ((x.address.number ≡ y.address.number) × (ltb (rank x.timer) (rank y.timer) ≡ true)) → (x.address.number < y.address.number) ⊎ ((x.address.number ≡ y.address.number) × (rank x.timer < rank y.timer))
    third (inl h) = inl h
    third (inr h) = inr (h.0, less_than (rank x.timer) (rank y.timer) h.1)

    second : (x.address.kind < y.address.kind) ⊎ ((x.address.kind ≡ y.address.kind) × ((ltb x.address.number y.address.number || (eqb x.address.number y.address.number && ltb (rank x.timer) (rank y.timer))) ≡ true)) → (x.address.kind < y.address.kind) ⊎ ((x.address.kind ≡ y.address.kind) × ((x.address.number < y.address.number) ⊎ ((x.address.number ≡ y.address.number) × (rank x.timer < rank y.timer))))
    second (inl h) = inl h
    second (inr h) = inr (h.0, third (lex x.address.number y.address.number _ h.1))

    first : (x.tick < y.tick) ⊎ ((x.tick ≡ y.tick) × ((ltb x.address.kind y.address.kind || (eqb x.address.kind y.address.kind && (ltb x.address.number y.address.number || (eqb x.address.number y.address.number && ltb (rank x.timer) (rank y.timer))))) ≡ true)) → Before x y
    first (inl h) = inl h
    first (inr h) = inr (h.0, second (lex x.address.kind y.address.kind _ h.1))

denies : (x y : Item) → before x y ≡ false → Before x y → ⊥
denies x y e (inl h) = (not_lex x.tick y.tick _ e).0 h
denies x y e (inr (p, inl h)) = (not_lex x.address.kind y.address.kind _ ((not_lex x.tick y.tick _ e).1 p)).0 h
denies x y e (inr (p, inr (q, inl h))) = (not_lex x.address.number y.address.number _ ((not_lex x.address.kind y.address.kind _ ((not_lex x.tick y.tick _ e).1 p)).1 q)).0 h
denies x y e (inr (p, inr (q, inr (r, h)))) = not_less_of (rank x.timer) (rank y.timer) ((not_lex x.address.number y.address.number _ ((not_lex x.address.kind y.address.kind _ ((not_lex x.tick y.tick _ e).1 p)).1 q)).1 r) h

not_so : (x y : Item) → (Before x y → ⊥) → before x y ≡ false
not_so x y h = go (before x y) refl
  where
    go : (b : Bool) → before x y ≡ b → b ≡ false
    go true e = absurd (h (says x y e))
    go false e = refl

chain : (x y z : Item) → Before x y → Before y z → Before x z
chain x y z p q = grind arith

through : (x y z : Item) → Before x y → (Before z y → ⊥) → Before x z
through x y z p q = grind arith

never_self : (x : Item) → Before x x → ⊥
never_self x p = grind arith

level : (x y : Item) → (Before x y → ⊥) → (Before y x → ⊥) → (x.tick ≡ y.tick) × (x.address.kind ≡ y.address.kind) × (x.address.number ≡ y.address.number) × (rank x.timer ≡ rank y.timer)
level x y p q = grind arith

-- the first of the items that P says of
abbrev Best : (Item → Type 0) → Option Item → Type 0
Best P None = (x : Item) → P x → ⊥
Best P (Some b) = P b × ((x : Item) → P x → Before x b → ⊥)

best_of : (P Q : Item → Type 0) (o : Option Item) → ((x : Item) → P x → Q x) → ((x : Item) → Q x → P x) → Best P o → Best Q o
best_of P Q None to from h = λ x q. h x (from x q)
best_of P Q (Some b) to from h = (to b h.0, λ x q. h.1 x (from x q))

abbrev Or : (Item → Type 0) → (Item → Type 0) → Item → Type 0
Or P Q x = P x ⊎ Q x

sooner_best : (P Q : Item → Type 0) (x y : Option Item) → Best P x → Best Q y → Best (Or P Q) (sooner x y)
sooner_best P Q None None p q = λ i h. elim h [ inl a ↦ p i a | inr b ↦ q i b ]
sooner_best P Q None (Some y) p q = (inr q.0, λ i h. elim h [ inl a ↦ absurd (p i a) | inr b ↦ q.1 i b ])
sooner_best P Q (Some x) None p q = (inl p.0, λ i h. elim h [ inl a ↦ p.1 i a | inr b ↦ absurd (q i b) ])
sooner_best P Q (Some x) (Some y) p q = go (before y x) refl
  where
    go : (b : Bool) → before y x ≡ b → Best (Or P Q) (cond b (Some y) (Some x))
    go true e = (inr q.0, λ i h less. elim h [ inl a ↦ p.1 i a (chain i y x less (says y x e)) | inr b ↦ q.1 i b less ])
    go false e = (inl p.0, λ i h less. elim h [ inl a ↦ p.1 i a less | inr b ↦ q.1 i b (through i x y less (denies y x e)) ])

-- one timer
abbrev OfTimer : Address → Dues → Timer → Item → Type 0
OfTimer a d k i = (i.address ≡ a) × (i.timer ≡ k) × (due_of d k ≡ Some i.tick)

same_item : (i : Item) (a : Address) (k : Timer) (d : ℕ) → i.address ≡ a → i.timer ≡ k → d ≡ i.tick → record { tick = d; address = a; timer = k } ≡ i
same_item i a k d p q r = ap (λ x. record { tick = x; address = a; timer = k }) r ∙ ap (λ x. record { tick = i.tick; address = x; timer = k }) (sym p) ∙ ap (λ x. record { tick = i.tick; address = i.address; timer = x }) (sym q)

item_best : (a : Address) (d : Dues) (k : Timer) (o : Option ℕ) → due_of d k ≡ o → Best (OfTimer a d k) (item a k o)
item_best a d k None e = λ i h. none_some (sym e ∙ h.2)
item_best a d k (Some q) e = ((refl, refl, e), λ i h less. never_self i (subst (Before i) (same_item i a k q h.0 h.1 (some_same (sym e ∙ h.2))) less))

-- one address
abbrev OfAddress : Address → Dues → Item → Type 0
OfAddress a d i = (i.address ≡ a) × (due_of d i.timer ≡ Some i.tick)

abbrev AnyTimer : Address → Dues → Item → Type 0
AnyTimer a d = Or (OfTimer a d TariffSwitch) (Or (OfTimer a d AdviceSwitch) (Or (OfTimer a d Sound) (Or (OfTimer a d PeriodEnd) (OfTimer a d ConfirmationLimit))))

one_timer : (a : Address) (d : Dues) (k : Timer) (i : Item) → OfTimer a d k i → OfAddress a d i
one_timer a d k i h = (h.0, ap (due_of d) h.1 ∙ h.2)

any_timer : (a : Address) (d : Dues) (i : Item) → AnyTimer a d i → OfAddress a d i
any_timer a d i (inl h) = one_timer a d TariffSwitch i h
any_timer a d i (inr (inl h)) = one_timer a d AdviceSwitch i h
any_timer a d i (inr (inr (inl h))) = one_timer a d Sound i h
any_timer a d i (inr (inr (inr (inl h)))) = one_timer a d PeriodEnd i h
any_timer a d i (inr (inr (inr (inr h)))) = one_timer a d ConfirmationLimit i h

by_timer : (a : Address) (d : Dues) (i : Item) → OfAddress a d i → AnyTimer a d i
by_timer a d i h = go i.timer refl h.1
  where
    go : (k : Timer) → i.timer ≡ k → due_of d k ≡ Some i.tick → AnyTimer a d i
    go TariffSwitch e r = inl (h.0, e, r)
    go AdviceSwitch e r = inr (inl (h.0, e, r))
    go Sound e r = inr (inr (inl (h.0, e, r)))
    go PeriodEnd e r = inr (inr (inr (inl (h.0, e, r))))
    go ConfirmationLimit e r = inr (inr (inr (inr (h.0, e, r))))

of_best : (a : Address) (d : Dues) → Best (OfAddress a d) (soonest_of a d)
of_best a d = best_of (AnyTimer a d) (OfAddress a d) (soonest_of a d) (any_timer a d) (by_timer a d)
    (sooner_best _ _ (item a TariffSwitch d.tariff) _ (item_best a d TariffSwitch _ refl)
    (sooner_best _ _ (item a AdviceSwitch d.advice) _ (item_best a d AdviceSwitch _ refl)
    (sooner_best _ _ (item a Sound d.sound) _ (item_best a d Sound _ refl)
    (sooner_best _ _ (item a PeriodEnd d.end) _ (item_best a d PeriodEnd _ refl) (item_best a d ConfirmationLimit _ refl)))))

-- the numbers of a kind
pub record UpTo (n k : ℕ) (f : Address → Dues) (i : Item) : Type 0 where
  pub kind_is : i.address.kind ≡ k
  pub low : 1 ≤ i.address.number
  pub high : i.address.number ≤ n
  pub runs : due_of (f i.address) i.timer ≡ Some i.tick

to_best : (n k : ℕ) (f : Address → Dues) → Best (UpTo n k f) (soonest_to n k f)
to_best zero k f = λ i h. (let l = h.low in let u = h.high in omega arith)
to_best (suc n) k f = best_of (Or (UpTo n k f) (OfAddress here (f here))) (UpTo (suc n) k f) (soonest_to (suc n) k f) to from (sooner_best _ _ (soonest_to n k f) (soonest_of here (f here)) (to_best n k f) (of_best here (f here)))
  where
    here : Address
    here = record { kind = k; number = suc n }

    to : (i : Item) → Or (UpTo n k f) (OfAddress here (f here)) i → UpTo (suc n) k f i
    to i (inl h) = record { kind_is = h.kind_is; low = h.low; high = (let u = h.high in omega arith); runs = h.runs }
    to i (inr h) = record { kind_is = ap (λ (a : Address). a.kind) h.0; low = subst (λ (a : Address). 1 ≤ a.number) (sym h.0) (omega arith); high = subst (λ (a : Address). a.number ≤ suc n) (sym h.0) (omega arith); runs = ap (λ a. due_of (f a) i.timer) h.0 ∙ h.1 }

    from : (i : Item) → UpTo (suc n) k f i → Or (UpTo n k f) (OfAddress here (f here)) i
    from i h = go (eqb i.address.number (suc n)) refl
      where
        go : (b : Bool) → eqb i.address.number (suc n) ≡ b → Or (UpTo n k f) (OfAddress here (f here)) i
        go true e =
            let num : i.address.number ≡ suc n = grind (arith, nat_tests) in
            let at : i.address ≡ here = ap (λ x. record { kind = x; number = i.address.number }) h.kind_is ∙ ap (λ x. record { kind = k; number = x }) num in
            inr (at, ap (λ a. due_of (f a) i.timer) (sym at) ∙ h.runs)
        go false e = inl (record { kind_is = h.kind_is; low = h.low; high = (let u = h.high in fewer i.address.number n e u); runs = h.runs })
          where
            fewer : (m n : ℕ) → eqb m (suc n) ≡ false → m ≤ suc n → m ≤ n
            fewer m n e h = grind (arith, nat_tests)

-- all addresses
abbrev Running : (Address → Dues) → Item → Type 0
Running f i = (lawful_address i.address ≡ true) × (due_of (f i.address) i.timer ≡ Some i.tick)

lawful_up_to : (k : ℕ) (f : Address → Dues) (i : Item) → 1 ≤ k → k ≤ address_kinds → UpTo address_numbers k f i → Running f i
lawful_up_to k f i l u h =
    let e = h.kind_is in
    (and_true (and_true (leb_of 1 i.address.kind (omega arith)) (leb_of i.address.kind address_kinds (omega arith))) (and_true (leb_of 1 i.address.number h.low) (leb_of i.address.number address_numbers h.high)), h.runs)

soonest_best : (f : Address → Dues) → Best (Running f) (soonest f)
soonest_best f = best_of (Or (UpTo address_numbers 1 f) (UpTo address_numbers 2 f)) (Running f) (soonest f) to from (sooner_best _ _ (soonest_to address_numbers 1 f) (soonest_to address_numbers 2 f) (to_best address_numbers 1 f) (to_best address_numbers 2 f))
  where
    to : (i : Item) → Or (UpTo address_numbers 1 f) (UpTo address_numbers 2 f) i → Running f i
    to i (inl h) = lawful_up_to 1 f i (omega arith) (omega arith) h
    to i (inr h) = lawful_up_to 2 f i (omega arith) (omega arith) h

    from : (i : Item) → Running f i → Or (UpTo address_numbers 1 f) (UpTo address_numbers 2 f) i
    from i h = let k = kinds i.address h.0 in elim k.0 [ inl one ↦ inl (record { kind_is = one; low = k.1; high = k.2; runs = h.1 }) | inr two ↦ inr (record { kind_is = two; low = k.1; high = k.2; runs = h.1 }) ]

pub is_earliest : (f : Address → Dues) (t : ℕ) → Earliest f t (earliest f t)
is_earliest f t = go (soonest f) (soonest_best f)
  where
    go : (o : Option Item) → Best (Running f) o → Earliest f t (if_due t o)
    go None h = λ x d. h x (d.lawful_there, d.runs)
    go (Some b) h = at (leb b.tick t) refl
      where
        at : (z : Bool) → leb b.tick t ≡ z → Earliest f t (cond z (Some b) None)
        at true e = (record { lawful_there = h.0.0; runs = h.0.1; due = (let w : b.tick ≤ t = grind (arith, nat_tests) in w) }, λ x d. not_so x b (h.1 x (d.lawful_there, d.runs)))
        at false e = λ x d. h.1 x (d.lawful_there, d.runs) (inl (earlier x.tick b.tick t e d.due))
          where
            earlier : (x b t : ℕ) → leb b t ≡ false → x ≤ t → x < b
            earlier x b t e h = grind (arith, nat_tests)

-- timers by their rank
timer_at : ℕ → Timer
timer_at k = cond (eqb k 0) TariffSwitch (cond (eqb k 1) AdviceSwitch (cond (eqb k 2) Sound (cond (eqb k 3) PeriodEnd ConfirmationLimit)))

timer_rank : (k : Timer) → timer_at (rank k) ≡ k
unfolding timer_at
timer_rank TariffSwitch = refl
timer_rank AdviceSwitch = refl
timer_rank Sound = refl
timer_rank PeriodEnd = refl
timer_rank ConfirmationLimit = refl

one : (f : Address → Dues) (t : ℕ) (o r : Option Item) → Earliest f t o → Earliest f t r → o ≡ r
one f t None None p q = refl
one f t None (Some y) p q = absurd (p y q.0)
one f t (Some x) None p q = absurd (q x p.0)
one f t (Some x) (Some y) p q =
    let l = level x y (denies x y (q.1 x p.0)) (denies y x (p.1 y q.0)) in
    let timers : x.timer ≡ y.timer = sym (timer_rank x.timer) ∙ ap timer_at l.3 ∙ timer_rank y.timer in
    let addresses : x.address ≡ y.address = ap (λ k. record { kind = k; number = x.address.number }) l.1 ∙ ap (λ n. record { kind = y.address.kind; number = n }) l.2 in
    ap Some (same_item y x.address x.timer x.tick (sym addresses) (sym timers) l.0)

pub one_earliest : OneEarliest
one_earliest = record { is_one = is_earliest; only_one = λ f t o h. one f t (earliest f t) o (is_earliest f t) h }

-- what is carried out is due, and nothing is due before it
pub record Picked (f : Address → Dues) (t : ℕ) (i : Item) : Type 0 where
  pub there : lawful_address i.address ≡ true
  pub runs : due_of (f i.address) i.timer ≡ Some i.tick
  pub due : i.tick ≤ t
  pub least : (a : Address) (k : Timer) (d : ℕ) → lawful_address a ≡ true → due_of (f a) k ≡ Some d → i.tick ≤ d

pub picked : (f : Address → Dues) (t : ℕ) (i : Item) → earliest f t ≡ Some i → Picked f t i
picked f t i e = record { there = h.0.lawful_there; runs = h.0.runs; due = h.0.due; least = λ a k d ok r. go a k d ok r (leb d t) refl }
  where
    h : Earliest f t (Some i)
    h = subst (Earliest f t) e (is_earliest f t)

    not_less : (m n : ℕ) → (m < n → ⊥) → n ≤ m
    not_less m n p = grind arith

    later : (d t m : ℕ) → leb d t ≡ false → m ≤ t → m ≤ d
    later d t m q l = grind (arith, nat_tests)

    go : (a : Address) (k : Timer) (d : ℕ) → lawful_address a ≡ true → due_of (f a) k ≡ Some d → (b : Bool) → leb d t ≡ b → i.tick ≤ d
    go a k d ok r true q =
        let x : Item = record { tick = d; address = a; timer = k } in
        let not-sooner = (not_lex d i.tick _ (h.1 x (record { lawful_there = ok; runs = r; due = le_of d t q }))).0 in
        not_less d i.tick not-sooner
    go a k d ok r false q = later d t i.tick q h.0.due

-- where nothing is carried out, nothing is due
pub none_picked : (f : Address → Dues) (t : ℕ) → is_some (earliest f t) ≡ false → (a : Address) (k : Timer) (d : ℕ) → lawful_address a ≡ true → due_of (f a) k ≡ Some d → t < d
none_picked f t e a k d ok r = at (leb d t) refl
  where
    go : (o : Option Item) → is_some o ≡ false → Earliest f t o → Earliest f t None
    go None q h = h
    go (Some i) q h = absurd (differ (sym q))

    at : (b : Bool) → leb d t ≡ b → t < d
    at true q = absurd (go (earliest f t) e (is_earliest f t) (record { tick = d; address = a; timer = k }) (record { lawful_there = ok; runs = r; due = le_of d t q }))
    at false q = less_of d t q
