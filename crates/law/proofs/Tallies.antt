-- The account of one answered connection is right. Assumes nothing.
use Rattle.std.proofs.Common.{◌≡◌, ℕ, zero, suc, ◌+◌, ◌-◌, ◌<◌, ◌≤◌, Bool, true, false, cond, eqb, ltb, leb, List, [], ◌∷◌, length, Some, None, Option, sym, refl, ap, ◌∙◌, subst, add-zero, add-suc, add-one, arith}
use Rattle.std.proofs.lemmas.Bool.Decides.{nat_tests}
use Rattle.report.specs.declared.report.Elapsed.{Elapsed}
use Rattle.report.specs.Limits.{tariffs}
use Rattle.account.specs.Rule.{Account, upd, becomes, read, opened, total}
use Rattle.rules.specs.Times.{elapsed_by}
use Rattle.law.specs.Ticks.{passed, tally}
use Rattle.invariants.proofs.Basics.{differ}

-- the switches counted, the later of answer and last switch, and the interval to report
pub record Metered : Type 0 where
  pub count : ℕ
  pub base : ℕ
  pub interval : Option ℕ

abbrev pub switch : ℕ → Metered → Metered
switch s c = record { count = c.count + 1; base = s; interval = Some (s - c.base) }

abbrev pub sent : Metered → Metered
sent c = record { count = c.count; base = c.base; interval = None }

abbrev pub elapsed : ℕ → Metered → Elapsed
elapsed e c = elapsed_by c.count c.interval (e - c.base)

abbrev pub AllLe : List ℕ → ℕ → Type 0
AllLe [] x = Unit {0}
AllLe (s ∷ ss) x = (s ≤ x) × AllLe ss x

all_later : (ss : List ℕ) (x y : ℕ) → x ≤ y → AllLe ss x → AllLe ss y
all_later [] x y h p = tt
all_later (s ∷ ss) x y h p = let k = p.0 in (omega arith, all_later ss x y h p.1)

passed_all : (ss : List ℕ) (x τ : ℕ) → AllLe ss x → x ≤ τ → passed ss τ ≡ length ss
passed_all [] x τ p h = refl
passed_all (s ∷ ss) x τ p h = let k = p.0 in let ih = passed_all ss x τ p.1 h in grind (arith, nat_tests)

pub passed_most : (ss : List ℕ) (τ : ℕ) → passed ss τ ≤ length ss
passed_most [] τ = omega arith
passed_most (s ∷ ss) τ = let ih = passed_most ss τ in grind (arith, nat_tests)

-- no more switches: only the current tariff's ticks grow
tally_more : (ss : List ℕ) (k a n d : ℕ) → AllLe ss (a + n) → tally ss k a (n + d) ≡ tally ss k a n + cond (eqb (length ss + 1) k) d 0
tally_more ss k a n zero p = rw add-zero (grind (arith, nat_tests))
tally_more ss k a n (suc d) p =
    let ih = tally_more ss k a n d p in
    let all = passed_all ss (a + n) (a + (n + d)) p (omega arith) in
    rw add-suc (grind (arith, nat_tests))

-- a switch later than the ticks counted
tally_later : (ss : List ℕ) (s k a n : ℕ) → a + n ≤ s → tally (s ∷ ss) k a n ≡ tally ss k a n
tally_later ss s k a zero h = refl
tally_later ss s k a (suc n) h =
    let ih = tally_later ss s k a n (omega arith) in
    let q : leb s (a + n) ≡ false = grind (arith, nat_tests) in
    let z : cond (leb s (a + n)) 1 0 + passed ss (a + n) ≡ passed ss (a + n) = grind (arith, nat_tests) in
    rw (z, ih)

-- a tariff that is not reached yet
tally_none : (ss : List ℕ) (k a n : ℕ) → length ss + 1 < k → tally ss k a n ≡ 0
tally_none ss k a zero h = refl
tally_none ss k a (suc n) h =
    let ih = tally_none ss k a n h in
    let m = passed_most ss (a + n) in
    grind (arith, nat_tests)

-- the same from one tick to a later one
grown : (ss : List ℕ) (k a x e : ℕ) → a ≤ x → x ≤ e → AllLe ss x → tally ss k a (e - a) ≡ tally ss k a (x - a) + cond (eqb (length ss + 1) k) (e - x) 0
grown ss k a x e h l p =
    let i : a + (x - a) ≡ x = omega arith in
    let n : e - a ≡ (x - a) + (e - x) = omega arith in
    rw n (tally_more ss k a (x - a) (e - x) (subst (AllLe ss) (sym i) p))

-- The current ticks become the ticks since the base, where the account was right up to e0.
module _ (ss : List ℕ) (a base e0 e : ℕ) (late : a ≤ base) (seen : base ≤ e0) (on : e0 ≤ e) (all : AllLe ss base) (fresh : tally ss (length ss + 1) a (base - a) ≡ 0) where
  becoming : (acc : Account) → acc.current ≡ length ss + 1 → ((k : ℕ) → acc.ticks k ≡ tally ss k a (e0 - a)) → (y : Account) × (becomes (e - base) acc ≡ Some y) × (y.current ≡ acc.current) × ((k : ℕ) → y.ticks k ≡ tally ss k a (e - a))
  becoming acc m right =
      let old : acc.ticks acc.current ≡ e0 - base = right acc.current ∙ rw m (grown ss (length ss + 1) a base e0 late seen all ∙ grind (arith, nat_tests)) in
      let more : leb (acc.ticks acc.current) (e - base) ≡ true = grind (arith, nat_tests) in (
        record { last = acc.last; current = acc.current; ticks = upd acc.ticks acc.current (e - base) },
        rw more,
        refl,
        λ k.
            let r = right k in
            let g0 = grown ss k a base e0 late seen all in
            let g = grown ss k a base e late (omega arith) all in
            let same : (k ≡ acc.current) → tally ss k a (base - a) ≡ 0 = λ q. rw (q, m) fresh in
            at k (eqb k acc.current) refl r g0 g same,
      )
    where
      at : (k : ℕ) (b : Bool) → eqb k acc.current ≡ b → acc.ticks k ≡ tally ss k a (e0 - a) → tally ss k a (e0 - a) ≡ tally ss k a (base - a) + cond (eqb (length ss + 1) k) (e0 - base) 0 → tally ss k a (e - a) ≡ tally ss k a (base - a) + cond (eqb (length ss + 1) k) (e - base) 0 → (k ≡ acc.current → tally ss k a (base - a) ≡ 0) → cond b (e - base) (acc.ticks k) ≡ tally ss k a (e - a)
      at k true q r g0 g same = let z = same (grind (arith, nat_tests)) in grind (arith, nat_tests)
      at k false q r g0 g same = grind (arith, nat_tests)

pub none_yet : (ss : List ℕ) (k a : ℕ) → tally ss k a (a - a) ≡ 0
none_yet ss k a = ap (tally ss k a) (let z : a - a ≡ 0 = omega arith in z)

-- How far the account is behind the connection.
pub data Phase (ss : List ℕ) (a e0 : ℕ) (spent : Bool) (c : Metered) (acc : Account) : Type 0 where
  -- no switch since the newest report
  level : c.interval ≡ None → AllLe ss e0 → c.base ≤ e0 → acc.current ≡ c.count + 1 → Phase ss a e0 spent c acc
  -- one switch before the answer, and no report
  early : c.interval ≡ None → c.count ≡ 1 → acc.current ≡ 1 → e0 ≡ a → c.base ≡ a → spent ≡ true → Phase ss a e0 spent c acc
  -- one switch since the newest report, and since the answer
  behind : (s : ℕ) (rest : List ℕ) → ss ≡ s ∷ rest → c.base ≡ s → e0 ≤ s → AllLe rest e0 → c.interval ≡ Some (tally rest (length rest + 1) a (s - a)) → acc.current ≡ length rest + 1 → spent ≡ true → Phase ss a e0 spent c acc

-- the invariant: n is the newest tick, e0 that of the newest report
pub record Kept (ss : List ℕ) (a e0 n : ℕ) (spent : Bool) (c : Metered) (acc : Account) : Type 0 where
  pub counted : c.count ≡ length ss
  pub few : c.count < tariffs
  pub all : AllLe ss c.base
  pub late : a ≤ c.base
  pub on : c.base ≤ n
  pub since : a ≤ e0
  pub newest_on : e0 ≤ n
  pub fresh : tally ss (length ss + 1) a (c.base - a) ≡ 0
  pub right : (k : ℕ) → acc.ticks k ≡ tally ss k a (e0 - a)
  pub phase : Phase ss a e0 spent c acc

abbrev pub Reads : List ℕ → ℕ → ℕ → Metered → Account → Type 0
Reads ss a e c acc = (y : Account) × (read (elapsed e c) acc ≡ Some y) × (y.current ≡ c.count + 1) × ((k : ℕ) → y.ticks k ≡ tally ss k a (e - a))

-- the reports of each phase, as the account rule takes them
level_read : (c : Metered) (acc : Account) (e : ℕ) → c.interval ≡ None → acc.current ≡ c.count + 1 → read (elapsed e c) acc ≡ becomes (e - c.base) acc
level_read c acc e none m = go (eqb c.count 0) refl
  where
    go : (z : Bool) → eqb c.count 0 ≡ z → read (elapsed e c) acc ≡ becomes (e - c.base) acc
    go true q = let p : eqb acc.current 1 ≡ true = grind (arith, nat_tests) in rw (q, p)
    go false q = let p : eqb acc.current 1 ≡ false = grind (arith, nat_tests) in rw (none, q, p)

early_read : (c : Metered) (acc : Account) (e : ℕ) → c.interval ≡ None → c.count ≡ 1 → acc.current ≡ 1 → acc.ticks 1 ≡ 0 → read (elapsed e c) acc ≡ becomes (e - c.base) (record { last = acc.last; current = 2; ticks = acc.ticks })
early_read c acc e none one zero-yet empty = rw (none, one, zero-yet, empty)

behind_read : (c : Metered) (acc : Account) (e i : ℕ) → c.interval ≡ Some i → 0 < c.count → leb (acc.ticks acc.current) i ≡ true → acc.current < tariffs → read (elapsed e c) acc ≡ becomes (e - c.base) (record { last = acc.last; current = acc.current + 1; ticks = upd acc.ticks acc.current i })
behind_read c acc e i int some more fits =
    let p : eqb c.count 0 ≡ false = grind (arith, nat_tests) in
    let q : ltb acc.current tariffs ≡ true = grind (arith, nat_tests) in
    rw (p, int, more, q)

behind_right : (k m r : ℕ) → m ≡ r → (t u v d i : ℕ) → t ≡ u → v ≡ u + cond (eqb r k) d 0 → (r ≡ k → i ≡ v) → cond (eqb k m) i t ≡ v
behind_right k m r e t u v d i p q s = go (eqb k m) refl
  where
    go : (b : Bool) → eqb k m ≡ b → cond b i t ≡ v
    go true z = s (grind (arith, nat_tests))
    go false z = grind (arith, nat_tests)

module _ (ss : List ℕ) (a e0 n e : ℕ) (spent : Bool) (c : Metered) (acc : Account) (old : Kept ss a e0 n spent c acc) (h : n ≤ e) where
  from_base : (x : ℕ) (acc' : Account) → acc'.current ≡ length ss + 1 → c.base ≤ x → x ≤ e → ((k : ℕ) → acc'.ticks k ≡ tally ss k a (x - a)) → (y : Account) × (becomes (e - c.base) acc' ≡ Some y) × (y.current ≡ acc'.current) × ((k : ℕ) → y.ticks k ≡ tally ss k a (e - a))
  from_base x acc' m l u r = becoming ss a c.base x e old.late l u old.all old.fresh acc' m r

  pub reads : Phase ss a e0 spent c acc → Reads ss a e c acc
  reads (level none passed seen m) =
      let b = from_base e0 acc (m ∙ ap (λ x. x + 1) old.counted) seen (let z = old.newest_on in omega arith) old.right in
      (b.0, level_read c acc e none m ∙ b.1, b.2 ∙ m, b.3)
  reads (early none one zero-yet start base sp) =
      let acc' : Account = record { last = acc.last; current = 2; ticks = acc.ticks } in
      let b = from_base e0 acc' (let w = old.counted in omega arith) (omega arith) (let z = old.newest_on in omega arith) old.right in
      let empty : acc.ticks 1 ≡ 0 = old.right 1 ∙ ap (λ k. tally ss 1 a k) (let z : e0 - a ≡ 0 = omega arith in z) in
      (b.0, early_read c acc e none one zero-yet empty ∙ b.1, b.2 ∙ (omega arith), b.3)
  reads (behind s rest e-ss e-base later passed int m sp) =
      let i = tally rest (length rest + 1) a (s - a) in
      let acc' : Account = record { last = acc.last; current = acc.current + 1; ticks = upd acc.ticks acc.current i } in
      let in_time : a + (s - a) ≤ s = let z = old.since in omega arith in
      let in-time-0 : a + (e0 - a) ≤ s = let z = old.since in omega arith in
      let before : (k : ℕ) → acc.ticks k ≡ tally rest k a (e0 - a) = λ k. old.right k ∙ ap (λ l. tally l k a (e0 - a)) e-ss ∙ tally_later rest s k a (e0 - a) in-time-0 in
      let grew : (k : ℕ) → tally rest k a (s - a) ≡ tally rest k a (e0 - a) + cond (eqb (length rest + 1) k) (s - e0) 0 = λ k. grown rest k a e0 s old.since later passed in
      let switched-at : (k : ℕ) → tally ss k a (s - a) ≡ tally rest k a (s - a) = λ k. ap (λ l. tally l k a (s - a)) e-ss ∙ tally_later rest s k a (s - a) in_time in
      let size : length ss ≡ length rest + 1 = ap length e-ss ∙ sym (add-one (length rest)) in
      let fits : acc.current < tariffs = let z = old.few in let w = old.counted in omega arith in
      let more : leb (acc.ticks acc.current) i ≡ true = let x = before acc.current in let y = grew (length rest + 1) in rw m (let q : leb (tally rest (length rest + 1) a (e0 - a)) i ≡ true = grind (arith, nat_tests) in rw (before (length rest + 1)) q) in
      let right : (k : ℕ) → upd acc.ticks acc.current i k ≡ tally ss k a (s - a) = λ k. behind_right k acc.current (length rest + 1) m (acc.ticks k) (tally rest k a (e0 - a)) (tally rest k a (s - a)) (s - e0) i (before k) (grew k) (λ q. ap (λ x. tally rest x a (s - a)) q) ∙ sym (switched-at k) in
      let b = from_base s acc' (ap (λ x. x + 1) m ∙ ap (λ x. x + 1) (sym size)) (omega arith) (let z = old.on in omega arith) right in
      (b.0, behind_read c acc e i int (let w = old.counted in omega arith) more fits ∙ b.1, b.2 ∙ (let w = old.counted in omega arith), b.3)

  pub kept_report : (y : Account) → y.current ≡ c.count + 1 → ((k : ℕ) → y.ticks k ≡ tally ss k a (e - a)) → Kept ss a e e false (sent c) y
  kept_report y m r = let z = old.on in let w = old.late in record {
    counted = old.counted;
    few = old.few;
    all = old.all;
    late = old.late;
    on = omega arith;
    since = omega arith;
    newest_on = omega arith;
    fresh = old.fresh;
    right = r;
    phase = level refl (all_later ss c.base e (omega arith) old.all) (omega arith) m;
  }
    where
      none_some : {x : ℕ} → None ≡ Some x → ⊥
      none_some h = let w : ◌≡◌ {A = ℕ} 0 1 = cc in omega arith

-- only the first phase leaves the switch unspent
module _ (ss : List ℕ) (a e0 n s : ℕ) (c : Metered) (acc : Account) (old : Kept ss a e0 n false c acc) (h : n < s) (few : c.count + 1 < tariffs) where
  pub kept_switch : Phase ss a e0 false c acc → Kept (s ∷ ss) a e0 s true (switch s c) acc
  kept_switch (level none passed seen m) =
      let z = old.on in
      let w = old.late in
      let v = old.newest_on in
      let u = old.since in
      let back : a + (s - a) ≤ s = omega arith in
      let back-0 : a + (e0 - a) ≤ s = omega arith in
      let here : s - c.base ≡ tally ss (length ss + 1) a (s - a) = let g = grown ss (length ss + 1) a c.base s w (omega arith) old.all in let f = old.fresh in grind (arith, nat_tests) in
      record {
        counted = add-one c.count ∙ ap suc old.counted;
        few = few;
        all = (omega arith, all_later ss c.base s (omega arith) old.all);
        late = omega arith;
        on = omega arith;
        since = u;
        newest_on = omega arith;
        fresh = tally_later ss s (suc (length ss) + 1) a (s - a) back ∙ tally_none ss (suc (length ss) + 1) a (s - a) (omega arith);
        right = λ k. old.right k ∙ sym (tally_later ss s k a (e0 - a) back-0);
        phase = behind s ss refl refl (omega arith) passed (ap Some here) (m ∙ ap (λ x. x + 1) old.counted) refl;
      }
  kept_switch (early none one zero-yet start base sp) = absurd (differ sp)
  kept_switch (behind t rest e-ss e-base later passed int m sp) = absurd (differ sp)

abbrev pub early_list : Option ℕ → List ℕ
early_list None = []
early_list (Some p) = p ∷ []

abbrev pub NoLater : ℕ → Option ℕ → Type 0
NoLater a None = Unit {0}
NoLater a (Some p) = p ≤ a

abbrev pub is_some : Option ℕ → Bool
is_some None = false
is_some (Some _) = true

abbrev pub at_first : ℕ → Option ℕ → Metered
at_first a p = record { count = length (early_list p); base = a; interval = None }

pub at_answer : (a : ℕ) (p : Option ℕ) → NoLater a p → Kept (early_list p) a a a (is_some p) (at_first a p) opened
at_answer a None l = record {
  counted = refl;
  few = omega arith;
  all = tt;
  late = omega arith;
  on = omega arith;
  since = omega arith;
  newest_on = omega arith;
  fresh = none_yet [] 1 a;
  right = λ k. sym (none_yet [] k a);
  phase = level refl tt (omega arith) refl;
}
at_answer a (Some p) l = record {
  counted = refl;
  few = omega arith;
  all = (l, tt);
  late = omega arith;
  on = omega arith;
  since = omega arith;
  newest_on = omega arith;
  fresh = none_yet (p ∷ []) 2 a;
  right = λ k. sym (none_yet (p ∷ []) k a);
  phase = early refl refl refl refl refl refl;
}

-- all tariffs together make up the whole
total_add : (n : ℕ) (f g : ℕ → ℕ) → total n (λ k. f k + g k) ≡ total n f + total n g
total_add zero f g = refl
total_add (suc n) f g = let ih = total_add n f g in omega arith

total_none : (n m : ℕ) → n < m → total n (λ k. cond (eqb m k) 1 0) ≡ 0
total_none zero m h = refl
total_none (suc n) m h = let ih = total_none n m (omega arith) in grind (arith, nat_tests)

total_one : (n m : ℕ) → 0 < m → m ≤ n → total n (λ k. cond (eqb m k) 1 0) ≡ 1
total_one zero m p h = omega arith
total_one (suc n) m p h = go (eqb m (suc n)) refl (total_one n m)
  where
    go : (b : Bool) → eqb m (suc n) ≡ b → (0 < m → m ≤ n → total n (λ k. cond (eqb m k) 1 0) ≡ 1) → total n (λ k. cond (eqb m k) 1 0) + cond (eqb m (suc n)) 1 0 ≡ 1
    go true q ih = let z = total_none n m (grind (arith, nat_tests)) in grind (arith, nat_tests)
    go false q ih = let z = ih p (grind (arith, nat_tests)) in grind (arith, nat_tests)

pub total_tally : (ss : List ℕ) (a n : ℕ) → length ss < tariffs → total tariffs (λ k. tally ss k a n) ≡ n
total_tally ss a zero h = refl
total_tally ss a (suc n) h =
    let ih = total_tally ss a n h in
    let m = passed_most ss (a + n) in
    let one = total_one tariffs (passed ss (a + n) + 1) (omega arith) (omega arith) in
    total_add tariffs (λ k. tally ss k a n) (λ k. cond (eqb (passed ss (a + n) + 1) k) 1 0) ∙ rw (ih, one) (add-one n)

total_same : (n : ℕ) (f g : ℕ → ℕ) → ((k : ℕ) → f k ≡ g k) → total n f ≡ total n g
total_same zero f g h = refl
total_same (suc n) f g h = let ih = total_same n f g h in let e = h (suc n) in omega arith

pub total_right : (ss : List ℕ) (a d : ℕ) (f : ℕ → ℕ) → length ss < tariffs → ((k : ℕ) → f k ≡ tally ss k a (d - a)) → total tariffs f ≡ d - a
total_right ss a d f h r = total_same tariffs f (λ k. tally ss k a (d - a)) r ∙ total_tally ss a (d - a) h
