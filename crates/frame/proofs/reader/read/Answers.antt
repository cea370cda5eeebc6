use Rattle.std.proofs.Common.{◌∙◌, arith}
use Rattle.std.proofs.lemmas.Bool.Decides.{nat_tests}
use Rattle.report.specs.declared.refusal.Cause.TheVariants.{Cut, AddressNumber, ReportNumber, Flags, Party, Zero, Tick, Interval, Sum}
use Rattle.frame.specs.Flags.{standing_at, elapsed_at}
use Rattle.frame.proofs.Sound.{is_read, is_refused}
use Rattle.frame.proofs.Places.{all_placed, rest_drop}
use Rattle.frame.proofs.reader.read.Goals as goal

pub returns-in_default : goal.returns-in_default
returns-in_default c =
    is_refused c.args.bytes.now Cut _ (λ p. grind (arith, nat_tests)) c.cut.ensures

pub returns-in_default-address : goal.returns-in_default-address
returns-in_default-address c =
    is_refused c.args.bytes.now AddressNumber _ (λ p. grind (arith, nat_tests)) c.wrong-in_default-address.ensures

pub returns-in_default-from_le_bytes-3 : goal.returns-in_default-from_le_bytes-3
returns-in_default-from_le_bytes-3 c =
    is_refused c.args.bytes.now ReportNumber _ (λ p. grind (arith, nat_tests)) c.wrong-in_default-from_le_bytes-3.ensures

pub returns-in_default-flags_right : goal.returns-in_default-flags_right
returns-in_default-flags_right c =
    is_refused c.args.bytes.now Flags _ (λ p. grind (arith, nat_tests, c.in_default-flags_right.ensures)) c.wrong-in_default-flags_right.ensures

pub returns-in_default-party : goal.returns-in_default-party
returns-in_default-party c =
    is_refused c.args.bytes.now Party _ (λ p. grind (arith, nat_tests, c.in-true.ensures)) c.wrong-in_default-party.ensures

pub returns-in_default-from_le_bytes-4 : goal.returns-in_default-from_le_bytes-4
returns-in_default-from_le_bytes-4 c =
    is_refused c.args.bytes.now Zero _ (λ p. grind (arith, nat_tests, c.in-true.ensures)) c.wrong-in_default-from_le_bytes-4.ensures

pub returns-in_default-from_le_bytes-5 : goal.returns-in_default-from_le_bytes-5
returns-in_default-from_le_bytes-5 c =
    is_refused c.args.bytes.now Tick _ (λ p. grind (arith, nat_tests, c.in-true.ensures)) c.wrong-in_default-from_le_bytes-5.ensures

pub returns-in_default-interval_right : goal.returns-in_default-interval_right
returns-in_default-interval_right c =
    is_refused c.args.bytes.now Interval _ (λ p. grind (arith, nat_tests, c.in-true.ensures, c.in_default-interval_right.ensures)) c.wrong-in_default-interval_right.ensures

pub returns-in_default-2 : goal.returns-in_default-2
returns-in_default-2 c =
    is_refused c.args.bytes.now Sum _ (λ p. grind (arith, nat_tests, c.in-true.ensures, c.in-true-interval_right.ensures)) c.wrong-in_default-2.ensures

pub returns : goal.returns
returns c =
    let b = c.args.bytes.now in
    let p = all_placed b in
    let flags = p.flags in
    let time = c.from_le_bytes-time.ensures ∙ p.time in
    let interval = c.from_le_bytes-interval.ensures ∙ p.interval in
    let standing = c.standing_of.ensures ∙ (λ i. standing_at (flags i)) in
    let elapsed = c.elapsed_of.ensures ∙ (λ i. elapsed_at (flags i) (time i) (interval i)) in
    let number = c.from_le_bytes-3.ensures ∙ p.number in
    let tick = c.from_le_bytes-5.ensures ∙ p.tick in
    is_read b _ _ (λ k. omega (arith, c.type_inv.bytes k))
    (grind (arith, nat_tests, c.in-true.ensures, c.in-true-interval_right.ensures))
    (λ i. record { address = record { kind = p.kind i; number = p.address i }; number = number i; party = p.party i; tick = tick i; standing = standing i; elapsed = elapsed i })
    (rest_drop b)
