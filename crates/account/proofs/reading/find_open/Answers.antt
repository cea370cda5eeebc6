use Rattle.account.specs.Records.{open_for, counting}
use Rattle.account.proofs.Places.{found, open_there}
use Rattle.account.proofs.reading.find_open.Goals as goal

pub invariant_of-result : goal.invariant_of-result
invariant_of-result c = record { is_open = (open_there c.args.records.now c.args.address c.in_ok-at.at c.in_ok-at.ensures.is).open_one }

pub returns-clause-open_at : goal.returns-clause-open_at
returns-clause-open_at c =
    let first = found (open_for c.args.address) (counting c.args.records.now) c.in_ok-at.at c.in_ok-at.ensures.is in
    let there = open_there c.args.records.now c.args.address c.in_ok-at.at c.in_ok-at.ensures.is in
    (first.0, first.1, there.counts, there.address)
