use Rattle.std.proofs.Common.{sym, subst}
use Rattle.account.specs.Follow.{Holds}
use Rattle.account.specs.Rule.{no_accounts}
use Rattle.account.proofs.Holding.{holds_none}
use Rattle.stream.proofs.Blocks.{cut_anyhow}
use Rattle.stream.proofs.tally.Tally.new.Goals as goal

pub returns : goal.returns
returns c =
    let blank = c.blank.ensures in
    record {
      blank = blank;
      stands = record { accounts = subst (λ xs. Holds xs no_accounts) (sym blank.closed) holds_none; place = blank.first; ended = blank.on };
      cuts = cut_anyhow;
    }
