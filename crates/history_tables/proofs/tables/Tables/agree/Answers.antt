use Rattle.history_tables.proofs.Noting.{agree_is}
use Rattle.history_tables.proofs.tables.Tables.agree.Goals as goal

pub returns : goal.returns
returns c = λ acts tells.
    let is = agree_is c.args.self.now.holders.held.items acts tells.held c.args.desk c.args.gate c.args.hold in
    (λ yes_it. is.0 (c.agree.ensures.0 yes_it), λ beside. c.agree.ensures.1 (is.1 beside))
