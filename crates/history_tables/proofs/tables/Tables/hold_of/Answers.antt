use Rattle.history_tables.proofs.Noting.{held_as}
use Rattle.history_tables.proofs.tables.Tables.hold_of.Goals as goal

pub returns : goal.returns
returns c = λ acts tells. held_as c.args.self.now.holders.held.items acts tells.held c.args.desk c.args.gate c.hold_of.result c.hold_of.ensures
