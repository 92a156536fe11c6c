use Rattle.std.proofs.Common.{refl}
use Rattle.layer_search.proofs.Turns.{none_told, nowhere_told}
use Rattle.layer_search.proofs.looking.add_told.Goals as goal

pub returns-in_default : goal.returns-in_default
returns-in_default c =
    let f = c.args.frontier.now in
    record {
      whole = c.requires.whole;
      wanted = refl;
      added = none_told f c.args.ops c.args.query.now c.args.at c.args.told.now.word c.args.told.now.list_at c.args.told.now c.requires.whole c.in_default.not-Node;
    }

pub returns-in_default-list_at-clause-added : goal.returns-in_default-list_at-clause-added
returns-in_default-list_at-clause-added c =
    nowhere_told c.args.frontier.now c.args.ops c.args.query.now c.args.at c.args.told.now.word c.args.told.now.list_at c.args.told.now c.requires.whole
    c.in_default-list_at.is
