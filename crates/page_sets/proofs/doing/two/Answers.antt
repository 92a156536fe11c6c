use Rattle.page_sets.proofs.Blocks.{twice}
use Rattle.page_sets.proofs.doing.two.Goals as goal

pub returns-then-second-first : goal.returns-then-second-first
returns-then-second-first c = twice c.args.first c.args.second c.one.result c.if-second-first.true c.one.ensures
