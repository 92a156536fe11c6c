use Rattle.search_sets.proofs.HeldSo.{begin_more}
use Rattle.search_sets.proofs.frontier.Frontier.begin_with.Goals as goal

pub returns-clause-added : goal.returns-clause-added
returns-clause-added c = begin_more c.args.self.now c.add.new.self c.insert.new.self c.args.element.now c.in_ok-insert.ensures.set c.in_ok-add.ensures.added
