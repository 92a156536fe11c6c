use Rattle.search_sets.proofs.HeldSo.{flagged_all}
use Rattle.search_sets.proofs.frontier.Frontier.batch.Goals as goal

pub returns : goal.returns
returns c =
    flagged_all c.args.self.now c.wanted-key-items.result.now c.wanted-key-items.ensures c.loop-key.key-index c.loop-key.batch
    c.loop-key-test.false c.loop-key.invariant
