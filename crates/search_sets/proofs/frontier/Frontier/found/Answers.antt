use Rattle.search_sets.proofs.HeldSo.{copied_all, copied_more}
use Rattle.search_sets.proofs.frontier.Frontier.found.Goals as goal

pub loop-key-preserved : goal.loop-key-preserved
loop-key-preserved c =
    copied_more c.args.self.now c.requires c.wanted-key-items.result.now c.wanted-key-items.ensures c.loop-key.key-index c.key-item.result
    c.as_slice.result.now c.index-as_slice-key.result c.in_ok-copy_of.field-0 c.loop-key.found c.push.new.self c.loop-key-test.true c.key-item.is
    c.as_slice.ensures c.index-as_slice-key.is c.in_ok-copy_of.ensures c.in_ok-push.ensures.ok c.loop-key.invariant

pub returns : goal.returns
returns c =
    copied_all c.args.self.now c.requires c.wanted-key-items.result.now c.wanted-key-items.ensures c.loop-key.key-index c.loop-key.found
    c.loop-key-test.false c.loop-key.invariant
