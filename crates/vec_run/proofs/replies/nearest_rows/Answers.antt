use Rattle.vec_run.proofs.AnswerSteps.{nearest_is, hits_more, hits_whole}
use Rattle.vec_run.proofs.replies.nearest_rows.Goals as goal

pub loop-command-preserved : goal.loop-command-preserved
loop-command-preserved c =
    hits_more c.args.value.now c.args.above.now c.loop-command.command-index c.command-item.result c.loop-command.hits.items c.push_hit.new.hits.items
    c.loop-command-test.true c.command-item.is c.loop-command.invariant c.in_ok-push_hit.ensures

pub returns : goal.returns
returns c = nearest_is c.args.value.now c.args.above.now c.loop-command.hits.items c.sort.new.self.items
    (hits_whole c.args.value.now c.args.above.now c.loop-command.command-index c.loop-command.hits.items c.loop-command-test.false c.loop-command.invariant) c.in_ok-sort.ensures.sorted c.in_ok-sort.ensures.stable
