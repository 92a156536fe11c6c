use Rattle.vec_recover.proofs.Judged.{judged_nodes}
use Rattle.vec_recover.proofs.judging.judge_nodes.Goals as goal

pub returns-in-Ok : goal.returns-in-Ok
returns-in-Ok c = judged_nodes c.args.pages.now c.in-Ok.graph c.in-Ok.ensures
