use Rattle.vec_recover.proofs.Judged.{judged_lists}
use Rattle.vec_recover.proofs.judging.judge_lists.Goals as goal

pub returns-in-Ok : goal.returns-in-Ok
returns-in-Ok c = judged_lists c.args.pages.now c.in-Ok.graph c.in-Ok.ensures.0 c.in-Ok.ensures.1
