use Rattle.vec_history.proofs.ByActs.{cut, more, allowed_at}
use Rattle.vec_history.proofs.law.law_cut.Goals as goal

pub returns-clause-cut : goal.returns-clause-cut
returns-clause-cut g c = λ n. cut _ c.args.acts.now n c.requires

pub returns-clause-each : goal.returns-clause-each
returns-clause-each g c = λ n a is. allowed_at _ c.args.acts.now n a c.requires is

pub returns-clause-one_more : goal.returns-clause-one_more
returns-clause-one_more g c = λ a may. more _ c.args.acts.now a c.requires may
