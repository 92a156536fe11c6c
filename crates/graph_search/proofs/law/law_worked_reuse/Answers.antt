use Rattle.graph_search.proofs.WorkedBatches.{reuse_batch}
use Rattle.graph_search.proofs.law.law_worked_reuse.Goals as goal

pub returns : goal.returns
returns c = reuse_batch
