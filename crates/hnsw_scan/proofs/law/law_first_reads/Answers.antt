use Rattle.hnsw_scan.proofs.Unharmed.{unharmed}
use Rattle.vec_steps.specs.Index.{OfNodes}
use Rattle.hnsw_scan.proofs.law.law_first_reads.Goals as goal

pub returns : goal.returns
returns g c = λ spots new positions ops query ef given h last b base o sound legal.
    unharmed b.made base o (g.met.S.Steps.shaped c.args.steps.now (OfNodes base) o.stood) sound legal ops query ef given _ b.standing b.batch
