use Rattle.vec_steps.specs.Telling.{node_told}
use Rattle.hnsw_vacuum.proofs.Stopped.{handed}
use Rattle.hnsw_vacuum.proofs.Glances.{tells}
use Rattle.hnsw_vacuum.proofs.seeking.look_for_doomed.Goals as goal

pub returns-in_err-look_at_node-clause-err : goal.returns-in_err-look_at_node-clause-err
returns-in_err-look_at_node-clause-err g c = handed _ c.from_residual.result c.in_err-look_at_node.ensures.err c.from_residual.ensures.1

pub returns-clause-ok : goal.returns-clause-ok
returns-clause-ok g c = record { told = _; looks = c.in_ok-look_at_node.ensures.ok; is = c.doomed_of-node.ensures }

pub returns-clause-tells : goal.returns-clause-tells
returns-clause-tells g c = λ base o.
    tells (g.S.Steps.seen c.look_at_node.new.steps) (node_told c.look_at_node.new.told.word c.look_at_node.new.told.list_at c.look_at_node.new.told)
    c.args.at c.doomed_of-node.result base c.doomed_of-node.ensures (c.in_ok-look_at_node.ensures.is base o)
