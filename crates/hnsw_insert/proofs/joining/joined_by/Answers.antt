use Rattle.hnsw_insert.proofs.Joins.{join_done, join_refused}
use Rattle.hnsw_insert.proofs.joining.joined_by.Goals as goal

pub returns-in-Done : goal.returns-in-Done
returns-in-Done c = join_done c.args.word c.in-Done.is

pub returns-in_default : goal.returns-in_default
returns-in_default c = join_refused c.args.word c.in_default.not-Done
