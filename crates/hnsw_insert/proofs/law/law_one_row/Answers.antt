use Rattle.hnsw_insert.proofs.OneRow.{one_row}
use Rattle.hnsw_insert.proofs.law.law_one_row.Goals as goal

pub returns : goal.returns
returns g c = λ old new id bits word inserted ins. one_row id bits word inserted ins
