use Rattle.graph_search.proofs.RowsRead.{first_read, next_read}
use Rattle.graph_search.proofs.Presence.{present}
use Rattle.graph_search.proofs.law.law_batches.Goals as goal

pub returns-clause-first : goal.returns-clause-first
returns-clause-first c = first_read

pub returns-clause-next : goal.returns-clause-next
returns-clause-next c = next_read

pub returns-clause-present : goal.returns-clause-present
returns-clause-present c = λ base acts ops query ps reads e. present base acts ops query ps reads e
