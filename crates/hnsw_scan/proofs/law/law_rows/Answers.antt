use Rattle.std.proofs.Common.{◌≡◌, ap, subst, sym, ◌∙◌}
use Rattle.graph_search.specs.Descent.{start_at}
use Rattle.graph_search.specs.Scan.{IsRowRead, Standing}
use Rattle.graph_search.specs.Search.{Start}
use Rattle.graph_search.proofs.RowsRead.{first_read, next_read}
use Rattle.hnsw_scan.proofs.Sight.{gated_reads, row_answered}
use Rattle.hnsw_scan.proofs.law.law_rows.Goals as goal

pub returns-clause-read : goal.returns-clause-read
returns-clause-read g c = λ spots new positions reads m base o. gated_reads m base o

pub returns-clause-first : goal.returns-clause-first
returns-clause-first g c = λ spots new positions ops query ef given h last b base o i row is.
    row_answered base new ops query positions b.reads row (gated_reads b.made base o)
    (first_read ops query ef b.reads given _ b.standing b.batch i row is)

pub returns-clause-next : goal.returns-clause-next
returns-clause-next g c = λ spots new positions ops query ef max mode stood given end h last b base o i row is.
    let same : stood.start ≡ start_at ops query b.standing.start.from 0 =
    sym (ap (λ (s : Standing). s.start) b.batch.now_is) ∙ b.stands.start_is in
    row_answered base new ops query positions b.reads row (gated_reads b.made base o)
    (subst (λ (s : Start). IsRowRead s.ops s.query b.reads row) same
    (next_read ef max mode stood b.reads given end b.standing b.batch i row is))
