use Rattle.std.proofs.Common.{◌∙◌, sym}
use Rattle.hnsw_insert.proofs.Joins.{asked_at}
use Rattle.hnsw_insert.proofs.joining.join_at.Goals as goal

pub returns-clause-ok : goal.returns-clause-ok
returns-clause-ok g c =
    asked_at c.args.id c.args.bits.now c.args.element.now c.spot_at.result c.in_ok-joined.joined c.spot_at.ensures (sym c.may_join.ensures ∙ c.if-not-may_join.false) c.in_ok-joined.ensures.ok
