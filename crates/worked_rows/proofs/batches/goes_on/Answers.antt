use Rattle.std.proofs.Common.{sym, subst}
use Rattle.vec_steps.specs.Desks.{Desk}
use Rattle.vec_steps.specs.Calls.{HoldsNone}
use Rattle.worked_rows.proofs.batches.goes_on.Goals as goal

pub returns-clause-gates : goal.returns-clause-gates
returns-clause-gates g c =
    subst (λ (d : Desk). HoldsNone (g.S.Steps.seen c.next.new.steps) d.number) (sym c.in_ok-batch.ensures.goes.stays)
    c.in_ok-batch.ensures.free
