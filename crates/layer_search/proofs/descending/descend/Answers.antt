use Rattle.std.proofs.Common.{◌∙◌}
use Rattle.layer_search.proofs.Looks.{ended_first, fails}
use Rattle.layer_search.proofs.descending.descend.Goals as goal

pub returns-in_err-work-clause-err : goal.returns-in_err-work-clause-err
returns-in_err-work-clause-err g c =
    fails c.from_residual.result (λ e is. ended_first (g.S.Steps.seen c.args.steps.now) e (is ∙ c.in_err-work.ensures.memory)) c.from_residual.ensures.1
