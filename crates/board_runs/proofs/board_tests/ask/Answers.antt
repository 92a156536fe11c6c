use Rattle.std.proofs.Common.{ap, ◌∙◌}
use Rattle.vec_steps.specs.Desks.{Desk}
use Rattle.board_runs.proofs.board_tests.ask.Goals as goal

pub returns-clause-of_four : goal.returns-clause-of_four
returns-clause-of_four c = ap (λ (d : Desk). d.params.bits) (c.serve.ensures.desk 0) ∙ c.requires.of_four
