use Rattle.std.proofs.Common.{List, subst}
use Rattle.vec_history.specs.declared.event.Act.{Act}
use Rattle.vec_steps.specs.Calls.{HoldsNone}
use Rattle.meddled_desk.proofs.tests.rows.rests.Goals as goal

pub returns : goal.returns
returns c = subst (λ (l : List Act). HoldsNone l 0) c.acts.ensures (c.none_held.ensures c.if-not-none_held.false)
