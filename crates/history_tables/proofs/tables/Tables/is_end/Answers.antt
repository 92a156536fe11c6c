use Rattle.std.proofs.Common.{subst}
use Rattle.vec_history.specs.declared.event.Event.{Event}
use Rattle.history_tables.specs.Telling.{IsToldEnd}
use Rattle.history_tables.proofs.Noting.{end_told}
use Rattle.history_tables.proofs.tables.Tables.is_end.Goals as goal

pub returns-in-Ungate-clause-told : goal.returns-in-Ungate-clause-told
returns-in-Ungate-clause-told c = rw c.in-Ungate.is c.is_held.ensures

pub returns-in-Ungate-clause-ends : goal.returns-in-Ungate-clause-ends
returns-in-Ungate-clause-ends c = λ acts tells ends.
    let told = end_told c.args.self.now acts c.args.desk c.args.event.now tells.held tells.phase ends in
    c.is_held.ensures.1 (subst (λ (e : Event). IsToldEnd c.args.self.now c.args.desk e) c.in-Ungate.is told)
