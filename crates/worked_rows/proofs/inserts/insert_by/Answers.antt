use Rattle.std.proofs.Common.{subst, sym}
use Rattle.vec_history.specs.declared.gate.Gate.TheVariants.{Update}
use Rattle.vec_steps.specs.Desks.{Desk}
use Rattle.vec_steps.specs.Calls.{HoldsNone}
use Rattle.worked_rows.proofs.NoGate.{none_after}
use Rattle.worked_rows.proofs.inserts.insert_by.Goals as goal

pub insert-requires-clause-free : goal.insert-requires-clause-free
insert-requires-clause-free g c = c.requires.gates Update

pub returns : goal.returns
returns g c =
    let S = g.S.Steps in
    let after = c.in_ok-insert.ensures in
    record {
      gates = subst (λ (d : Desk). HoldsNone (S.seen c.insert.new.steps) d.number) (sym after.goes.stays)
          (none_after (S.desk c.args.steps.now).number (S.seen c.args.steps.now) (S.seen c.insert.new.steps) c.requires.gates after.free after.others);
    }
