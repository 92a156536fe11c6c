use Rattle.worked_rows.proofs.NoGate.{none_of_three}
use Rattle.worked_rows.proofs.resting.none_held.Goals as goal

pub returns : goal.returns
returns c =
    none_of_three c.args.acts.now 0 c.holds.result c.holds-2.result c.holds-3.result c.if-holds.false c.if-holds-2.false c.holds.ensures
    c.holds-2.ensures c.holds-3.ensures
