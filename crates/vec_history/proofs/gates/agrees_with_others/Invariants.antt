use Rattle.vec_history.proofs.Scans.{EachBelow}
use Rattle.vec_history.proofs.GateHolds.{OthersAgree}
use Rattle.vec_history.proofs.gates.agrees_with_others.Given as goal

abbrev pub invariant-loop-act : goal.invariant-loop-act
invariant-loop-act l = EachBelow (OthersAgree l.acts l.desk l.gate l.hold) l.acts l.act-index
