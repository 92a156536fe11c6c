use Rattle.std.proofs.Common.{sym, eq-eqb}
use Rattle.std.proofs.lemmas.Bool.{eqb-true}
use Rattle.ask_judge.proofs.AskedNodes.{level_by}
use Rattle.ask_judge.proofs.asking.stands_so.Goals as goal

pub returns : goal.returns
returns c =
    let by = level_by c.args.graph.now c.args.owner.at c.args.owner.list_at c.args.owner.level c.in-Some.node.now (sym c.in-Some.ensures)
    (c.are_same.ensures.0 c.if-not-are_same.false) in
    (λ t. by.0 (eqb-true _ _ t), λ s. eq-eqb _ _ (by.1 s))
