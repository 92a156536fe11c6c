use Rattle.std.proofs.Common.{sym, eq-eqb}
use Rattle.std.proofs.lemmas.Bool.{eqb-true}
use Rattle.graph_judge.proofs.AllowedNodes.{level_by}
use Rattle.graph_judge.proofs.node_rules.has_level.Goals as goal

pub returns-in-Some : goal.returns-in-Some
returns-in-Some c =
    let by = level_by c.args.graph.now c.args.at c.args.level c.in-Some.node.now (sym c.in-Some.ensures) in
    (λ t. by.0 (eqb-true _ _ t), λ has. eq-eqb _ _ (by.1 has))
