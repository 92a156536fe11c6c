use Rattle.std.proofs.Common.{sym}
use Rattle.graph_judge.proofs.CleanNodes.{clean_by_node}
use Rattle.graph_judge.proofs.cleaning.is_clean_at.Goals as goal

pub returns-in-Some : goal.returns-in-Some
returns-in-Some c =
    let by_node = clean_by_node c.args.graph.now c.args.at c.args.layer c.in-Some.node.now (sym c.in-Some.ensures) in
    (λ t. by_node.0 (c.are_members_clean.ensures.0 t), λ clean. c.are_members_clean.ensures.1 (by_node.1 clean))
