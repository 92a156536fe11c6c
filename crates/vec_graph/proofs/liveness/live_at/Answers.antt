use Rattle.std.proofs.Common.{◌≤◌, sym, arith}
use Rattle.std.proofs.lemmas.Bool.Decides.{nat_tests}
use Rattle.vec_graph.proofs.NodeWords.{live_by_node}
use Rattle.vec_graph.proofs.liveness.live_at.Goals as goal

pub returns-then-is_live : goal.returns-then-is_live
returns-then-is_live c =
    let by_node = live_by_node c.args.graph.now c.args.at c.args.layer c.in-Some.node.now (sym c.in-Some.ensures) in
    let there = c.is_live.ensures.0 c.if-is_live.true in
    (λ t. by_node.0 (there, grind (arith, nat_tests)), λ d. let low : c.args.layer ≤ c.in-Some.node.now.level = (by_node.1 d).1 in grind (arith, nat_tests))
