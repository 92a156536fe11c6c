use Rattle.std.proofs.lemmas.Result.{on_ok_weaker}
use Rattle.vec_graph.proofs.Lent.{lent}
use Rattle.vec_graph.specs.Effect.{relisted}
use Rattle.vec_graph.proofs.graph.Graph.relist.Goals as goal

pub returns-in-Some : goal.returns-in-Some
returns-in-Some c =
    on_ok_weaker c.relist.result (λ is. lent c.args.self.now c.args.at (relisted c.args.lists.now)
    c.get_mut.result c.in-Some.node _ c.relist.new.self c.in-Some.is c.get_mut.ensures.value (c.get_mut.follows.holds c.relist.new.self) is)
    c.relist.ensures
