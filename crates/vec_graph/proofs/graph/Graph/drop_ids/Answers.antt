use Rattle.std.proofs.lemmas.Result.{on_ok_weaker}
use Rattle.vec_graph.proofs.Lent.{lent}
use Rattle.vec_graph.specs.Effect.{dropped}
use Rattle.vec_graph.proofs.graph.Graph.drop_ids.Goals as goal

pub returns-in-Some : goal.returns-in-Some
returns-in-Some c =
    on_ok_weaker c.drop_ids.result (λ is. lent c.args.self.now c.args.at (dropped c.args.gone)
    c.get_mut.result c.in-Some.node _ c.drop_ids.new.self c.in-Some.is c.get_mut.ensures.value (c.get_mut.follows.holds c.drop_ids.new.self) is)
    c.drop_ids.ensures
