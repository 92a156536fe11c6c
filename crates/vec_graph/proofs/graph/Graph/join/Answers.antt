use Rattle.std.proofs.lemmas.Result.{on_ok_weaker}
use Rattle.vec_graph.proofs.Lent.{lent}
use Rattle.vec_graph.specs.Effect.{joined}
use Rattle.vec_graph.proofs.graph.Graph.join.Goals as goal

pub returns-in-Some : goal.returns-in-Some
returns-in-Some c =
    on_ok_weaker c.join.result (λ is. lent c.args.self.now c.args.at (joined c.args.id)
    c.get_mut.result c.in-Some.node _ c.join.new.self c.in-Some.is c.get_mut.ensures.value (c.get_mut.follows.holds c.join.new.self) is)
    c.join.ensures
