use Rattle.vec_graph.proofs.Lent.{lent}
use Rattle.vec_graph.specs.Effect.{linked}
use Rattle.vec_graph.proofs.graph.Graph.link.Goals as goal

pub returns-in-Some : goal.returns-in-Some
returns-in-Some c =
    lent c.args.self.now c.args.at (linked c.args.slot c.args.to)
    c.get_mut.result c.in-Some.node _ c.link.new.self c.in-Some.is c.get_mut.ensures.value (c.get_mut.follows.holds c.link.new.self) c.link.ensures
