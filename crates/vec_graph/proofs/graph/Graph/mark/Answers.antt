use Rattle.std.proofs.lemmas.Result.{on_ok_weaker}
use Rattle.vec_graph.proofs.Lent.{lent}
use Rattle.vec_graph.specs.Effect.{marked}
use Rattle.vec_graph.proofs.graph.Graph.mark.Goals as goal

pub returns-in-Some : goal.returns-in-Some
returns-in-Some c =
    on_ok_weaker c.mark.result (λ is. lent c.args.self.now c.args.at (marked c.args.wrap)
    c.get_mut.result c.in-Some.node _ c.mark.new.self c.in-Some.is c.get_mut.ensures.value (c.get_mut.follows.holds c.mark.new.self) is)
    c.mark.ensures
