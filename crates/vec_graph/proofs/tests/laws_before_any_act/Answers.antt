use Rattle.vec_graph.proofs.Placing.{none_on_empty}
use Rattle.vec_graph.proofs.tests.laws_before_any_act.Goals as goal

pub law_places-requires : goal.law_places-requires
law_places-requires c = λ at n is. absurd (none_on_empty c.empty-base.result.nodes c.empty-base.ensures.no_nodes at n is)

pub law_asked-requires : goal.law_asked-requires
law_asked-requires c = λ at n is. absurd (none_on_empty c.empty-base.result.nodes c.empty-base.ensures.no_nodes at n is)
