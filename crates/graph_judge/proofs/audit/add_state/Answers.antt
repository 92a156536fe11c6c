use Rattle.std.proofs.Common.{◌∷◌, ◌++◌, [], List, sym, subst}
use Rattle.vec_graph.specs.declared.graph.Graph.{Graph}
use Rattle.graph_judge.specs.Course.{AreStates}
use Rattle.graph_judge.proofs.GrowingStates.{states_more}
use Rattle.graph_judge.proofs.audit.add_state.Goals as goal

pub returns : goal.returns
returns c =
    let base = c.args.base.now in
    let acts = c.args.acts.now in
    let more = states_more base acts c.args.states.now.items c.args.act.now c.in_ok-next.next c.requires c.in_ok-next.ensures in
    subst (λ (states : List Graph). AreStates base (acts ++ c.args.act.now ∷ []) states) (sym c.in_ok-push.ensures.items) more
