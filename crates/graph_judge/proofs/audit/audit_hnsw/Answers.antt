use Rattle.std.proofs.Common.{◌≡◌, ◌+◌, ◌∷◌, ◌++◌, [], List, take, sym, ap, subst, ◌∙◌, arith}
use Rattle.std.proofs.lemmas.List.{take_more}
use Rattle.vec_history.specs.declared.event.Act.{Act}
use Rattle.graph_judge.specs.Course.{AreStates}
use Rattle.vec_graph.specs.Legal.{IsAllowed, IsLegal}
use Rattle.vec_history.proofs.Prefixes.{more_after}
use Rattle.graph_judge.proofs.audit.audit_hnsw.Goals as goal

pub loop-k-preserved : goal.loop-k-preserved
loop-k-preserved c =
    let base = c.args.base.now in
    let acts = c.args.acts.now in
    let k = c.loop-k.k in
    let act = c.index-acts-k.result in
    let more : take (k + 1) acts ≡ take k acts ++ act ∷ [] =
    take_more acts k act (omega arith) ∙ ap (λ (a : Act). take k acts ++ a ∷ []) (sym c.index-acts-k.is) in
    let may = c.is_allowed.ensures.0 c.if-not-is_allowed.false in
    record {
      legal = subst (IsLegal base) (sym more) (more_after (IsAllowed base) [] (take k acts) act c.loop-k.invariant.legal may);
      are_states = subst (λ (h : List Act). AreStates base h c.add_state.new.states.items) (sym more) c.in_ok-add_state.ensures;
    }
