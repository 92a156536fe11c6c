use Rattle.std.proofs.Common.{◌≡◌, ◌+◌, ◌∷◌, ◌++◌, [], List, take, sym, ap, subst, ◌∙◌, arith}
use Rattle.std.proofs.lemmas.List.{take_more}
use Rattle.vec_history.specs.declared.event.Act.{Act}
use Rattle.graph_judge.specs.Course.{AreStates}
use Rattle.graph_judge.proofs.audit.states_of.Goals as goal

pub loop-k-preserved : goal.loop-k-preserved
loop-k-preserved c =
    let acts = c.args.acts.now in
    let k = c.loop-k.k in
    let act = c.index-acts-k.result in
    let more : take (k + 1) acts ≡ take k acts ++ act ∷ [] =
    take_more acts k act (omega arith) ∙ ap (λ (a : Act). take k acts ++ a ∷ []) (sym c.index-acts-k.is) in
    subst (λ (h : List Act). AreStates c.args.base.now h c.add_state.new.states.items) (sym more) c.in_ok-add_state.ensures
