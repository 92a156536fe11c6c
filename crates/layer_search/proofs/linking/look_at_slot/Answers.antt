use Rattle.std.proofs.Common.{◌∙◌, ◌∷◌, [], Option, None, sym, subst}
use Rattle.vec_names.specs.declared.tid.Tid.{Tid}
use Rattle.graph_search.specs.Reads.{AtNode}
use Rattle.vec_steps.specs.Telling.{node_told}
use Rattle.layer_search.specs.Linking.{SeesSlot}
use Rattle.layer_search.proofs.Looks.{ended_first, ended_memory, fails, looks_none}
use Rattle.layer_search.proofs.linking.look_at_slot.Goals as goal

pub returns-in_err-see_empty-clause-err : goal.returns-in_err-see_empty-clause-err
returns-in_err-see_empty-clause-err g c = fails c.from_residual.result (λ e is. ended_first (g.S.Steps.seen c.args.steps.now) e is) c.from_residual.ensures.1

pub returns-in_default-clause-ok : goal.returns-in_default-clause-ok
returns-in_default-clause-ok g c = record {
  reads = [];
  made = looks_none (g.S.Steps.seen c.args.steps.now) c.args.trace.now.reads;
  sees = subst (λ (s : Option Tid). SeesSlot c.args.what.0.ops c.args.owner.now c.args.what.0.layer s [] c.args.room.now.seen c.see_empty.new.room.seen)
      (sym c.in_default.is) c.in_ok-see_empty.ensures.seen;
}

pub returns-in_err-see_told-clause-err : goal.returns-in_err-see_told-clause-err
returns-in_err-see_told-clause-err g c =
    fails c.from_residual-in_err-see_told.result (λ e is. ended_memory e is c.in_ok-look_at_node.ensures.ok) c.from_residual-in_err-see_told.ensures.1

pub returns-clause-ok : goal.returns-clause-ok
returns-clause-ok g c =
    let t = c.look_at_node.new.told in
    let reads = (AtNode c.in-Some.at c.args.what.0.layer None, node_told t.word t.list_at t) ∷ [] in
    record {
      reads = reads;
      made = c.in_ok-look_at_node.ensures.ok;
      sees = subst (λ (s : Option Tid). SeesSlot c.args.what.0.ops c.args.owner.now c.args.what.0.layer s reads c.args.room.now.seen c.see_told.new.room.seen)
          (sym c.in-Some.is) c.in_ok-see_told.ensures.seen;
    }

pub returns-in_err-see_told-clause-told : goal.returns-in_err-see_told-clause-told
returns-in_err-see_told-clause-told g c = c.in_err-see_told.ensures.told ∙ c.in_ok-look_at_node.ensures.bits

pub returns-clause-told : goal.returns-clause-told
returns-clause-told g c = c.in_ok-see_told.ensures.told ∙ c.in_ok-look_at_node.ensures.bits
