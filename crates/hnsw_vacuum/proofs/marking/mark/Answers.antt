use Rattle.std.proofs.Common.{ap, sym, ◌∙◌, arith, true≢false}
use Rattle.vec_steps.specs.Desks.{Desk}
use Rattle.vec_steps.proofs.Following.{acts_longer, goes_nowhere, goes_then}
use Rattle.hnsw_vacuum.proofs.Stopped.{handed, stops_then}
use Rattle.hnsw_vacuum.proofs.Turns.{last_part, nothing_yet, one_part, whole}
use Rattle.hnsw_vacuum.proofs.Marks.{all_deleted, first_of, next_of, no_nodes, none_left, of_next, one_deleted, rest_of}
use Rattle.hnsw_vacuum.proofs.marking.mark.Goals as goal

pub node-init : goal.node-init
node-init g c = record {
  goes = goes_nowhere g.met.S.Steps.comes_itself c.args.steps.now (λ base o. o.stood);
  told = c.requires.told;
  so_far = nothing_yet (g.S.Steps.seen c.args.steps.now) _ c.args.tally c.requires.going;
  deleted = λ base o. tt;
  may = λ base o. o;
}

pub mark_one-requires : goal.mark_one-requires
mark_one-requires g c = record { told = c.node.invariant.told ∙ ap (λ (d : Desk). d.params.bits) (sym c.node.invariant.goes.stays) }

pub returns-in_err-now-clause-goes : goal.returns-in_err-now-clause-goes
returns-in_err-now-clause-goes g c =
    let so = c.node.invariant in
    goes_then g.met.S.Steps.comes_on (λ base o. first_of so.goes.stays (next_of c.node.k c.args.nodes.now c.index-nodes-k.result (omega (arith, c.node-test.true)) c.index-nodes-k.is) base (so.may base o)) so.goes c.in_err-now.ensures.goes

pub returns-in_err-now-clause-told : goal.returns-in_err-now-clause-told
returns-in_err-now-clause-told g c = c.in_err-now.ensures.told ∙ ap (λ (d : Desk). d.params.bits) c.node.invariant.goes.stays

pub returns-in_err-now-clause-err : goal.returns-in_err-now-clause-err
returns-in_err-now-clause-err g c =
    let so = c.node.invariant in
    handed _ c.from_residual.result
    (stops_then so.goes.stays (λ base o. first_of so.goes.stays (next_of c.node.k c.args.nodes.now c.index-nodes-k.result (omega (arith, c.node-test.true)) c.index-nodes-k.is) base (so.may base o)) so.so_far.made c.in_err-now.ensures.err)
    c.from_residual.ensures.1

pub returns-then-now-clause-goes : goal.returns-then-now-clause-goes
returns-then-now-clause-goes g c =
    let so = c.node.invariant in
    goes_then g.met.S.Steps.comes_on (λ base o. first_of so.goes.stays (next_of c.node.k c.args.nodes.now c.index-nodes-k.result (omega (arith, c.node-test.true)) c.index-nodes-k.is) base (so.may base o)) so.goes c.in_ok-now.ensures.goes

pub returns-then-now-clause-told : goal.returns-then-now-clause-told
returns-then-now-clause-told g c = c.in_ok-now.ensures.told ∙ ap (λ (d : Desk). d.params.bits) c.node.invariant.goes.stays

pub returns-then-now-clause-ok : goal.returns-then-now-clause-ok
returns-then-now-clause-ok g c =
    let so = c.node.invariant in
    last_part so.goes.stays (λ base o. first_of so.goes.stays (next_of c.node.k c.args.nodes.now c.index-nodes-k.result (omega (arith, c.node-test.true)) c.index-nodes-k.is) base (so.may base o)) (of_next (next_of c.node.k c.args.nodes.now c.index-nodes-k.result (omega (arith, c.node-test.true)) c.index-nodes-k.is) so.so_far) c.in_ok-now.ensures.ok c.if-now.true

pub returns-then-now-clause-deleted : goal.returns-then-now-clause-deleted
returns-then-now-clause-deleted g c = λ going base o. absurd (true≢false (sym c.if-now.true ∙ going))

pub node-preserved : goal.node-preserved
node-preserved g c =
    let so = c.node.invariant in
    let next = (next_of c.node.k c.args.nodes.now c.index-nodes-k.result (omega (arith, c.node-test.true)) c.index-nodes-k.is) in
    record {
      goes = goes_then g.met.S.Steps.comes_on (λ base o. first_of so.goes.stays next base (so.may base o)) so.goes c.in_ok-now.ensures.goes;
      told = c.in_ok-now.ensures.told ∙ ap (λ (d : Desk). d.params.bits) so.goes.stays;
      so_far = one_part so.goes.stays (λ base o. first_of so.goes.stays next base (so.may base o)) (of_next next so.so_far) c.in_ok-now.ensures.ok c.if-now.false;
      deleted = λ base o.
          one_deleted (g.S.Steps.seen c.args.steps.now) c.node.k c.args.nodes.now c.index-nodes-k.result (omega (arith, c.node-test.true)) c.index-nodes-k.is so.goes.stays
          (acts_longer so.so_far.made.does.acts) c.in_ok-now.ensures.ok.made.does.acts (so.deleted base o)
          (c.in_ok-now.ensures.deleted c.if-now.false base (first_of so.goes.stays next base (so.may base o)));
      may = λ base o.
          let stood = c.in_ok-now.ensures.goes.still_stands base (first_of so.goes.stays next base (so.may base o)) in
          rest_of so.goes.stays next c.in_ok-now.ensures.ok base stood
          (g.met.S.Steps.shaped c.node.steps base (so.goes.still_stands base o)) (g.met.S.Steps.legal c.mark_one.new.steps base stood) (so.may base o);
    }

pub returns-clause-goes : goal.returns-clause-goes
returns-clause-goes g c = c.node.invariant.goes

pub returns-clause-told : goal.returns-clause-told
returns-clause-told g c = c.node.invariant.told

pub returns-clause-ok : goal.returns-clause-ok
returns-clause-ok g c =
    whole c.node.invariant.so_far (no_nodes _ c.node.now (none_left c.node.k c.args.nodes.now (omega (arith, c.node-test.false))))

pub returns-clause-deleted : goal.returns-clause-deleted
returns-clause-deleted g c = λ going base o.
    all_deleted (g.S.Steps.seen c.args.steps.now) (g.S.Steps.seen c.node.steps) (g.S.Steps.desk c.args.steps.now).number c.node.k c.args.nodes.now (omega (arith, c.node-test.false)) (c.node.invariant.deleted base o)
