use Rattle.std.proofs.Common.{ap, sym, ◌∙◌, arith}
use Rattle.vec_steps.specs.Desks.{Desk}
use Rattle.vec_steps.proofs.Following.{goes_nowhere, goes_then}
use Rattle.hnsw_vacuum.proofs.Stopped.{handed, stops_then}
use Rattle.hnsw_vacuum.proofs.Marks.{next_of, none_left}
use Rattle.hnsw_vacuum.proofs.Finds.{as_first, looks_none, looks_then, nodes_later, none_more, one_of}
use Rattle.hnsw_vacuum.proofs.seeking.find_all.Goals as goal

pub node-init : goal.node-init
node-init g c = record {
  goes = goes_nowhere g.met.S.Steps.comes_itself c.args.steps.now (λ base o. o.stood);
  told = c.requires.told;
  looks = looks_none (g.S.Steps.seen c.args.steps.now) c.args.trace.now.reads;
  so = λ base bound count o. o;
}

pub find_one-requires : goal.find_one-requires
find_one-requires g c = record { told = c.node.invariant.told ∙ ap (λ (d : Desk). d.params.bits) (sym c.node.invariant.goes.stays) }

pub returns-in_err-find_one-clause-goes : goal.returns-in_err-find_one-clause-goes
returns-in_err-find_one-clause-goes g c =
    let so = c.node.invariant in
    goes_then g.met.S.Steps.comes_on (λ base o. nodes_later base (so.goes.still_stands base o) o) so.goes c.in_err-find_one.ensures.goes

pub returns-in_err-find_one-clause-told : goal.returns-in_err-find_one-clause-told
returns-in_err-find_one-clause-told g c = c.in_err-find_one.ensures.told ∙ ap (λ (d : Desk). d.params.bits) c.node.invariant.goes.stays

pub returns-in_err-find_one-clause-err : goal.returns-in_err-find_one-clause-err
returns-in_err-find_one-clause-err g c =
    let so = c.node.invariant in
    handed _ c.from_residual.result
    (stops_then so.goes.stays (λ base o. nodes_later base (so.goes.still_stands base o) o) so.looks.made c.in_err-find_one.ensures.err)
    c.from_residual.ensures.1

pub node-preserved : goal.node-preserved
node-preserved g c =
    let so = c.node.invariant in
    let one = c.in_ok-find_one.ensures in
    let next = next_of c.node.k c.args.nodes.now c.index-nodes-k.result (omega (arith, c.node-test.true)) c.index-nodes-k.is in
    record {
      goes = goes_then g.met.S.Steps.comes_on (λ base o. nodes_later base (so.goes.still_stands base o) o) so.goes one.goes;
      told = one.told ∙ ap (λ (d : Desk). d.params.bits) so.goes.stays;
      looks = looks_then so.goes.stays (λ base o. nodes_later base (so.goes.still_stands base o) o) so.looks one.ok;
      so = λ base bound count o. as_first so.goes.stays base (one.so base bound count _ (one_of so.goes.stays next base (so.so base bound count o)));
    }

pub returns-clause-goes : goal.returns-clause-goes
returns-clause-goes g c = c.node.invariant.goes

pub returns-clause-told : goal.returns-clause-told
returns-clause-told g c = c.node.invariant.told

pub returns-clause-ok : goal.returns-clause-ok
returns-clause-ok g c = c.node.invariant.looks

pub returns-clause-so : goal.returns-clause-so
returns-clause-so g c = λ base bound count o.
    none_more (none_left c.node.k c.args.nodes.now (omega (arith, c.node-test.false))) base (c.node.invariant.so base bound count o)
