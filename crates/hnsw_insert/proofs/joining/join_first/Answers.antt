use Rattle.std.proofs.Common.{◌≤◌, [], length, ap, subst, ◌∙◌, arith}
use Rattle.vec_steps.proofs.Following.{goes_nowhere, goes_then}
use Rattle.vec_steps.specs.Desks.{Desk}
use Rattle.std.proofs.lemmas.List.{drop_all}
use Rattle.hnsw_insert.specs.Over.{OverNodes}
use Rattle.hnsw_insert.specs.Parts.{AsksAt}
use Rattle.hnsw_insert.proofs.Stopped.{handed, stops_then}
use Rattle.hnsw_insert.proofs.Lasts.{nodes_on}
use Rattle.hnsw_insert.proofs.Joins.{asks_begin, asks_ended, asks_held, asks_more, asks_taken}
use Rattle.hnsw_insert.proofs.joining.join_first.Goals as goal

pub loop-k-init : goal.loop-k-init
loop-k-init g c = record {
  goes = goes_nowhere g.met.S.Steps.comes_itself c.args.steps.now (λ base o. o.stood);
  told = c.requires.told;
  so_far = asks_begin (g.S.Steps.seen c.args.steps.now) c.args.id c.args.bits.now c.args.near.now;
}

pub join_at-requires-clause-held : goal.join_at-requires-clause-held
join_at-requires-clause-held g c = asks_held c.loop-k.invariant.goes.stays c.loop-k.invariant.so_far c.requires.held

pub returns-in_err-join_at-clause-err : goal.returns-in_err-join_at-clause-err
returns-in_err-join_at-clause-err g c =
    let so = c.loop-k.invariant in
    let m = so.so_far.made [] in
    handed _ c.from_residual.result
    (stops_then so.goes.stays (λ base o. nodes_on base (so.goes.still_stands base o) o) (λ b k n never. never) m.does m.is.only c.in_err-join_at.ensures.err)
    c.from_residual.ensures.1

pub returns-then-branch-clause-ok : goal.returns-then-branch-clause-ok
returns-then-branch-clause-ok g c =
    let so = c.loop-k.invariant in
    let mid = c.loop-k.steps in
    asks_taken c.args.id c.args.bits.now c.args.near.now c.loop-k.k c.index-near-k.result so.goes.stays (λ base o. nodes_on base (so.goes.still_stands base o) o)
    (omega (arith, c.loop-k-test.true)) c.index-near-k.is so.so_far c.spot_at.result c.spot_at.ensures
    (subst (AsksAt (OverNodes (g.S.Steps.stands mid)) (g.S.Steps.desk mid) (g.S.Steps.seen mid) (g.S.Steps.seen c.join_at.new.steps) c.args.id c.args.bits.now
    c.index-near-k.result) c.if-branch.true c.in_ok-join_at.ensures.ok)

pub loop-k-preserved : goal.loop-k-preserved
loop-k-preserved g c =
    let so = c.loop-k.invariant in
    let mid = c.loop-k.steps in
    record {
      goes = goes_then g.met.S.Steps.comes_on (λ base o. nodes_on base (so.goes.still_stands base o) o) so.goes c.in_ok-join_at.ensures.goes;
      told = c.in_ok-join_at.ensures.told ∙ ap (λ (d : Desk). d.params.bits) so.goes.stays;
      so_far = asks_more c.args.id c.args.bits.now c.args.near.now c.loop-k.k c.index-near-k.result so.goes.stays
          (λ base o. nodes_on base (so.goes.still_stands base o) o) (omega (arith, c.loop-k-test.true)) c.index-near-k.is so.so_far
          (subst (AsksAt (OverNodes (g.S.Steps.stands mid)) (g.S.Steps.desk mid) (g.S.Steps.seen mid) (g.S.Steps.seen c.join_at.new.steps) c.args.id c.args.bits.now
          c.index-near-k.result) c.if-branch.false c.in_ok-join_at.ensures.ok);
    }

pub returns-clause-ok : goal.returns-clause-ok
returns-clause-ok g c =
    let past : length c.args.near.now ≤ c.loop-k.k = omega (arith, c.loop-k-test.false) in
    asks_ended c.args.id c.args.bits.now c.args.near.now _ (drop_all c.loop-k.k c.args.near.now past) c.loop-k.invariant.so_far
