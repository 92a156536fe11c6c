use Rattle.std.proofs.Common.{◌∷◌, [], ap, sym, subst, ◌∙◌}
use Rattle.vec_steps.specs.Desks.{Desk}
use Rattle.vec_steps.specs.Faults.{op_fault}
use Rattle.vec_steps.proofs.Following.{goes_nowhere, goes_then}
use Rattle.layer_search.specs.Telling.{OverSpots}
use Rattle.layer_search.specs.Looking.{EndedBy}
use Rattle.layer_search.proofs.Looks.{ended_first, ended_then, fails}
use Rattle.layer_search.proofs.Turns.{none_over}
use Rattle.hnsw_scan.specs.Answering.{given_in}
use Rattle.hnsw_scan.specs.Gathering.{TakesRows}
use Rattle.hnsw_scan.proofs.Again.{rows_none, rows_then}
use Rattle.hnsw_scan.proofs.taking.take_rows.Goals as goal

pub loop-taken-init : goal.loop-taken-init
loop-taken-init g c = record {
  goes = goes_nowhere g.met.S.Steps.comes_itself c.args.steps.now (λ base o. o.stood);
  bits = c.in_ok-told.ensures.bits ∙ ap (λ p. p.bits) c.params-params.ensures;
  so_far = subst (λ l. TakesRows (OverSpots (g.S.Steps.stands c.args.steps.now) (g.S.Steps.seen c.args.steps.now) 0 []) (g.S.Steps.desk c.args.steps.now)
      (g.S.Steps.seen c.args.steps.now) (g.S.Steps.seen c.args.steps.now) c.args.trace.now.reads c.args.trace.now.reads
      (g.S.Steps.desk c.args.steps.now).params.ops c.args.query.now [] [] (given_in l)) (sym c.new-answers.ensures)
      (rows_none (g.S.Steps.seen c.args.steps.now) c.args.trace.now.reads (g.S.Steps.desk c.args.steps.now).params.ops c.args.query.now);
}

pub loop-taken-preserved : goal.loop-taken-preserved
loop-taken-preserved g c =
    let so = c.loop-taken.invariant in
    let S = g.S.Steps in
    let now = c.loop-taken.steps in
    let p = c.taken-item.result in
    record {
      goes = goes_then g.met.S.Steps.comes_on (none_over so.goes.still_stands) so.goes c.in_ok-take_one.ensures.goes;
      bits = c.in_ok-take_one.ensures.bits ∙ ap (λ (d : Desk). d.params.bits) so.goes.stays;
      so_far = rows_then (S.desk c.args.steps.now).params.ops c.args.query.now c.args.batch.now c.loop-taken.taken-index p [] (given_in c.loop-taken.answers)
          (given_in c.take_one.new.answers) c.loop-taken-test.true c.taken-item.is so.goes.stays (none_over so.goes.still_stands) so.so_far
          (subst (λ (d : Desk). TakesRows (OverSpots (S.stands now) (S.seen now) 0 []) (S.desk now) (S.seen now) (S.seen c.take_one.new.steps)
          c.loop-taken.trace.reads c.take_one.new.trace.reads d.params.ops c.args.query.now (p ∷ []) (given_in c.loop-taken.answers)
          (given_in c.take_one.new.answers)) so.goes.stays c.in_ok-take_one.ensures.ok);
    }

pub returns-in_err-take_one-clause-err : goal.returns-in_err-take_one-clause-err
returns-in_err-take_one-clause-err g c =
    let so = c.loop-taken.invariant in
    let over = OverSpots (g.S.Steps.stands c.args.steps.now) (g.S.Steps.seen c.args.steps.now) 0 [] in
    fails c.from_residual-in_err-take_one.result
    (λ e is. subst (EndedBy over (g.S.Steps.desk c.args.steps.now) (g.S.Steps.seen c.args.steps.now) (g.S.Steps.seen c.take_one.new.steps)) (sym is)
    (ended_then so.goes.stays (none_over so.goes.still_stands) so.so_far.made c.in_err-take_one.ensures.err))
    c.from_residual-in_err-take_one.ensures.1

pub returns-in_err-take_one-clause-goes : goal.returns-in_err-take_one-clause-goes
returns-in_err-take_one-clause-goes g c =
    let so = c.loop-taken.invariant in
    goes_then g.met.S.Steps.comes_on (none_over so.goes.still_stands) so.goes c.in_err-take_one.ensures.goes

pub returns-in_err-told-clause-err : goal.returns-in_err-told-clause-err
returns-in_err-told-clause-err g c =
    fails c.from_residual.result (λ e is. ended_first (g.S.Steps.seen c.args.steps.now) e (is ∙ ap op_fault c.in_err-told.ensures.memory))
    c.from_residual.ensures.1
