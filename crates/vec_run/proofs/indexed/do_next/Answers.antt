use Rattle.vec_run.proofs.Running.{stops_fault, stops_full}
use Rattle.vec_run.proofs.indexed.do_next.Goals as goal

pub returns-in-Err-clause-err : goal.returns-in-Err-clause-err
returns-in-Err-clause-err g c =
    let S = g.S.Steps in
    stops_fault (S.stands c.args.steps.now) (S.desk c.args.steps.now) (S.seen c.args.steps.now) (S.seen c.one.new.steps) c.args.command.now
    c.in-Err.fault c.args.done.now c.stop_of.result c.stop_of.ensures c.in-Err.ensures.err

pub returns-clause-err : goal.returns-clause-err
returns-clause-err g c =
    let S = g.S.Steps in
    stops_full (S.stands c.args.steps.now) (S.desk c.args.steps.now) (S.seen c.args.steps.now) (S.seen c.one.new.steps) c.args.line
    c.args.command.now c.in-Ok.both.0 c.in-Ok.both.1 c.args.done.now c.complete.new.self c.in-Ok.ensures.ok
    c.in-Err-complete.ensures.kept_text c.in-Err-complete.ensures.kept_jobs
