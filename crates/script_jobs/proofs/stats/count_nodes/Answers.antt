use Rattle.std.proofs.Common.{◌∙◌, ap}
use Rattle.vec_steps.specs.Faults.{op_fault}
use Rattle.vec_steps.specs.Index.{Index}
use Rattle.vec_steps.proofs.Following.{does_so_over, goes_over}
use Rattle.layer_search.proofs.Looks.{ended_first, ended_over, fails}
use Rattle.hnsw_insert.proofs.Lasts.{nodes_of}
use Rattle.script_jobs.proofs.Looked.{err_as, ok_as}
use Rattle.script_jobs.proofs.stats.count_nodes.Goals as goal

pub returns-in_err-told-clause-err : goal.returns-in_err-told-clause-err
returns-in_err-told-clause-err g c =
    fails c.from_residual.result (λ e is. ended_first (g.S.Steps.seen c.args.steps.now) e (is ∙ ap op_fault c.in_err-told.ensures.memory)) c.from_residual.ensures.1

pub returns-clause-goes : goal.returns-clause-goes
returns-clause-goes g c =
    let s0 = c.args.steps.now in
    goes_over (λ base st. nodes_of (g.S.Steps.desk s0).params c.requires.nodes base (g.met.S.Steps.index s0 base st) st) c.count_graph.ensures.goes

pub returns-clause-ok : goal.returns-clause-ok
returns-clause-ok g c =
    let s0 = c.args.steps.now in
    let on = λ (base : Index) (st : g.S.Steps.stands s0 base). nodes_of (g.S.Steps.desk s0).params c.requires.nodes base (g.met.S.Steps.index s0 base st) st in
    ok_as c.count_graph.result (λ counts so. record { looked = does_so_over on so.looked; exact = λ h st same. so.exact h (on _ st) same }) c.count_graph.ensures.ok

pub returns-clause-err : goal.returns-clause-err
returns-clause-err g c =
    let s0 = c.args.steps.now in
    err_as c.count_graph.result
    (λ e ends. ended_over (λ base st. nodes_of (g.S.Steps.desk s0).params c.requires.nodes base (g.met.S.Steps.index s0 base st) st) ends) c.count_graph.ensures.err
