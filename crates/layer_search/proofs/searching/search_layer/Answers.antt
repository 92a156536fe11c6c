use Rattle.std.proofs.Common.{◌∙◌, subst}
use Rattle.graph_search.specs.Descent.{start_at}
use Rattle.graph_search.specs.Search.{LayerSearch}
use Rattle.graph_search.proofs.WhereFrom.{result_exact}
use Rattle.vec_names.specs.declared.params.Params.{Params}
use Rattle.layer_search.proofs.Looks.{ended_first, fails}
use Rattle.layer_search.proofs.searching.search_layer.Goals as goal

pub returns-in_err-work-clause-err : goal.returns-in_err-work-clause-err
returns-in_err-work-clause-err g c =
    fails c.from_residual.result (λ e is. ended_first (g.S.Steps.seen c.args.steps.now) e (is ∙ c.in_err-work.ensures.memory)) c.from_residual.ensures.1

pub returns-clause-exact : goal.returns-clause-exact
returns-clause-exact g c =
    λ exact.
    let s = start_at (g.S.Steps.desk c.args.steps.now).params.ops c.args.query.now c.args.from.now c.args.layer in
    let so = c.in_ok-found.ensures.ok in
    result_exact s c.args.ef so.reads c.in_ok-found.found exact
    (subst (λ (p : Params). LayerSearch (start_at p.ops c.args.query.now c.args.from.now c.args.layer) c.args.ef so.reads c.in_ok-found.found)
    c.params-params.ensures so.search)
