use Rattle.std.proofs.Common.{sym, subst}
use Rattle.vec_run.specs.declared.end.End.{End}
use Rattle.vec_run.specs.declared.top.Verb.{Verb}
use Rattle.vec_run.specs.declared.top.Verb.TheVariants.{Exact}
use Rattle.vec_run.specs.Verbs.{IsEndOf}
use Rattle.vec_run.proofs.top.run_verb.Goals as goal

pub returns-in-Exact-clause-end : goal.returns-in-Exact-clause-end
returns-in-Exact-clause-end g c =
    let left = g.S.Source.left c.args.source.now in
    let left' = g.S.Source.left c.run_exact-end.new.source in
    let held = g.K.Sink.held c.args.sink.now in
    let held' = g.K.Sink.held c.run_exact-end.new.sink in
    let i = c.idle in
    subst (λ (v : Verb). IsEndOf v left left' held held' i.result.audit i.result.room i.result.end) (sym c.in-Exact.is)
    (subst (λ (e : End). IsEndOf Exact left left' held held' i.result.audit i.result.room e) (sym i.ensures.end)
    (c.run_exact-end.ensures.end i.result.audit i.result.room i.ensures.audit))
