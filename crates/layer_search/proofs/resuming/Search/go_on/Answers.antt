use Rattle.std.proofs.Common.{◌≡◌, [], Some, true, ap, subst, sym, ◌∙◌}
use Rattle.vec_names.specs.declared.params.Params.{Params}
use Rattle.graph_search.specs.Descent.{start_at}
use Rattle.graph_search.specs.Scan.{is_over}
use Rattle.graph_search.specs.ByHolding.{after_turns}
use Rattle.search_sets.specs.Standing.{held, known_earlier, wanted}
use Rattle.vec_steps.proofs.Following.{goes_over}
use Rattle.layer_search.specs.Telling.{OverSpots, spots_held}
use Rattle.layer_search.specs.Looking.{EndedBy}
use Rattle.layer_search.specs.Running.{GoesOnSo}
use Rattle.layer_search.specs.Resuming.{AreExactHeld, FirstTurns}
use Rattle.layer_search.proofs.Exactness.{earlier_exact, same_exact, turns_exact}
use Rattle.layer_search.proofs.Looks.{ended_first, ended_over, fails}
use Rattle.layer_search.proofs.Marks.{earlier_steady}
use Rattle.layer_search.proofs.Steadiness.{steady_same}
use Rattle.layer_search.proofs.Taking.{first_turns, marked_over, on_from}
use Rattle.layer_search.proofs.resuming.Search.go_on.Goals as goal

pub returns-in_err-room-clause-err : goal.returns-in_err-room-clause-err
returns-in_err-room-clause-err g c =
    fails c.from_residual.result (λ e is. ended_first (g.S.Steps.seen c.args.steps.now) e (is ∙ c.in_err-room.ensures.memory)) c.from_residual.ensures.1

pub returns-in_err-begin_batch-clause-err : goal.returns-in_err-begin_batch-clause-err
returns-in_err-begin_batch-clause-err g c =
    fails c.from_residual-in_err-begin_batch.result (λ e is. ended_first (g.S.Steps.seen c.args.steps.now) e is)
    c.from_residual-in_err-begin_batch.ensures.1

pub go_on-requires-clause-ready : goal.go_on-requires-clause-ready
go_on-requires-clause-ready g c =
    let bits = (g.S.Steps.desk c.args.steps.now).params.bits in
    let h = held c.args.self.now.frontier in
    record {
      whole = c.in_ok-begin_batch.ensures.whole;
      steady = steady_same bits (held c.begin_batch.new.frontier) (known_earlier h) c.in_ok-begin_batch.ensures.earlier
          (earlier_steady bits h c.requires.ready.steady);
    }

pub returns-in_err-go_on-clause-goes : goal.returns-in_err-go_on-clause-goes
returns-in_err-go_on-clause-goes g c =
    goes_over (marked_over (held c.begin_batch.new.frontier) (held c.args.self.now.frontier) c.in_ok-begin_batch.ensures.earlier) c.in_err-go_on.ensures.goes

pub returns-in_err-go_on-clause-err : goal.returns-in_err-go_on-clause-err
returns-in_err-go_on-clause-err g c =
    let h = held c.args.self.now.frontier in
    let over = OverSpots (g.S.Steps.stands c.args.steps.now) (g.S.Steps.seen c.args.steps.now) c.args.self.now.layer (spots_held h) in
    fails c.from_residual-in_err-go_on.result
    (λ e is. subst (EndedBy over (g.S.Steps.desk c.args.steps.now) (g.S.Steps.seen c.args.steps.now) (g.S.Steps.seen c.go_on.new.steps)) (sym is)
    (ended_over (marked_over (held c.begin_batch.new.frontier) h c.in_ok-begin_batch.ensures.earlier) c.in_err-go_on.ensures.err))
    c.from_residual-in_err-go_on.ensures.1

pub returns-clause-goes : goal.returns-clause-goes
returns-clause-goes g c =
    goes_over (marked_over (held c.begin_batch.new.frontier) (held c.args.self.now.frontier) c.in_ok-begin_batch.ensures.earlier) c.in_ok-go_on.ensures.goes

pub returns-clause-told : goal.returns-clause-told
returns-clause-told g c =
    λ base o. c.in_ok-go_on.ensures.told base
    (marked_over (held c.begin_batch.new.frontier) (held c.args.self.now.frontier) c.in_ok-begin_batch.ensures.earlier base o)

pub returns-clause-exact : goal.returns-clause-exact
returns-clause-exact g c =
    let h = held c.args.self.now.frontier in
    let b = held c.begin_batch.new.frontier in
    let j = held c.go_on.new.frontier in
    let query = c.args.query.now in
    let on = c.in_ok-go_on.ensures.ok in
    let s = start_at c.params-params.result.ops query [] c.args.self.now.layer in
    subst (λ (p : Params). AreExactHeld p.ops query h → AreExactHeld p.ops query j) c.params-params.ensures
    (λ exact. same_exact s.ops query j (after_turns s on.turns b) on.left
    (turns_exact s on.turns b (same_exact s.ops query b (known_earlier h) c.in_ok-begin_batch.ensures.earlier (earlier_exact s.ops query h exact))))

pub returns-clause-ok : goal.returns-clause-ok
returns-clause-ok g c =
    λ from.
    let S = g.S.Steps in
    let h = held c.args.self.now.frontier in
    let b = c.begin_batch.new.frontier in
    let j = c.go_on.new.frontier in
    let query = c.args.query.now in
    let layer = c.args.self.now.layer in
    let over = OverSpots (S.stands c.args.steps.now) (S.seen c.args.steps.now) layer (spots_held h) in
    subst (λ (p : Params). GoesOnSo over (S.desk c.args.steps.now) (S.seen c.args.steps.now) (S.seen c.go_on.new.steps) c.args.trace.now.reads
    c.go_on.new.trace.reads (start_at p.ops query from layer) c.args.ef (Some c.args.max) (known_earlier h) (held j)) c.params-params.ensures
    (on_from c.params-params.result.ops query from layer (wanted b) c.args.ef (Some c.args.max) (held b) (held j) (known_earlier h)
    c.in_ok-begin_batch.ensures.earlier c.in_ok-begin_batch.ensures.wanted (marked_over (held b) h c.in_ok-begin_batch.ensures.earlier)
    c.in_ok-go_on.ensures.ok)

pub returns-clause-first : goal.returns-clause-first
returns-clause-first g c =
    λ from begun large.
    let S = g.S.Steps in
    let h = held c.args.self.now.frontier in
    let b = c.begin_batch.new.frontier in
    let j = c.go_on.new.frontier in
    let query = c.args.query.now in
    let layer = c.args.self.now.layer in
    let over = OverSpots (S.stands c.args.steps.now) (S.seen c.args.steps.now) layer (spots_held h) in
    let ended : is_over c.args.ef (Some c.args.max) (held j) ≡ true =
    ap (λ n. is_over n (Some c.args.max) (held j)) (sym (c.in_ok-go_on.ensures.wanted ∙ c.in_ok-begin_batch.ensures.wanted))
    ∙ c.in_ok-go_on.ensures.over in
    subst (λ (p : Params). FirstTurns over (S.desk c.args.steps.now) (S.seen c.args.steps.now) (S.seen c.go_on.new.steps) c.args.trace.now.reads
    c.go_on.new.trace.reads (start_at p.ops query from layer) c.args.ef (held j)) c.params-params.ensures
    (first_turns c.params-params.result.ops query from layer c.args.ef c.args.max h (held j) begun ended c.in_ok-go_on.ensures.ready.whole.few large
    (on_from c.params-params.result.ops query from layer (wanted b) c.args.ef (Some c.args.max) (held b) (held j) (known_earlier h)
    c.in_ok-begin_batch.ensures.earlier c.in_ok-begin_batch.ensures.wanted (marked_over (held b) h c.in_ok-begin_batch.ensures.earlier)
    c.in_ok-go_on.ensures.ok))
