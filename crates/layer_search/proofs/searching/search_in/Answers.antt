use Rattle.std.proofs.Common.{map, subst, sym, ◌∙◌}
use Rattle.search_sets.specs.Standing.{begun_from, held, spot_of, wanted}
use Rattle.vec_steps.proofs.Following.{does_so_over, goes_over}
use Rattle.layer_search.specs.Telling.{OverSpots}
use Rattle.layer_search.specs.Looking.{EndedBy}
use Rattle.layer_search.proofs.Looks.{ended_first, ended_memory, ended_over, fails}
use Rattle.layer_search.proofs.Steadiness.{steady_begun, steady_same}
use Rattle.layer_search.proofs.Results.{begun_over, ended_apart, ended_long, ended_over as found_over, searches_so}
use Rattle.layer_search.proofs.searching.search_in.Goals as goal

pub returns-in_err-begin-clause-err : goal.returns-in_err-begin-clause-err
returns-in_err-begin-clause-err g c = fails c.from_residual.result (λ e is. ended_first (g.S.Steps.seen c.args.steps.now) e is) c.from_residual.ensures.1

pub go_on-requires-clause-ready : goal.go_on-requires-clause-ready
go_on-requires-clause-ready g c =
    let bits = (g.S.Steps.desk c.args.steps.now).params.bits in
    let from = c.args.from.now in
    record {
      whole = c.in_ok-begin.ensures.whole;
      steady = steady_same bits (held c.begin.new.self) (begun_from from) c.in_ok-begin.ensures.begun (steady_begun bits from c.requires.apart c.requires.long);
    }

pub returns-in_err-go_on-clause-goes : goal.returns-in_err-go_on-clause-goes
returns-in_err-go_on-clause-goes g c =
    goes_over (begun_over c.args.from.now (held c.begin.new.self) c.in_ok-begin.ensures.begun) c.in_err-go_on.ensures.goes

pub returns-in_err-go_on-clause-err : goal.returns-in_err-go_on-clause-err
returns-in_err-go_on-clause-err g c =
    let over = OverSpots (g.S.Steps.stands c.args.steps.now) (g.S.Steps.seen c.args.steps.now) c.args.aim.layer (map spot_of c.args.from.now) in
    fails c.from_residual-in_err-go_on.result
    (λ e is. subst (EndedBy over (g.S.Steps.desk c.args.steps.now) (g.S.Steps.seen c.args.steps.now) (g.S.Steps.seen c.go_on.new.steps)) (sym is)
    (ended_over (begun_over c.args.from.now (held c.begin.new.self) c.in_ok-begin.ensures.begun) c.in_err-go_on.ensures.err))
    c.from_residual-in_err-go_on.ensures.1

pub returns-in_err-found-clause-goes : goal.returns-in_err-found-clause-goes
returns-in_err-found-clause-goes g c =
    goes_over (begun_over c.args.from.now (held c.begin.new.self) c.in_ok-begin.ensures.begun) c.in_ok-go_on.ensures.goes

pub returns-in_err-found-clause-err : goal.returns-in_err-found-clause-err
returns-in_err-found-clause-err g c =
    fails c.from_residual-in_err-found.result
    (λ e is. ended_memory e is
    (does_so_over (begun_over c.args.from.now (held c.begin.new.self) c.in_ok-begin.ensures.begun) c.in_ok-go_on.ensures.ok.made))
    c.from_residual-in_err-found.ensures.1

pub returns-clause-goes : goal.returns-clause-goes
returns-clause-goes g c = goes_over (begun_over c.args.from.now (held c.begin.new.self) c.in_ok-begin.ensures.begun) c.in_ok-go_on.ensures.goes

pub returns-clause-ok : goal.returns-clause-ok
returns-clause-ok g c =
    let f = c.begin.new.self in
    let j = c.go_on.new.frontier in
    searches_so c.args.aim.ops c.args.query.now c.args.from.now c.args.aim.layer c.args.aim.ef (held f) (held j) c.in_ok-found.found (wanted f) (wanted j)
    c.args.aim.most (c.in_ok-begin.ensures.wanted ∙ c.clear.ensures.wanted) c.in_ok-go_on.ensures.wanted c.requires.most c.in_ok-begin.ensures.begun
    (begun_over c.args.from.now (held f) c.in_ok-begin.ensures.begun) c.in_ok-go_on.ensures.ok c.in_ok-go_on.ensures.over c.in_ok-found.ensures

pub returns-clause-apart : goal.returns-clause-apart
returns-clause-apart g c =
    let j = c.go_on.new.frontier in
    ended_apart (wanted j) (held j) c.in_ok-found.found c.in_ok-found.ensures (g.S.Steps.desk c.args.steps.now).params.bits c.in_ok-go_on.ensures.ready.steady

pub returns-clause-long : goal.returns-clause-long
returns-clause-long g c =
    let j = c.go_on.new.frontier in
    ended_long (wanted j) (held j) c.in_ok-found.found c.in_ok-found.ensures (g.S.Steps.desk c.args.steps.now).params.bits c.in_ok-go_on.ensures.ready.steady

pub returns-clause-told : goal.returns-clause-told
returns-clause-told g c =
    let j = c.go_on.new.frontier in
    λ base o. found_over (wanted j) (held j) c.in_ok-found.found c.in_ok-found.ensures base
    (c.in_ok-go_on.ensures.told base (begun_over c.args.from.now (held c.begin.new.self) c.in_ok-begin.ensures.begun base o))
