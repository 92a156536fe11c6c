use Rattle.std.proofs.Common.{◌<◌, ◌^◌, Bool, [], List, flat_map, lit<, map, ap, subst, sym, ◌∙◌}
use Rattle.neighbour_pick.specs.declared.found.Found.{Found}
use Rattle.graph_search.specs.ByHolding.{HoldTheSame, elements_in}
use Rattle.graph_search.specs.Scan.{rows_of}
use Rattle.search_sets.specs.Standing.{begun_from, spot_of}
use Rattle.vec_steps.specs.Desks.{Desk}
use Rattle.vec_steps.proofs.Following.{goes_then}
use Rattle.layer_search.specs.Looking.{EndedBy}
use Rattle.layer_search.specs.Resuming.{CanGoOn, holding, layer_of}
use Rattle.layer_search.specs.Telling.{OverSpots, StandThere}
use Rattle.layer_search.specs.Waiting.{AreLong}
use Rattle.layer_search.proofs.Looks.{ended_memory, ended_then, fails, looks_then}
use Rattle.hnsw_scan.specs.Answering.{given_in}
use Rattle.hnsw_scan.proofs.Starting.{begins_over, turns_at}
use Rattle.hnsw_scan.proofs.Giving.{first_gives}
use Rattle.hnsw_scan.proofs.batches.first_batch.Goals as goal

pub returns-in_err-search-clause-err : goal.returns-in_err-search-clause-err
returns-in_err-search-clause-err g c =
    fails c.from_residual-in_err-search.result (λ e is. ended_memory e (is ∙ c.in_err-search.ensures.memory) c.in_ok-descent.ensures.ok.made)
    c.from_residual-in_err-search.ensures.1

pub go_on-requires-clause-ready : goal.go_on-requires-clause-ready
go_on-requires-clause-ready g c =
    let d = c.in_ok-descent.ensures in
    c.in_ok-search.ensures.ready (g.S.Steps.desk c.descend.new.steps).params.bits
    (subst (λ (k : Desk). AreLong k.params.bits c.as_slice.result.now) (sym d.goes.stays)
    (subst (AreLong (g.S.Steps.desk c.args.steps.now).params.bits) (sym c.as_slice.ensures) d.long))

pub returns-in_err-go_on-clause-goes : goal.returns-in_err-go_on-clause-goes
returns-in_err-go_on-clause-goes g c =
    let d = c.in_ok-descent in
    let s = c.in_ok-search in
    goes_then g.met.S.Steps.comes_on
    (begins_over d.descent.top d.descent.from s.search s.ensures.layer d.ensures.told
    (λ more base there. s.ensures.told more base (subst (λ (l : List Found). StandThere more 0 (map spot_of l) base) (sym c.as_slice.ensures) there)))
    d.ensures.goes c.in_err-go_on.ensures.goes

pub returns-in_err-go_on-clause-err : goal.returns-in_err-go_on-clause-err
returns-in_err-go_on-clause-err g c =
    let d = c.in_ok-descent in
    let s = c.in_ok-search in
    let over = OverSpots (g.S.Steps.stands c.args.steps.now) (g.S.Steps.seen c.args.steps.now) 0 [] in
    fails c.from_residual-in_err-go_on.result
    (λ e is. subst (EndedBy over (g.S.Steps.desk c.args.steps.now) (g.S.Steps.seen c.args.steps.now) (g.S.Steps.seen c.go_on.new.steps)) (sym is)
    (ended_then d.ensures.goes.stays
    (begins_over d.descent.top d.descent.from s.search s.ensures.layer d.ensures.told
    (λ more base there. s.ensures.told more base (subst (λ (l : List Found). StandThere more 0 (map spot_of l) base) (sym c.as_slice.ensures) there)))
    d.ensures.ok.made c.in_err-go_on.ensures.err)) c.from_residual-in_err-go_on.ensures.1

pub returns-in_err-batch-clause-goes : goal.returns-in_err-batch-clause-goes
returns-in_err-batch-clause-goes g c =
    let d = c.in_ok-descent in
    let s = c.in_ok-search in
    goes_then g.met.S.Steps.comes_on
    (begins_over d.descent.top d.descent.from s.search s.ensures.layer d.ensures.told
    (λ more base there. s.ensures.told more base (subst (λ (l : List Found). StandThere more 0 (map spot_of l) base) (sym c.as_slice.ensures) there)))
    d.ensures.goes c.in_ok-go_on.ensures.goes

pub returns-in_err-batch-clause-err : goal.returns-in_err-batch-clause-err
returns-in_err-batch-clause-err g c =
    let d = c.in_ok-descent in
    let s = c.in_ok-search in
    fails c.from_residual-in_err-batch.result
    (λ e is. ended_memory e (is ∙ c.in_err-batch.ensures.memory) (looks_then d.ensures.goes.stays
    (begins_over d.descent.top d.descent.from s.search s.ensures.layer d.ensures.told
    (λ more base there. s.ensures.told more base (subst (λ (l : List Found). StandThere more 0 (map spot_of l) base) (sym c.as_slice.ensures) there)))
    d.ensures.ok.made (c.in_ok-go_on.ensures.ok []).made)) c.from_residual-in_err-batch.ensures.1

pub returns-in_err-answers-clause-goes : goal.returns-in_err-answers-clause-goes
returns-in_err-answers-clause-goes g c =
    let d = c.in_ok-descent in
    let s = c.in_ok-search in
    goes_then g.met.S.Steps.comes_on
    (begins_over d.descent.top d.descent.from s.search s.ensures.layer d.ensures.told
    (λ more base there. s.ensures.told more base (subst (λ (l : List Found). StandThere more 0 (map spot_of l) base) (sym c.as_slice.ensures) there)))
    d.ensures.goes c.in_ok-go_on.ensures.goes

pub returns-in_err-answers-clause-err : goal.returns-in_err-answers-clause-err
returns-in_err-answers-clause-err g c =
    let d = c.in_ok-descent in
    let s = c.in_ok-search in
    fails c.from_residual-in_err-answers.result
    (λ e is. ended_memory e is (looks_then d.ensures.goes.stays
    (begins_over d.descent.top d.descent.from s.search s.ensures.layer d.ensures.told
    (λ more base there. s.ensures.told more base (subst (λ (l : List Found). StandThere more 0 (map spot_of l) base) (sym c.as_slice.ensures) there)))
    d.ensures.ok.made (c.in_ok-go_on.ensures.ok []).made)) c.from_residual-in_err-answers.ensures.1

pub returns-clause-goes : goal.returns-clause-goes
returns-clause-goes g c =
    let d = c.in_ok-descent in
    let s = c.in_ok-search in
    goes_then g.met.S.Steps.comes_on
    (begins_over d.descent.top d.descent.from s.search s.ensures.layer d.ensures.told
    (λ more base there. s.ensures.told more base (subst (λ (l : List Found). StandThere more 0 (map spot_of l) base) (sym c.as_slice.ensures) there)))
    d.ensures.goes c.in_ok-go_on.ensures.goes

pub returns-clause-ready : goal.returns-clause-ready
returns-clause-ready g c =
    c.in_ok-batch.ensures.ready (g.S.Steps.desk c.args.steps.now).params.bits
    (subst (λ (k : Desk). CanGoOn k.params.bits c.go_on.new.self) c.in_ok-descent.ensures.goes.stays c.in_ok-go_on.ensures.ready)

pub returns-clause-ok : goal.returns-clause-ok
returns-clause-ok g c =
    let d = c.in_ok-descent in
    let s = c.in_ok-search in
    let query = c.args.query.now in
    let begun = subst (λ (l : List Found). HoldTheSame (holding s.search) (begun_from l)) c.as_slice.ensures s.ensures.begun in
    let large : 2 ^ 32 < 18446744073709551615 = lit< tt in
    first_gives (g.S.Steps.desk c.args.steps.now).params.ops query c.args.ef d.descent.top d.descent.from (given_in c.in_ok-answers.answers)
    (holding c.go_on.new.self) (holding c.take.new.self) d.ensures.ok d.ensures.goes.stays
    (begins_over d.descent.top d.descent.from s.search s.ensures.layer d.ensures.told
    (λ more base there. s.ensures.told more base (subst (λ (l : List Found). StandThere more 0 (map spot_of l) base) (sym c.as_slice.ensures) there)))
    (turns_at d.ensures.goes.stays query d.descent.from (layer_of s.search) c.args.ef (holding c.go_on.new.self) s.ensures.layer
    (c.in_ok-go_on.ensures.first d.descent.from begun large))
    (c.in_ok-answers.ensures
    ∙ ap (λ (ps : List (Found × Bool)). flat_map rows_of (elements_in ps)) (c.as_slice-2.ensures ∙ c.in_ok-batch.ensures.batch))
    c.in_ok-batch.ensures.after
