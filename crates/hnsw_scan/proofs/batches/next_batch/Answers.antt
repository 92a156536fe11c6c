use Rattle.std.proofs.Common.{ℕ, [], Some, subst, sym, ◌∙◌}
use Rattle.search_sets.specs.Standing.{known_earlier}
use Rattle.vec_steps.proofs.Following.{does_so_over, goes_over, goes_then}
use Rattle.layer_search.specs.Looking.{EndedBy}
use Rattle.layer_search.specs.Resuming.{holding, layer_of}
use Rattle.layer_search.specs.Telling.{OverSpots, StandThere, spots_held}
use Rattle.layer_search.proofs.Looks.{ended_memory, ended_over, ended_then, fails, looks_then}
use Rattle.layer_search.proofs.Told.{stand_later}
use Rattle.layer_search.proofs.Turns.{none_over}
use Rattle.hnsw_scan.specs.Answering.{given_in, mode_of}
use Rattle.hnsw_scan.proofs.Starting.{goes_on_at, rows_at, to_layer}
use Rattle.hnsw_scan.proofs.Giving.{next_gives, nothing_is}
use Rattle.hnsw_scan.proofs.Quiet.{only_looks}
use Rattle.hnsw_scan.proofs.batches.next_batch.Goals as goal

pub returns-in_err-go_on-clause-goes : goal.returns-in_err-go_on-clause-goes
returns-in_err-go_on-clause-goes g c =
    goes_over (to_layer c.args.search.now (layer_of c.args.search.now) c.requires.layer) c.in_err-go_on.ensures.goes

pub returns-in_err-go_on-clause-err : goal.returns-in_err-go_on-clause-err
returns-in_err-go_on-clause-err g c =
    let s = c.args.search.now in
    let over = OverSpots (g.S.Steps.stands c.args.steps.now) (g.S.Steps.seen c.args.steps.now) 0 (spots_held (holding s)) in
    fails c.from_residual.result
    (λ e is. subst (EndedBy over (g.S.Steps.desk c.args.steps.now) (g.S.Steps.seen c.args.steps.now) (g.S.Steps.seen c.go_on.new.steps)) (sym is)
    (ended_over (to_layer s (layer_of s) c.requires.layer) c.in_err-go_on.ensures.err)) c.from_residual.ensures.1

pub returns-in_err-batch-clause-goes : goal.returns-in_err-batch-clause-goes
returns-in_err-batch-clause-goes g c =
    goes_over (to_layer c.args.search.now (layer_of c.args.search.now) c.requires.layer) c.in_ok-go_on.ensures.goes

pub returns-in_err-batch-clause-err : goal.returns-in_err-batch-clause-err
returns-in_err-batch-clause-err g c =
    let s = c.args.search.now in
    fails c.from_residual-in_err-batch.result
    (λ e is. ended_memory e (is ∙ c.in_err-batch.ensures.memory)
    (does_so_over (to_layer s (layer_of s) c.requires.layer) (c.in_ok-go_on.ensures.ok []).made)) c.from_residual-in_err-batch.ensures.1

pub returns-in_err-rows-clause-goes : goal.returns-in_err-rows-clause-goes
returns-in_err-rows-clause-goes g c =
    let gone = goes_over (to_layer c.args.search.now (layer_of c.args.search.now) c.requires.layer) c.in_ok-go_on.ensures.goes in
    goes_then g.met.S.Steps.comes_on (none_over gone.still_stands) gone c.in_err-rows.ensures.goes

pub returns-in_err-rows-clause-err : goal.returns-in_err-rows-clause-err
returns-in_err-rows-clause-err g c =
    let s = c.args.search.now in
    let gone = goes_over (to_layer s (layer_of s) c.requires.layer) c.in_ok-go_on.ensures.goes in
    let over = OverSpots (g.S.Steps.stands c.args.steps.now) (g.S.Steps.seen c.args.steps.now) 0 (spots_held (holding s)) in
    fails c.from_residual-in_err-rows.result
    (λ e is. subst (EndedBy over (g.S.Steps.desk c.args.steps.now) (g.S.Steps.seen c.args.steps.now) (g.S.Steps.seen c.take_rows.new.steps)) (sym is)
    (ended_then gone.stays (none_over gone.still_stands)
    (does_so_over (to_layer s (layer_of s) c.requires.layer) (c.in_ok-go_on.ensures.ok []).made) c.in_err-rows.ensures.err))
    c.from_residual-in_err-rows.ensures.1

pub returns-in_err-answers-clause-goes : goal.returns-in_err-answers-clause-goes
returns-in_err-answers-clause-goes g c =
    let gone = goes_over (to_layer c.args.search.now (layer_of c.args.search.now) c.requires.layer) c.in_ok-go_on.ensures.goes in
    goes_then g.met.S.Steps.comes_on (none_over gone.still_stands) gone c.in_ok-rows.ensures.goes

pub returns-in_err-answers-clause-err : goal.returns-in_err-answers-clause-err
returns-in_err-answers-clause-err g c =
    let s = c.args.search.now in
    let gone = goes_over (to_layer s (layer_of s) c.requires.layer) c.in_ok-go_on.ensures.goes in
    fails c.from_residual-in_err-answers.result
    (λ e is. ended_memory e is (looks_then gone.stays (none_over gone.still_stands)
    (does_so_over (to_layer s (layer_of s) c.requires.layer) (c.in_ok-go_on.ensures.ok []).made) c.in_ok-rows.ensures.ok.made))
    c.from_residual-in_err-answers.ensures.1

pub returns-clause-goes : goal.returns-clause-goes
returns-clause-goes g c =
    let gone = goes_over (to_layer c.args.search.now (layer_of c.args.search.now) c.requires.layer) c.in_ok-go_on.ensures.goes in
    goes_then g.met.S.Steps.comes_on (none_over gone.still_stands) gone c.in_ok-rows.ensures.goes

pub returns-clause-ready : goal.returns-clause-ready
returns-clause-ready g c = c.in_ok-batch.ensures.ready (g.S.Steps.desk c.args.steps.now).params.bits c.in_ok-go_on.ensures.ready

pub returns-clause-layer : goal.returns-clause-layer
returns-clause-layer g c = c.in_ok-batch.ensures.layer ∙ c.in_ok-go_on.ensures.layer ∙ c.requires.layer

pub returns-clause-told : goal.returns-clause-told
returns-clause-told g c = λ base o.
    let S = g.S.Steps in
    let s = c.args.search.now in
    let low = to_layer s (layer_of s) c.requires.layer base o in
    let seen = S.seen c.go_on.new.steps in
    let told = c.in_ok-go_on.ensures.told base low in
    let stood = c.in_ok-rows.ensures.goes.still_stands base (none_over (λ b p. c.in_ok-go_on.ensures.goes.still_stands b (to_layer s (layer_of s) c.requires.layer b p)) base o) in
    let held = c.in_ok-batch.ensures.told seen base
    (subst (λ (l : ℕ). StandThere seen l (spots_held (holding c.go_on.new.self)) base) (sym c.in_ok-go_on.ensures.layer) told.there) in
    record {
      stood = stood;
      there = stand_later 0 (spots_held (holding c.take.new.self)) base (g.met.S.Steps.shaped c.take_rows.new.steps base stood)
          (g.met.S.Steps.legal c.take_rows.new.steps base stood) c.in_ok-rows.ensures.ok.made.does.acts
          (subst (λ (l : ℕ). StandThere seen l (spots_held (holding c.take.new.self)) base) (c.in_ok-go_on.ensures.layer ∙ c.requires.layer) held);
    }

pub returns-clause-ok : goal.returns-clause-ok
returns-clause-ok g c = λ stood st.
    let s = c.args.search.now in
    let ops = (g.S.Steps.desk c.args.steps.now).params.ops in
    let query = c.args.query.now in
    let wish = c.args.wish in
    let gone = goes_over (to_layer s (layer_of s) c.requires.layer) c.in_ok-go_on.ensures.goes in
    next_gives ops query wish.ef wish.max (mode_of wish.mode) wish.last stood (holding s) (holding c.go_on.new.self) (holding c.take.new.self)
    c.in_ok-batch.batch (given_in c.in_ok-rows.rows) (given_in c.in_ok-answers.answers) c.is_empty-end.result st c.requires.mode
    (goes_on_at ops query stood.start.from (layer_of s) wish.ef (Some wish.max) (known_earlier (holding s)) (holding c.go_on.new.self) c.requires.layer
    (to_layer s (layer_of s) c.requires.layer) (c.in_ok-go_on.ensures.ok stood.start.from))
    c.in_ok-go_on.ensures.over c.in_ok-batch.ensures.batch c.in_ok-batch.ensures.after gone.stays (none_over gone.still_stands)
    (rows_at gone.stays query c.as_slice.result.now c.in_ok-batch.batch (given_in c.in_ok-rows.rows) c.as_slice.ensures c.in_ok-rows.ensures.ok)
    c.in_ok-answers.ensures (nothing_is c.is_empty-end.result c.in_ok-batch.batch c.is_empty-end.ensures)

pub returns-clause-looked : goal.returns-clause-looked
returns-clause-looked g c =
    let s = c.args.search.now in
    let gone = goes_over (to_layer s (layer_of s) c.requires.layer) c.in_ok-go_on.ensures.goes in
    only_looks (looks_then gone.stays (none_over gone.still_stands)
    (does_so_over (to_layer s (layer_of s) c.requires.layer) (c.in_ok-go_on.ensures.ok []).made) c.in_ok-rows.ensures.ok.made)
