use Rattle.std.proofs.Common.{◌≡◌, ap, ◌∙◌, sym, [], Some}
use Rattle.vec_steps.specs.declared.ask.Ask.TheVariants as ask
use Rattle.vec_steps.specs.Desks.{Desk}
use Rattle.vec_steps.proofs.Following.{goes_nowhere, goes_then}
use Rattle.layer_search.proofs.Looks.{fails}
use Rattle.hnsw_insert.specs.Parts.{aimed, anew}
use Rattle.hnsw_insert.proofs.Stopped.{step_fails, stops_then}
use Rattle.hnsw_insert.proofs.Under.{full_then}
use Rattle.hnsw_insert.proofs.Puts.{asks_as, failed_as, may_put, may_put_new, puts_begin, puts_end, puts_full, puts_more, puts_new, puts_odd, step_as}
use Rattle.hnsw_insert.proofs.placing.put_node.Goals as goal

pub asking-init : goal.asking-init
asking-init g c = record {
  goes = goes_nowhere g.met.S.Steps.comes_itself c.args.steps.now (λ base o. o.stood);
  told = c.requires.told;
  so_far = puts_begin (g.S.Steps.seen c.args.steps.now) c.args.node c.args.blocks.hint c.args.blocks.count;
}

pub returns-in_err-step-clause-goes : goal.returns-in_err-step-clause-goes
returns-in_err-step-clause-goes g c =
    let so = c.asking.invariant in
    let now = c.asking.steps in
    let is_put : c.aim.new.ask ≡ ask.Put c.asking.block c.args.node = c.aim.ensures ∙ ap (aimed c.asking.block) so.so_far.ask_is in
    goes_then g.met.S.Steps.comes_on (λ base o. asks_as is_put base (may_put so.goes.stays so.so_far c.asking-test.true base (so.goes.still_stands base o) (g.met.S.Steps.shaped now base (so.goes.still_stands base o)) (g.met.S.Steps.legal now base (so.goes.still_stands base o)) o)) so.goes c.in_err-step.ensures.goes

pub returns-in_err-place-clause-goes : goal.returns-in_err-place-clause-goes
returns-in_err-place-clause-goes g c =
    let so = c.asking.invariant in
    let now = c.asking.steps in
    let is_put : c.aim.new.ask ≡ ask.Put c.asking.block c.args.node = c.aim.ensures ∙ ap (aimed c.asking.block) so.so_far.ask_is in
    goes_then g.met.S.Steps.comes_on (λ base o. asks_as is_put base (may_put so.goes.stays so.so_far c.asking-test.true base (so.goes.still_stands base o) (g.met.S.Steps.shaped now base (so.goes.still_stands base o)) (g.met.S.Steps.legal now base (so.goes.still_stands base o)) o)) so.goes c.in_ok-step.ensures.goes

pub returns-in-Some-clause-goes : goal.returns-in-Some-clause-goes
returns-in-Some-clause-goes g c =
    let so = c.asking.invariant in
    let now = c.asking.steps in
    let is_put : c.aim.new.ask ≡ ask.Put c.asking.block c.args.node = c.aim.ensures ∙ ap (aimed c.asking.block) so.so_far.ask_is in
    goes_then g.met.S.Steps.comes_on (λ base o. asks_as is_put base (may_put so.goes.stays so.so_far c.asking-test.true base (so.goes.still_stands base o) (g.met.S.Steps.shaped now base (so.goes.still_stands base o)) (g.met.S.Steps.legal now base (so.goes.still_stands base o)) o)) so.goes c.in_ok-step.ensures.goes

pub returns-in_err-step-2-clause-goes : goal.returns-in_err-step-2-clause-goes
returns-in_err-step-2-clause-goes g c =
    let so = c.asking.invariant in
    let now = c.asking.steps in
    let is_new : c.anew-ask.result ≡ ask.PutNew c.args.node = c.anew-ask.ensures ∙ ap anew so.so_far.ask_is in
    goes_then g.met.S.Steps.comes_on (λ base o. asks_as is_new base (may_put_new so.goes.stays so.so_far base (so.goes.still_stands base o) (g.met.S.Steps.shaped now base (so.goes.still_stands base o)) (g.met.S.Steps.legal now base (so.goes.still_stands base o)) o)) so.goes c.in_err-step-2.ensures.goes

pub returns-in-Some-place_of-clause-goes : goal.returns-in-Some-place_of-clause-goes
returns-in-Some-place_of-clause-goes g c =
    let so = c.asking.invariant in
    let now = c.asking.steps in
    let is_new : c.anew-ask.result ≡ ask.PutNew c.args.node = c.anew-ask.ensures ∙ ap anew so.so_far.ask_is in
    goes_then g.met.S.Steps.comes_on (λ base o. asks_as is_new base (may_put_new so.goes.stays so.so_far base (so.goes.still_stands base o) (g.met.S.Steps.shaped now base (so.goes.still_stands base o)) (g.met.S.Steps.legal now base (so.goes.still_stands base o)) o)) so.goes c.in_ok-step-2.ensures.goes

pub returns-clause-goes : goal.returns-clause-goes
returns-clause-goes g c =
    let so = c.asking.invariant in
    let now = c.asking.steps in
    let is_new : c.anew-ask.result ≡ ask.PutNew c.args.node = c.anew-ask.ensures ∙ ap anew so.so_far.ask_is in
    goes_then g.met.S.Steps.comes_on (λ base o. asks_as is_new base (may_put_new so.goes.stays so.so_far base (so.goes.still_stands base o) (g.met.S.Steps.shaped now base (so.goes.still_stands base o)) (g.met.S.Steps.legal now base (so.goes.still_stands base o)) o)) so.goes c.in_ok-step-2.ensures.goes

pub returns-in_err-step-clause-err : goal.returns-in_err-step-clause-err
returns-in_err-step-clause-err g c =
    let so = c.asking.invariant in
    let now = c.asking.steps in
    let is_put : c.aim.new.ask ≡ ask.Put c.asking.block c.args.node = c.aim.ensures ∙ ap (aimed c.asking.block) so.so_far.ask_is in
    let m = so.so_far.made [] in
    fails c.from_residual.result
    (λ e is. stops_then so.goes.stays (λ base o. may_put so.goes.stays so.so_far c.asking-test.true base (so.goes.still_stands base o) (g.met.S.Steps.shaped now base (so.goes.still_stands base o)) (g.met.S.Steps.legal now base (so.goes.still_stands base o)) o) (λ b k n never. full_then m.course b k n never) m.does m.is.only
    (step_fails c.in_err-step.field-0.0 e is (λ base o. o) (failed_as is_put c.in_err-step.ensures.err))) c.from_residual.ensures.1

pub returns-in_err-step-2-clause-err : goal.returns-in_err-step-2-clause-err
returns-in_err-step-2-clause-err g c =
    let so = c.asking.invariant in
    let now = c.asking.steps in
    let is_new : c.anew-ask.result ≡ ask.PutNew c.args.node = c.anew-ask.ensures ∙ ap anew so.so_far.ask_is in
    let m = so.so_far.made [] in
    fails c.from_residual-in_err-step-2.result
    (λ e is. stops_then so.goes.stays (λ base o. may_put_new so.goes.stays so.so_far base (so.goes.still_stands base o) (g.met.S.Steps.shaped now base (so.goes.still_stands base o)) (g.met.S.Steps.legal now base (so.goes.still_stands base o)) o) (λ b k n never. full_then m.course b k n never) m.does m.is.only
    (step_fails c.in_err-step-2.field-0.0 e is (λ base o. o) (failed_as is_new c.in_err-step-2.ensures.err))) c.from_residual-in_err-step-2.ensures.1

pub returns-in_err-place-clause-err : goal.returns-in_err-place-clause-err
returns-in_err-place-clause-err g c =
    let so = c.asking.invariant in
    let now = c.asking.steps in
    let is_put : c.aim.new.ask ≡ ask.Put c.asking.block c.args.node = c.aim.ensures ∙ ap (aimed c.asking.block) so.so_far.ask_is in
    let some = sym c.place_of.ensures ∙ c.in-Some.is in
    fails c.from_residual-in_err-place.result
    (λ e is. puts_odd so.goes.stays so.so_far (λ base o. may_put so.goes.stays so.so_far c.asking-test.true base (so.goes.still_stands base o) (g.met.S.Steps.shaped now base (so.goes.still_stands base o)) (g.met.S.Steps.legal now base (so.goes.still_stands base o)) o) (step_as is_put c.in_ok-step.ensures.ok) e (is ∙ c.in_err-place.ensures.memory) c.in-Some.place some)
    c.from_residual-in_err-place.ensures.1

pub returns-in-Some-clause-ok : goal.returns-in-Some-clause-ok
returns-in-Some-clause-ok g c =
    let so = c.asking.invariant in
    let now = c.asking.steps in
    let is_put : c.aim.new.ask ≡ ask.Put c.asking.block c.args.node = c.aim.ensures ∙ ap (aimed c.asking.block) so.so_far.ask_is in
    let some = sym c.place_of.ensures ∙ c.in-Some.is in
    let same = c.in_ok-place.ensures.same in
    puts_end so.goes.stays so.so_far (λ base o. may_put so.goes.stays so.so_far c.asking-test.true base (so.goes.still_stands base o) (g.met.S.Steps.shaped now base (so.goes.still_stands base o)) (g.met.S.Steps.legal now base (so.goes.still_stands base o)) o) (step_as is_put c.in_ok-step.ensures.ok) c.in_ok-place.place c.asking-test.true
    (ap (λ p. p.at.block) same ∙ c.in_ok-place.ensures.on) (some ∙ ap Some (sym same))

pub asking-preserved : goal.asking-preserved
asking-preserved g c =
    let so = c.asking.invariant in
    let now = c.asking.steps in
    let is_put : c.aim.new.ask ≡ ask.Put c.asking.block c.args.node = c.aim.ensures ∙ ap (aimed c.asking.block) so.so_far.ask_is in
    record {
      goes = goes_then g.met.S.Steps.comes_on (λ base o. asks_as is_put base (may_put so.goes.stays so.so_far c.asking-test.true base (so.goes.still_stands base o) (g.met.S.Steps.shaped now base (so.goes.still_stands base o)) (g.met.S.Steps.legal now base (so.goes.still_stands base o)) o)) so.goes c.in_ok-step.ensures.goes;
      told = c.in_ok-step.ensures.bits ∙ ap (λ (d : Desk). d.params.bits) so.goes.stays;
      so_far = puts_more so.goes.stays so.so_far (λ base o. may_put so.goes.stays so.so_far c.asking-test.true base (so.goes.still_stands base o) (g.met.S.Steps.shaped now base (so.goes.still_stands base o)) (g.met.S.Steps.legal now base (so.goes.still_stands base o)) o) (step_as is_put c.in_ok-step.ensures.ok) c.asking-test.true (sym c.place_of.ensures ∙ c.in_default.is);
    }

pub returns-in-Some-place_of-clause-ok : goal.returns-in-Some-place_of-clause-ok
returns-in-Some-place_of-clause-ok g c =
    let so = c.asking.invariant in
    let now = c.asking.steps in
    let is_new : c.anew-ask.result ≡ ask.PutNew c.args.node = c.anew-ask.ensures ∙ ap anew so.so_far.ask_is in
    puts_new so.goes.stays so.so_far (λ base o. may_put_new so.goes.stays so.so_far base (so.goes.still_stands base o) (g.met.S.Steps.shaped now base (so.goes.still_stands base o)) (g.met.S.Steps.legal now base (so.goes.still_stands base o)) o) (step_as is_new c.in_ok-step-2.ensures.ok) c.in-Some-place_of.place c.asking-test.false
    (sym c.place_of-2.ensures ∙ c.in-Some-place_of.is)

pub returns-clause-err : goal.returns-clause-err
returns-clause-err g c =
    let so = c.asking.invariant in
    let now = c.asking.steps in
    let is_new : c.anew-ask.result ≡ ask.PutNew c.args.node = c.anew-ask.ensures ∙ ap anew so.so_far.ask_is in
    puts_full so.goes.stays so.so_far (λ base o. may_put_new so.goes.stays so.so_far base (so.goes.still_stands base o) (g.met.S.Steps.shaped now base (so.goes.still_stands base o)) (g.met.S.Steps.legal now base (so.goes.still_stands base o)) o) (step_as is_new c.in_ok-step-2.ensures.ok) c.asking-test.false (sym c.place_of-2.ensures ∙ c.in-None.is)
