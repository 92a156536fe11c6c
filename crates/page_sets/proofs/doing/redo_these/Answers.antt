use Rattle.page_sets.proofs.Redone.{one_done, second_done, second_ok, first_fits}
use Rattle.page_sets.proofs.doing.redo_these.Goals as goal

pub returns-in_err-redo_on-clause-fits : goal.returns-in_err-redo_on-clause-fits
returns-in_err-redo_on-clause-fits g c = λ all has apart fit.
    absurd (first_fits c.args.params.now c.args.number c.args.event.now _ all c.args.touched has fit c.in_err-redo_on.ensures.done.0)

pub returns-in-Some-clause-redone : goal.returns-in-Some-clause-redone
returns-in-Some-clause-redone g c = λ all part has apart.
    let first = c.in_ok-redo_on.ensures.done in
    second_done c.args.params.now c.args.number c.args.event.now _ _ _ all c.args.touched c.in-Some.other first.0 c.in-Some.is
    (apart c.in-Some.other c.in-Some.is) part has first.1 first.2 c.redo_on-in-Some.result c.redo_on-in-Some.ensures.done

pub returns-in-Some-clause-fits : goal.returns-in-Some-clause-fits
returns-in-Some-clause-fits g c = λ all has apart fit.
    let first = c.in_ok-redo_on.ensures.done in
    second_ok c.args.params.now c.args.number c.args.event.now _ _ _ all c.args.touched c.in-Some.other first.0 c.in-Some.is
    (apart c.in-Some.other c.in-Some.is) has fit first.2 c.redo_on-in-Some.result c.redo_on-in-Some.ensures.done

pub returns-in-None-clause-redone : goal.returns-in-None-clause-redone
returns-in-None-clause-redone g c = λ all part has apart.
    let first = c.in_ok-redo_on.ensures.done in
    (_, one_done c.args.params.now c.args.number c.args.event.now _ _ all c.args.touched first.0 c.in-None.is part has first.1 first.2)
