use Rattle.std.proofs.Common.{ap, sym, ◌∙◌, arith}
use Rattle.vec_steps.specs.Desks.{Desk}
use Rattle.vec_steps.proofs.Following.{goes_nowhere, goes_then}
use Rattle.hnsw_vacuum.proofs.Stopped.{handed, stops_then}
use Rattle.hnsw_vacuum.proofs.Finds.{all_found, as_first, back_to, has_block, looks_none, looks_then}
use Rattle.hnsw_vacuum.proofs.seeking.find_pages.Goals as goal

pub page-init : goal.page-init
page-init g c = record {
  goes = goes_nowhere g.met.S.Steps.comes_itself c.args.steps.now (λ base o. o.stood);
  told = c.requires.told;
  looks = looks_none (g.S.Steps.seen c.args.steps.now) c.args.trace.now.reads;
  so = λ base o. o;
}

pub find_on-requires : goal.find_on-requires
find_on-requires g c = record { told = c.page.invariant.told ∙ ap (λ (d : Desk). d.params.bits) (sym c.page.invariant.goes.stays) }

pub returns-in_err-find_on-clause-goes : goal.returns-in_err-find_on-clause-goes
returns-in_err-find_on-clause-goes g c =
    let so = c.page.invariant in
    goes_then g.met.S.Steps.comes_on (λ base o. has_block c.page-test.true base (so.so base o)) so.goes c.in_err-find_on.ensures.goes

pub returns-in_err-find_on-clause-told : goal.returns-in_err-find_on-clause-told
returns-in_err-find_on-clause-told g c = c.in_err-find_on.ensures.told ∙ ap (λ (d : Desk). d.params.bits) c.page.invariant.goes.stays

pub returns-in_err-find_on-clause-err : goal.returns-in_err-find_on-clause-err
returns-in_err-find_on-clause-err g c =
    let so = c.page.invariant in
    handed _ c.from_residual.result
    (stops_then so.goes.stays (λ base o. has_block c.page-test.true base (so.so base o)) so.looks.made c.in_err-find_on.ensures.err)
    c.from_residual.ensures.1

pub page-preserved : goal.page-preserved
page-preserved g c =
    let so = c.page.invariant in
    let one = c.in_ok-find_on.ensures in
    record {
      goes = goes_then g.met.S.Steps.comes_on (λ base o. has_block c.page-test.true base (so.so base o)) so.goes one.goes;
      told = one.told ∙ ap (λ (d : Desk). d.params.bits) so.goes.stays;
      looks = looks_then so.goes.stays (λ base o. has_block c.page-test.true base (so.so base o)) so.looks one.ok;
      so = λ base o. as_first so.goes.stays base (one.so base c.args.count c.page-test.true (back_to so.goes.stays base (so.so base o)));
    }

pub returns-clause-goes : goal.returns-clause-goes
returns-clause-goes g c = c.page.invariant.goes

pub returns-clause-told : goal.returns-clause-told
returns-clause-told g c = c.page.invariant.told

pub returns-clause-ok : goal.returns-clause-ok
returns-clause-ok g c = c.page.invariant.looks

pub returns-clause-so : goal.returns-clause-so
returns-clause-so g c = λ base o. all_found (omega (arith, c.page-test.false)) base (c.page.invariant.so base o)
