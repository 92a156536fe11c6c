use Rattle.std.proofs.Common.{ap, sym, ◌∙◌, arith, true≢false}
use Rattle.vec_steps.specs.Desks.{Desk}
use Rattle.vec_steps.proofs.Following.{acts_longer, goes_nowhere, goes_then}
use Rattle.hnsw_vacuum.proofs.Stopped.{handed, stops_then}
use Rattle.hnsw_vacuum.proofs.Turns.{last_part, nothing_yet, one_part, whole}
use Rattle.hnsw_vacuum.proofs.Pages.{as_desk, may_go_on, next_page, no_pages, page_of_all}
use Rattle.hnsw_vacuum.proofs.Sees.{both_seen}
use Rattle.hnsw_vacuum.proofs.SeesPages.{before_or_here, neither, no_page_seen, pages_seen}
use Rattle.hnsw_vacuum.proofs.removing.remove_pages.Goals as goal

pub page-init : goal.page-init
page-init g c = record {
  goes = goes_nowhere g.met.S.Steps.comes_itself c.args.steps.now (λ base o. o.stood);
  told = c.requires.told;
  from = omega arith;
  so_far = nothing_yet (g.S.Steps.seen c.args.steps.now) _ c.args.tally c.requires.going;
  sees_to = λ base o. no_page_seen (λ id b. g.F.Fn.post c.args.dead.now (id, tt) b) base o;
  may = λ base o. o;
}

pub returns-in_err-now-clause-err : goal.returns-in_err-now-clause-err
returns-in_err-now-clause-err g c =
    let so = c.page.invariant in
    handed _ c.from_residual.result
    (stops_then so.goes.stays (λ base o. as_desk so.goes.stays base (page_of_all c.page.block c.args.count c.page-test.true base (so.may base o))) so.so_far.made c.in_err-now.ensures.err)
    c.from_residual.ensures.1

pub returns-then-now-clause-ok : goal.returns-then-now-clause-ok
returns-then-now-clause-ok g c =
    let so = c.page.invariant in
    last_part so.goes.stays (λ base o. as_desk so.goes.stays base (page_of_all c.page.block c.args.count c.page-test.true base (so.may base o)))
    (next_page (λ id b. g.F.Fn.post c.args.dead.now (id, tt) b) c.page.block c.args.count c.page-test.true so.so_far) c.in_ok-now.ensures.ok c.if-now.true

pub page-preserved : goal.page-preserved
page-preserved g c =
    let so = c.page.invariant in
    let low = c.page-test.true in
    record {
      goes = goes_then g.met.S.Steps.comes_on (λ base o. as_desk so.goes.stays base (page_of_all c.page.block c.args.count c.page-test.true base (so.may base o))) so.goes c.in_ok-now.ensures.goes;
      told = c.in_ok-now.ensures.told ∙ ap (λ (d : Desk). d.params.bits) so.goes.stays;
      from = omega arith;
      so_far = one_part so.goes.stays (λ base o. as_desk so.goes.stays base (page_of_all c.page.block c.args.count c.page-test.true base (so.may base o))) (next_page (λ id b. g.F.Fn.post c.args.dead.now (id, tt) b) c.page.block c.args.count low so.so_far) c.in_ok-now.ensures.ok c.if-now.false;
      sees_to = λ base o.
          both_seen so.goes.stays (acts_longer so.so_far.made.does.acts) c.in_ok-now.ensures.ok.made.does.acts (before_or_here c.page.block) (neither c.page.block so.from) base
          (so.sees_to base o)
          (c.in_ok-now.ensures.sees_to c.if-now.false base (as_desk so.goes.stays base (page_of_all c.page.block c.args.count low base (so.may base o))));
      may = λ base o.
          let stood = c.in_ok-now.ensures.goes.still_stands base (as_desk so.goes.stays base (page_of_all c.page.block c.args.count low base (so.may base o))) in
          may_go_on so.goes.stays c.in_ok-now.ensures.ok.made base stood (g.met.S.Steps.shaped c.remove_on.new.steps base stood)
          (g.met.S.Steps.legal c.remove_on.new.steps base stood) (so.may base o);
    }

pub returns-clause-ok : goal.returns-clause-ok
returns-clause-ok g c =
    let so = c.page.invariant in
    whole so.so_far (no_pages (λ id b. g.F.Fn.post c.args.dead.now (id, tt) b) c.page.block c.args.count c.page.now (omega (arith, c.page-test.false)))

pub returns-then-now-clause-sees_to : goal.returns-then-now-clause-sees_to
returns-then-now-clause-sees_to g c = λ going base o. absurd (true≢false (sym c.if-now.true ∙ going))

pub returns-clause-sees_to : goal.returns-clause-sees_to
returns-clause-sees_to g c = λ going base o.
    pages_seen (λ id b. g.F.Fn.post c.args.dead.now (id, tt) b) c.page.block c.args.count (omega (arith, c.page-test.false)) base (c.page.invariant.sees_to base o)
