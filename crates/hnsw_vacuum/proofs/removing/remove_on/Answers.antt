use Rattle.std.proofs.Common.{◌≡◌, map, subst, sym}
use Rattle.std.specs.Prelude.{List}
use Rattle.vec_graph.specs.Effect.{after}
use Rattle.graph_search.specs.Reads.{nodes_on}
use Rattle.vec_steps.specs.declared.seen.Seen.{Seen}
use Rattle.vec_steps.specs.Telling.{seen_told}
use Rattle.hnsw_vacuum.specs.Courses.{IsGraphSo}
use Rattle.hnsw_vacuum.proofs.Stopped.{handed}
use Rattle.hnsw_vacuum.proofs.Pages.{look_stops, may_slice, slice_dropped, slice_stops}
use Rattle.hnsw_vacuum.proofs.SeesPages.{page_seen}
use Rattle.hnsw_vacuum.proofs.removing.remove_on.Goals as goal

pub returns-in_err-look_at_page-clause-err : goal.returns-in_err-look_at_page-clause-err
returns-in_err-look_at_page-clause-err g c =
    handed _ c.from_residual.result (look_stops (λ id b. g.F.Fn.post c.args.dead.now (id, tt) b) c.in_err-look_at_page.ensures.err) c.from_residual.ensures.1

pub returns-in_err-now-clause-err : goal.returns-in_err-now-clause-err
returns-in_err-now-clause-err g c =
    handed _ c.from_residual-in_err-now.result
    (slice_stops (λ id b. g.F.Fn.post c.args.dead.now (id, tt) b) c.in_ok-look_at_page.ensures.goes.stays
    (λ base o. may_slice c.in_ok-look_at_page.ensures.goes.stays c.as_slice.ensures base (c.in_ok-look_at_page.ensures.may base o))
    c.in_ok-look_at_page.ensures.ok c.in_err-now.ensures.err)
    c.from_residual-in_err-now.ensures.1

pub returns-clause-ok : goal.returns-clause-ok
returns-clause-ok g c =
    slice_dropped (λ id b. g.F.Fn.post c.args.dead.now (id, tt) b) c.in_ok-look_at_page.ensures.goes.stays c.as_slice.ensures
    (λ base o. may_slice c.in_ok-look_at_page.ensures.goes.stays c.as_slice.ensures base (c.in_ok-look_at_page.ensures.may base o))
    c.in_ok-look_at_page.ensures.ok c.in_ok-now.ensures.ok

pub returns-clause-sees_to : goal.returns-clause-sees_to
returns-clause-sees_to g c = λ going base o.
    let look = c.in_ok-look_at_page.ensures in
    let mid = c.look_at_page.new.steps in
    let st = look.goes.still_stands base o in
    page_seen (map seen_told c.as_slice.result.now) (λ id b. g.F.Fn.post c.args.dead.now (id, tt) b) look.goes.stays look.ok.does.acts base (g.met.S.Steps.shaped c.args.steps.now base o.stood) (g.met.S.Steps.legal mid base st) o
    (subst (λ (l : List Seen). IsGraphSo (λ h. map seen_told l ≡ nodes_on (after h (g.S.Steps.seen mid)) c.args.block) base) (sym c.as_slice.ensures) (look.are base o))
    (c.in_ok-now.ensures.sees_to going base (may_slice look.goes.stays c.as_slice.ensures base (look.may base o)))
