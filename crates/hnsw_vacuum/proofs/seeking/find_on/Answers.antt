use Rattle.std.proofs.Common.{◌≡◌, map, subst, sym}
use Rattle.std.specs.Prelude.{List}
use Rattle.vec_graph.specs.Effect.{after}
use Rattle.graph_search.specs.Reads.{nodes_on}
use Rattle.vec_steps.specs.declared.seen.Seen.{Seen}
use Rattle.vec_steps.specs.Telling.{seen_told}
use Rattle.vec_steps.proofs.Following.{goes_then}
use Rattle.hnsw_vacuum.specs.Courses.{IsGraphSo}
use Rattle.hnsw_vacuum.proofs.Stopped.{handed, stops_then}
use Rattle.hnsw_vacuum.proofs.Finds.{as_first, has_block, looks_then, nodes_later, once, page_found}
use Rattle.hnsw_vacuum.proofs.seeking.find_on.Goals as goal

pub returns-in_err-look_at_nodes-clause-err : goal.returns-in_err-look_at_nodes-clause-err
returns-in_err-look_at_nodes-clause-err g c = handed _ c.from_residual.result c.in_err-look_at_nodes.ensures.err c.from_residual.ensures.1

pub returns-in_err-find_all-clause-goes : goal.returns-in_err-find_all-clause-goes
returns-in_err-find_all-clause-goes g c =
    let look = c.in_ok-look_at_nodes.ensures in
    goes_then g.met.S.Steps.comes_on (λ base o. nodes_later base (look.goes.still_stands base o) o) look.goes c.in_err-find_all.ensures.goes

pub returns-in_err-find_all-clause-err : goal.returns-in_err-find_all-clause-err
returns-in_err-find_all-clause-err g c =
    let look = c.in_ok-look_at_nodes.ensures in
    handed _ c.from_residual-in_err-find_all.result
    (stops_then look.goes.stays (λ base o. nodes_later base (look.goes.still_stands base o) o) (once look.ok).made c.in_err-find_all.ensures.err)
    c.from_residual-in_err-find_all.ensures.1

pub returns-clause-goes : goal.returns-clause-goes
returns-clause-goes g c =
    let look = c.in_ok-look_at_nodes.ensures in
    goes_then g.met.S.Steps.comes_on (λ base o. nodes_later base (look.goes.still_stands base o) o) look.goes c.in_ok-find_all.ensures.goes

pub returns-clause-ok : goal.returns-clause-ok
returns-clause-ok g c =
    let look = c.in_ok-look_at_nodes.ensures in
    looks_then look.goes.stays (λ base o. nodes_later base (look.goes.still_stands base o) o) (once look.ok) c.in_ok-find_all.ensures.ok

pub returns-clause-so : goal.returns-clause-so
returns-clause-so g c = λ base count low o.
    let look = c.in_ok-look_at_nodes.ensures in
    let mid = c.look_at_nodes.new.steps in
    let there = has_block low base o in
    let st = look.goes.still_stands base there in
    as_first look.goes.stays base (c.in_ok-find_all.ensures.so base _ count
    (page_found (map seen_told c.as_slice.result.now) look.goes.stays look.ok.does.acts base st (g.met.S.Steps.shaped mid base st) (g.met.S.Steps.legal mid base st)
    (subst (λ (l : List Seen). IsGraphSo (λ h. map seen_told l ≡ nodes_on (after h (g.S.Steps.seen mid)) c.args.block) base) (sym c.as_slice.ensures) (look.are base there)) o))
