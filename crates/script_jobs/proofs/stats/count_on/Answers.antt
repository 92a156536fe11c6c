use Rattle.std.proofs.Common.{◌≡◌, ◌+◌, ◌≤◌, ◌∙◌, List, map, ap, refl, sym, subst, arith}
use Rattle.vec_history.specs.declared.event.Act.{Act}
use Rattle.vec_graph.specs.Effect.{after}
use Rattle.vec_graph.proofs.Shaping.{shaped_after}
use Rattle.graph_search.specs.Reads.{nodes_on}
use Rattle.script_words.specs.declared.reply.Counts.{Counts}
use Rattle.vec_steps.specs.Telling.{seen_told}
use Rattle.vec_steps.specs.Desks.{Desk}
use Rattle.vec_steps.specs.Index.{Index, OfNodes}
use Rattle.vec_steps.proofs.Following.{goes_nowhere, goes_then}
use Rattle.hnsw_insert.specs.Over.{OverGraphs}
use Rattle.hnsw_insert.proofs.Stopped.{handed}
use Rattle.script_jobs.specs.Counting.{HasBlocks}
use Rattle.script_jobs.proofs.Looked.{between, ended_memory, ended_then, looks_none, looks_then, page_there}
use Rattle.script_jobs.proofs.Sums.{CountedBelow, all_counted, blocks_kept, none_counted, page_counted}
use Rattle.script_jobs.proofs.stats.count_on.Goals as goal

pub page-init : goal.page-init
page-init g c =
    let S = g.S.Steps in
    let s0 = c.args.steps.now in
    record {
      goes = goes_nowhere g.met.S.Steps.comes_itself s0 (λ base o. o.stood);
      told = c.requires.told;
      looked = looks_none (S.seen s0);
      blocks_are = c.from.ensures;
      counted = λ h o same.
          none_counted _ (after h (S.seen s0)) (shaped_after h (g.met.S.Steps.shaped s0 (OfNodes h) o.stood) (S.seen s0) (g.met.S.Steps.legal s0 (OfNodes h) o.stood))
          refl refl refl refl refl;
    }

pub returns-in_err-look_at_page-clause-goes : goal.returns-in_err-look_at_page-clause-goes
returns-in_err-look_at_page-clause-goes g c =
    let so = c.page.invariant in
    goes_then g.met.S.Steps.comes_on (λ base o. page_there c.args.blocks c.page.block (omega (arith, c.page-test.true)) so.looked.does.acts base o (so.goes.still_stands base o))
    so.goes c.in_err-look_at_page.ensures.goes

pub returns-in_err-look_at_page-clause-err : goal.returns-in_err-look_at_page-clause-err
returns-in_err-look_at_page-clause-err g c =
    let so = c.page.invariant in
    handed _ c.from_residual.result
    (ended_then so.goes.stays (λ base o. page_there c.args.blocks c.page.block (omega (arith, c.page-test.true)) so.looked.does.acts base o (so.goes.still_stands base o))
    so.looked c.in_err-look_at_page.ensures.err)
    c.from_residual.ensures.1

pub returns-in_err-counts-clause-goes : goal.returns-in_err-counts-clause-goes
returns-in_err-counts-clause-goes g c =
    let so = c.page.invariant in
    goes_then g.met.S.Steps.comes_on (λ base o. page_there c.args.blocks c.page.block (omega (arith, c.page-test.true)) so.looked.does.acts base o (so.goes.still_stands base o))
    so.goes c.in_ok-look_at_page.ensures.goes

pub returns-in_err-counts-clause-err : goal.returns-in_err-counts-clause-err
returns-in_err-counts-clause-err g c =
    let so = c.page.invariant in
    handed _ c.from_residual-in_err-counts.result
    (ended_memory c.in_err-counts.field-0.0 c.in_err-counts.ensures.memory
    (looks_then so.goes.stays (λ base o. page_there c.args.blocks c.page.block (omega (arith, c.page-test.true)) so.looked.does.acts base o (so.goes.still_stands base o))
    so.looked c.in_ok-look_at_page.ensures.looked))
    c.from_residual-in_err-counts.ensures.1

pub page-preserved : goal.page-preserved
page-preserved g c =
    let S = g.S.Steps in
    let s0 = c.args.steps.now in
    let so = c.page.invariant in
    let on = λ (base : Index) (o : OverGraphs (S.stands s0) (HasBlocks (S.seen s0) c.args.blocks) base).
    page_there c.args.blocks c.page.block (omega (arith, c.page-test.true)) so.looked.does.acts base o (so.goes.still_stands base o) in
    record {
      goes = goes_then g.met.S.Steps.comes_on on so.goes c.in_ok-look_at_page.ensures.goes;
      told = c.in_ok-look_at_page.ensures.told ∙ ap (λ (d : Desk). d.params.bits) so.goes.stays;
      looked = looks_then so.goes.stays on so.looked c.in_ok-look_at_page.ensures.looked;
      blocks_are = ap (λ (k : Counts). k.blocks) c.in_ok-counts.ensures.ok ∙ blocks_kept c.page.counts c.as_slice.result.now ∙ so.blocks_are;
      counted = λ h o same.
          let none = between so.looked.does.acts c.in_ok-look_at_page.ensures.looked.does.acts same in
          let told = ap (map seen_told) c.as_slice.ensures ∙ c.in_ok-look_at_page.ensures.exact h (on (OfNodes h) o) (same ∙ sym none)
          ∙ ap (λ (l : List Act). nodes_on (after h l) c.page.block) none in
          subst (λ (k : Counts). CountedBelow k (c.page.block + 1) (after h (S.seen s0))) (sym c.in_ok-counts.ensures.ok)
          (page_counted c.page.counts c.as_slice.result.now (after h (S.seen s0)) c.page.block (so.counted h o none) told);
    }

pub returns-clause-exact : goal.returns-clause-exact
returns-clause-exact g c = λ h o same blocks.
    let s0 = c.args.steps.now in
    let shaped = shaped_after h (g.met.S.Steps.shaped s0 (OfNodes h) o.stood) (g.S.Steps.seen s0) (g.met.S.Steps.legal s0 (OfNodes h) o.stood) in
    let so = c.page.invariant in
    let one : 1 ≤ c.args.blocks = let from = shaped.blocks_from_1 in omega (arith, from, blocks) in
    let end : c.page.block ≡ c.args.blocks = let high = c.page.auto.block-end one in omega (arith, high, c.page-test.false) in
    all_counted c.page.counts (after h (g.S.Steps.seen s0)) shaped (so.blocks_are ∙ blocks)
    (subst (λ n. CountedBelow c.page.counts n (after h (g.S.Steps.seen s0))) (end ∙ blocks) (so.counted h o same))
