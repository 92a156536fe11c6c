use Rattle.std.proofs.Common.{◌∙◌, ◌++◌, List, ℕ, ap, map, length, sym, refl, subst}
use Rattle.bit_dist.specs.Hits.{Hit}
use Rattle.graph_search.specs.Scan.{Mode}
use Rattle.vec_steps.specs.Desks.{Desk}
use Rattle.vec_steps.specs.Index.{Index}
use Rattle.vec_steps.specs.Calls.{HoldsNone}
use Rattle.vec_steps.proofs.Following.{goes_over, goes_then}
use Rattle.layer_search.proofs.Looks.{fails}
use Rattle.hnsw_insert.proofs.Stopped.{handed}
use Rattle.hnsw_scan.specs.Answering.{given_in}
use Rattle.script_jobs.specs.Searching.{SearchEnds, hit_of, is_finished}
use Rattle.script_jobs.proofs.Batches.{ends_first, ends_next, ends_untold, over_nothing, same_so_far, so_first, so_next}
use Rattle.script_jobs.proofs.searching.find.Goals as goal

pub returns-in_err-batch-clause-err : goal.returns-in_err-batch-clause-err
returns-in_err-batch-clause-err g c =
    let S = g.S.Steps in
    let s0 = c.args.steps.now in
    let on = λ (base : Index) (st : S.stands s0 base).
    over_nothing (S.seen s0) (S.desk s0).params c.requires.nodes base (g.met.S.Steps.index s0 base st) st in
    handed _ c.from_residual.result (ends_first c.in_err-batch.field-0.0 on c.requires.fits c.in_err-batch.ensures.err) c.from_residual.ensures.1

pub returns-in_err-add-clause-err : goal.returns-in_err-add-clause-err
returns-in_err-add-clause-err g c =
    let S = g.S.Steps in
    let s0 = c.args.steps.now in
    let on = λ (base : Index) (st : S.stands s0 base).
    over_nothing (S.seen s0) (S.desk s0).params c.requires.nodes base (g.met.S.Steps.index s0 base st) st in
    fails c.from_residual-in_err-add.result
    (λ e is. ends_untold e is (so_first c.args.limit on c.in_ok-batch.ensures.ok c.in_ok-batch.ensures.end)) c.from_residual-in_err-add.ensures.1

pub batch-init : goal.batch-init
batch-init g c =
    let S = g.S.Steps in
    let s0 = c.args.steps.now in
    let on = λ (base : Index) (st : S.stands s0 base).
    over_nothing (S.seen s0) (S.desk s0).params c.requires.nodes base (g.met.S.Steps.index s0 base st) st in
    let more = map hit_of (given_in c.in_ok-batch.batch.answers) in
    record {
      goes = goes_over on c.first.ensures.goes;
      gates = c.in_ok-batch.ensures.free;
      kept = c.first.ensures.wanted;
      under = c.in_ok-batch.ensures.under;
      told = λ base st. c.in_ok-batch.ensures.told base (on base st);
      so_far = same_so_far (c.in_ok-add.ensures.hits ∙ ap (λ (l : List Hit). l ++ more) c.requires.no_hit) c.in_ok-add.ensures.end
          (c.in_ok-add.ensures.reads ∙ ap (λ (l : List ℕ). l ++ c.in_ok-batch.batch.trace.reads) c.requires.no_read)
          (so_first c.args.limit on c.in_ok-batch.ensures.ok c.in_ok-batch.ensures.end);
    }

pub returns-then-are_enough-clause-ok : goal.returns-then-are_enough-clause-ok
returns-then-are_enough-clause-ok g c =
    let so = c.batch.invariant.so_far in
    record {
      standing = so.standing;
      end = c.batch.findings.end;
      searched = so.searched;
      finished = ap (λ (m : Mode). is_finished m c.args.limit (length c.batch.findings.hits) c.batch.findings.end) (sym c.requires.mode)
          ∙ sym c.are_enough.ensures ∙ c.if-are_enough.true;
    }

pub next-requires-clause-gates : goal.next-requires-clause-gates
next-requires-clause-gates g c =
    let so = c.batch.invariant in
    subst (λ (d : Desk). HoldsNone (g.S.Steps.seen c.batch.steps) d.number) (sym so.goes.stays) so.gates

pub returns-in_err-batch-2-clause-err : goal.returns-in_err-batch-2-clause-err
returns-in_err-batch-2-clause-err g c =
    let so = c.batch.invariant in
    let unfinished = ap (λ (m : Mode). is_finished m c.args.limit (length c.batch.findings.hits) c.batch.findings.end) (sym c.requires.mode)
    ∙ sym c.are_enough.ensures ∙ c.if-are_enough.false in
    handed _ c.from_residual-in_err-batch-2.result
    (ends_next c.in_err-batch-2.field-0.0 so.goes.stays so.kept so.told c.requires.fits so.so_far unfinished c.in_err-batch-2.ensures.err)
    c.from_residual-in_err-batch-2.ensures.1

pub returns-in_err-add-2-clause-err : goal.returns-in_err-add-2-clause-err
returns-in_err-add-2-clause-err g c =
    let so = c.batch.invariant in
    let unfinished = ap (λ (m : Mode). is_finished m c.args.limit (length c.batch.findings.hits) c.batch.findings.end) (sym c.requires.mode)
    ∙ sym c.are_enough.ensures ∙ c.if-are_enough.false in
    fails c.from_residual-in_err-add-2.result
    (λ e is. ends_untold e is (so_next so.goes.stays so.kept so.told so.so_far unfinished c.in_ok-batch-2.ensures.ok))
    c.from_residual-in_err-add-2.ensures.1

pub batch-preserved : goal.batch-preserved
batch-preserved g c =
    let S = g.S.Steps in
    let so = c.batch.invariant in
    let unfinished = ap (λ (m : Mode). is_finished m c.args.limit (length c.batch.findings.hits) c.batch.findings.end) (sym c.requires.mode)
    ∙ sym c.are_enough.ensures ∙ c.if-are_enough.false in
    record {
      goes = goes_then g.met.S.Steps.comes_on so.told so.goes c.next.ensures.goes;
      gates = subst (λ (d : Desk). HoldsNone (S.seen c.next.new.steps) d.number) so.goes.stays c.in_ok-batch-2.ensures.free;
      kept = c.next.ensures.wanted ∙ so.kept;
      under = c.in_ok-batch-2.ensures.under;
      told = λ base st. c.in_ok-batch-2.ensures.told base (so.told base st);
      so_far = same_so_far c.in_ok-add-2.ensures.hits c.in_ok-add-2.ensures.end c.in_ok-add-2.ensures.reads
          (so_next so.goes.stays so.kept so.told so.so_far unfinished c.in_ok-batch-2.ensures.ok);
    }

pub returns-clause-err : goal.returns-clause-err
returns-clause-err g c =
    let so = c.batch.invariant.so_far in
    SearchEnds.untold so.standing c.batch.findings.hits c.batch.findings.end c.batch.findings.reads so.searched refl
