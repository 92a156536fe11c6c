use Rattle.std.proofs.Common.{subst, arith}
use Rattle.page_log.specs.Steps.{GoesOn, Ends}
use Rattle.page_log.proofs.Fronts.{reads_on}
use Rattle.page_log.proofs.Runs.{run_on, run_ends}
use Rattle.page_log.proofs.log_reading.read_batches.Goals as goal

pub returns-then-not-branch-clause-log : goal.returns-then-not-branch-clause-log
returns-then-not-branch-clause-log g c told =
    let area = (g.D.Disks.disk c.args.disks.now).seen c.args.area in
    let same = c.loop-run.invariant.only.kept.seen c.args.area in
    let ends : Ends area c.loop-run.run c.read_batch.new.run =
    subst (λ area. Ends area c.loop-run.run c.read_batch.new.run) same (c.in_ok-read_batch.ensures.stops told c.if-not-branch.true) in
    run_ends area c.args.at c.loop-run.run c.read_batch.new.run (c.loop-run.invariant.run told) ends

pub loop-run-preserved : goal.loop-run-preserved
loop-run-preserved g c =
    let area = (g.D.Disks.disk c.args.disks.now).seen c.args.area in
    let same = c.loop-run.invariant.only.kept.seen c.args.area in record {
      used = c.in_ok-read_batch.ensures.used c.if-not-branch.false;
      end = (omega (arith, c.loop-run.invariant.end.0, (c.in_ok-read_batch.ensures.further c.if-not-branch.false).0), omega (arith, c.loop-run.invariant.end.1, c.in_ok-read_batch.ensures.bound c.if-not-branch.false));
      fine = c.in_ok-read_batch.ensures.fine c.if-not-branch.false;
      size = c.loop-run.invariant.size;
      run = λ told. run_on area c.args.at c.loop-run.run c.read_batch.new.run (c.loop-run.invariant.run told)
          (subst (λ area. GoesOn area c.loop-run.run c.read_batch.new.run) same (c.in_ok-read_batch.ensures.whole told c.if-not-branch.false));
      only = reads_on _ _ _ c.loop-run.invariant.only c.read_batch.ensures.only;
      later = omega (arith, c.loop-run.invariant.later, c.read_batch.ensures.cause.later);
    }

pub returns-then-not-branch-clause-range : goal.returns-then-not-branch-clause-range
returns-then-not-branch-clause-range g c =
    let stays = c.in_ok-read_batch.ensures.stays c.if-not-branch.true in
    (omega (arith, stays.0, c.loop-run.invariant.end.0), omega (arith, stays.0, c.loop-run.invariant.end.1, c.loop-run.invariant.used), stays.1)
