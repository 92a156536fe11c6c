use Rattle.std.proofs.Common.{[]}
use Rattle.std.proofs.lemmas.Result.{on_ok_weaker, on_err_weaker}
use Rattle.vec_outside.proofs.Exits.{on_err}
use Rattle.page_log.specs.Parts.{out, past}
use Rattle.page_log.proofs.Coming.{comes_further}
use Rattle.page_log.proofs.flushing.write_batch.Goals as goal

pub returns-clause-err : goal.returns-clause-err
returns-clause-err g c newer =
    let pending = c.fix.new.pending in
    on_err_weaker c.write_seal.result
    (comes_further (out c.args.pending.now newer) (out pending newer) (out pending newer)
    (g.D.Disks.disk c.args.disks.now) (g.D.Disks.disk c.fix.new.disks) (g.D.Disks.disk c.write_seal.new.disks) [] [] (c.fix.ensures.from newer))
    (c.write_seal.ensures.err newer)

pub returns-clause-ok : goal.returns-clause-ok
returns-clause-ok g c newer =
    let pending = c.fix.new.pending in
    on_ok_weaker c.write_seal.result
    (comes_further (out c.args.pending.now newer) (out pending newer) (past pending newer)
    (g.D.Disks.disk c.args.disks.now) (g.D.Disks.disk c.fix.new.disks) (g.D.Disks.disk c.write_seal.new.disks) [] [] (c.fix.ensures.from newer))
    (c.write_seal.ensures.ok newer)

pub returns-in_err-fix-clause-err : goal.returns-in_err-fix-clause-err
returns-in_err-fix-clause-err g c newer = on_err c.from_residual.result (c.fix.ensures.from newer)
