use Rattle.std.proofs.lemmas.Result.{on_ok_weaker}
use Rattle.vec_outside.proofs.Exits.{on_err}
use Rattle.page_log.specs.Parts.{out}
use Rattle.page_log.proofs.Staging.{seal_begun, seal_written}
use Rattle.page_log.proofs.flushing.write_seal.Goals as goal

pub returns-clause-err : goal.returns-clause-err
returns-clause-err g c newer =
    let log = out c.args.pending.now newer in
    let e = c.write_synced.ensures in
    on_err c.write_synced.result (seal_begun log (g.D.Disks.disk c.args.disks.now) (g.D.Disks.disk c.write_synced.new.disks) c.requires.fixed e.moments e.written)

pub returns-clause-ok : goal.returns-clause-ok
returns-clause-ok g c newer =
    let log = out c.args.pending.now newer in
    let old = g.D.Disks.disk c.args.disks.now in
    let new = g.D.Disks.disk c.write_synced.new.disks in
    on_ok_weaker c.write_synced.result (λ durable. seal_written log old new c.requires.fixed c.write_synced.ensures.moments c.write_synced.ensures.written c.requires.some (λ bytes left. (
      old.seen log.area,
      g.met.D.Disks.seen_leaves c.args.disks.now log.area (g.met.D.Disks.leaves_told c.write_synced.new.disks log.area bytes left),
      durable bytes left,
    ))) c.write_synced.ensures.durable
