use Rattle.std.proofs.Common.{◌+◌, ℕ, List, ◌∙◌, ap}
use Rattle.vec_outside.specs.Disk.{spliced}
use Rattle.page_log.specs.Parts.{out}
use Rattle.page_log.proofs.Staging.{body_begun, body_written}
use Rattle.page_log.proofs.flushing.write_body.Goals as goal

pub returns-in_err-write_synced-clause-from : goal.returns-in_err-write_synced-clause-from
returns-in_err-write_synced-clause-from g c newer =
    let e = c.write_synced.ensures in
    body_begun (out c.args.pending.now newer) _ (g.D.Disks.disk c.args.disks.now) (g.D.Disks.disk c.write_synced.new.disks) c.requires.open e.moments e.written

pub returns-clause-from : goal.returns-clause-from
returns-clause-from g c newer =
    let log = out c.args.pending.now newer in
    let old = g.D.Disks.disk c.args.disks.now in
    let new = g.D.Disks.disk c.write_synced.new.disks in
    body_written log _ old new c.requires.open c.write_synced.ensures.moments c.write_synced.ensures.written c.requires.some (λ bytes left. (
      old.seen log.area,
      g.met.D.Disks.seen_leaves c.args.disks.now log.area (g.met.D.Disks.leaves_told c.write_synced.new.disks log.area bytes left),
      c.in_ok-write_synced.ensures.durable bytes left ∙ ap (λ (l : List ℕ). spliced (old.seen log.area) (log.at + 1) l) c.deref.ensures.value,
    ))
