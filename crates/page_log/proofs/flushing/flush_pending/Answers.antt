use Rattle.std.proofs.Common.{rules, ◌≡◌, length, refl}
use Rattle.page_log.specs.Parts.{out, past}
use Rattle.page_log.proofs.Coming.{comes_empty, all_settled, no_bytes}
use Rattle.page_log.proofs.flushing.flush_pending.Goals as goal

pub returns-then-is_empty-clause-ok : goal.returns-then-is_empty-clause-ok
returns-then-is_empty-clause-ok g c newer =
    let none : length c.args.pending.now.bytes.items ≡ 0 = search rules in
    comes_empty (out c.args.pending.now newer) (g.D.Disks.disk c.args.disks.now) (g.met.D.Disks.only_now c.args.disks.now) (no_bytes _ none)

pub returns-then-is_empty-clause-all : goal.returns-then-is_empty-clause-all
returns-then-is_empty-clause-all g c newer no_newer =
    let disk = g.D.Disks.disk c.args.disks.now in
    all_settled (out c.args.pending.now newer) (past c.args.pending.now newer) disk disk refl no_newer (returns-then-is_empty-clause-ok g c newer)

pub returns-in-Ok-clause-all : goal.returns-in-Ok-clause-all
returns-in-Ok-clause-all g c newer no_newer =
    all_settled (out c.args.pending.now newer) (past c.write_batch.new.pending newer) (g.D.Disks.disk c.args.disks.now) (g.D.Disks.disk c.write_batch.new.disks)
    refl no_newer (c.in-Ok.ensures.ok newer)
