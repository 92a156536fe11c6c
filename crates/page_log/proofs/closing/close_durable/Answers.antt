use Rattle.page_log.specs.Aside.{IsAside}
use Rattle.page_log.specs.Opening.{parity_of}
use Rattle.page_log.proofs.Keeping.{keeps_read, keeps_both}
use Rattle.page_log.proofs.closing.close_durable.Goals as goal

pub returns-then-branch-clause-keeps : goal.returns-then-branch-clause-keeps
returns-then-branch-clause-keeps g c below =
    let area = c.args.area in
    let old = g.D.Disks.disk c.args.disks.now in
    let mid = g.D.Disks.disk c.is_open.new.disks in
    keeps_both (IsAside (parity_of area) below) area old mid (g.D.Disks.disk c.close_open.new.disks)
    (keeps_read (IsAside (parity_of area) below) area old mid c.is_open.ensures.only) (c.close_open.ensures.keeps below)
