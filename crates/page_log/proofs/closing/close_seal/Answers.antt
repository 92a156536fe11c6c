use Rattle.page_log.specs.Aside.{IsAside}
use Rattle.page_log.specs.Opening.{parity_of}
use Rattle.page_log.proofs.Fronts.{read_one}
use Rattle.page_log.proofs.Keeping.{keeps_read, keeps_both}
use Rattle.page_log.proofs.closing.close_seal.Goals as goal

pub returns-in_err-len-clause-keeps : goal.returns-in_err-len-clause-keeps
returns-in_err-len-clause-keeps g c below =
    keeps_read (IsAside (parity_of c.args.area) below) c.args.area _ _ (read_one _ _ (g.met.D.Disks.only_now c.args.disks.now) c.len.ensures.kept c.len.ensures.time)

pub returns-then-branch-clause-keeps : goal.returns-then-branch-clause-keeps
returns-then-branch-clause-keeps g c below =
    let area = c.args.area in
    let old = g.D.Disks.disk c.args.disks.now in
    let mid = g.D.Disks.disk c.len.new.self in
    keeps_both (IsAside (parity_of area) below) area old mid (g.D.Disks.disk c.fill.new.disks)
    (keeps_read (IsAside (parity_of area) below) area old mid (read_one old mid (g.met.D.Disks.only_now c.args.disks.now) c.len.ensures.kept c.len.ensures.time))
    (c.fill.ensures.keeps below)

pub returns-clause-keeps : goal.returns-clause-keeps
returns-clause-keeps g c below =
    let area = c.args.area in
    let old = g.D.Disks.disk c.args.disks.now in
    let mid = g.D.Disks.disk c.len.new.self in
    keeps_both (IsAside (parity_of area) below) area old mid (g.D.Disks.disk c.close_whole.new.disks)
    (keeps_read (IsAside (parity_of area) below) area old mid (read_one old mid (g.met.D.Disks.only_now c.args.disks.now) c.len.ensures.kept c.len.ensures.time))
    (c.close_whole.ensures.keeps below)
