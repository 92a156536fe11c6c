use Rattle.std.proofs.Common.{arith}
use Rattle.page_log.specs.Aside.{IsAside}
use Rattle.page_log.specs.Opening.{parity_of}
use Rattle.page_log.proofs.Keeping.{keeps_none}
use Rattle.page_log.proofs.closing.fill.Goals as goal

-- of an area that is too short no image is aside
pub returns-clause-keeps : goal.returns-clause-keeps
returns-clause-keeps g c below =
    let area = c.args.area in
    let old = g.D.Disks.disk c.args.disks.now in
    keeps_none (IsAside (parity_of area) below) area _ _ old (g.D.Disks.disk c.write_synced.new.disks) c.write_synced.ensures.written c.write_synced.ensures.moments
    (λ all was left.
    let told = g.met.D.Disks.leaves_told c.args.disks.now area was left in
    let seen = all (old.seen area) (g.met.D.Disks.seen_leaves c.args.disks.now area told) in
    absurd (omega (arith, c.requires.short told, seen.whole)))
