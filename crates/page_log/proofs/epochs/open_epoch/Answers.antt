use Rattle.std.proofs.Common.{◌∙◌, ℕ, sym, ap, subst}
use Rattle.page_log.specs.Aside.{IsUnderSome, Keeps}
use Rattle.page_log.specs.Opening.{area_of}
use Rattle.page_log.proofs.BothAreas.{under_there, seal_tried, seal_opened}
use Rattle.page_log.proofs.NewBases.{under_kept, under_written}
use Rattle.page_log.proofs.epochs.open_epoch.Goals as goal

pub returns-in-Ok-clause-keeps : goal.returns-in-Ok-clause-keeps
returns-in-Ok-clause-keeps g c new =
    let old = g.D.Disks.disk c.args.disks.now in
    let after = g.D.Disks.disk c.write_synced.new.disks in
    subst (λ a. Keeps (IsUnderSome new) a old after) c.area_of.ensures
    (under_kept new c.area_of.result old after c.write_synced.ensures.written c.write_synced.ensures.moments)

pub returns-in-Ok-clause-ok : goal.returns-in-Ok-clause-ok
returns-in-Ok-clause-ok g c log new is held stands =
    let area = c.area_of.result in
    let old = g.D.Disks.disk c.args.disks.now in
    let after = g.D.Disks.disk c.write_synced.new.disks in
    let kept = under_kept new area old after c.write_synced.ensures.written c.write_synced.ensures.moments in
    let is_area = c.area_of.ensures ∙ ap (λ (n : ℕ). area_of n) (sym is) in
    seal_opened log new area old after kept is_area held stands (λ bytes left.
    under_written new 165 (old.seen area) bytes
    (under_there log new area old after kept is_area held stands (old.seen area)
    (g.met.D.Disks.seen_leaves c.args.disks.now area (g.met.D.Disks.leaves_told c.write_synced.new.disks area bytes left)))
    (c.in-Ok.ensures.durable bytes left))

pub returns-in-Err-clause-keeps : goal.returns-in-Err-clause-keeps
returns-in-Err-clause-keeps g c new =
    let old = g.D.Disks.disk c.args.disks.now in
    let after = g.D.Disks.disk c.write_synced.new.disks in
    subst (λ a. Keeps (IsUnderSome new) a old after) c.area_of.ensures
    (under_kept new c.area_of.result old after c.write_synced.ensures.written c.write_synced.ensures.moments)

pub returns-in-Err-clause-err : goal.returns-in-Err-clause-err
returns-in-Err-clause-err g c log new is held stands =
    let area = c.area_of.result in
    let old = g.D.Disks.disk c.args.disks.now in
    let after = g.D.Disks.disk c.write_synced.new.disks in
    seal_tried log new area old after (under_kept new area old after c.write_synced.ensures.written c.write_synced.ensures.moments)
    (c.area_of.ensures ∙ ap (λ (n : ℕ). area_of n) (sym is)) held stands
