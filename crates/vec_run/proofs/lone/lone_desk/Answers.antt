use Rattle.std.proofs.Common.{◌≤◌, length, sym, subst, arith}
use Rattle.vec_outside.specs.Areas.{empty_image}
use Rattle.vec_outside.specs.Disk.{Image}
use Rattle.vec_outside.specs.declared.disks.Area.{Area}
use Rattle.vec_run.proofs.lone.lone_desk.Goals as goal

pub from_loaded-requires-clause-reach : goal.from_loaded-requires-clause-reach
from_loaded-requires-clause-reach c told =
    let l = c.in_ok-loaded.loaded in
    subst (λ (i : Image). l.end ≤ length (i l.area)) (sym c.in-Ok.ensures.bytes)
    (subst (λ (a : Area). l.end ≤ length (empty_image a)) (sym c.in_ok-loaded.ensures.area) (omega (arith, c.in_ok-loaded.ensures.end)))
