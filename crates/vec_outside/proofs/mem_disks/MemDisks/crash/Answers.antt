use Rattle.std.proofs.Common.{◌≡◌, List, ℕ, sym, subst, ◌∙◌}
use Rattle.vec_outside.specs.declared.disks.Area.{Area}
use Rattle.vec_outside.specs.declared.disks.Area.TheVariants.{Pages, Log0, Log1}
use Rattle.vec_outside.specs.Disk.{Image, image_of}
use Rattle.vec_outside.specs.Areas.{bytes_of}
use Rattle.vec_outside.specs.Crash.{IsChosen}
use Rattle.vec_outside.specs.MemDisk.{Leaves}
use Rattle.vec_outside.specs.MemDisks.{mem_disk, mem_synced}
use Rattle.vec_outside.proofs.mem_disks.MemDisks.crash.Goals as goal

-- what holds of each of three areas holds of their image
each : (P : Area → List ℕ → Type 0) (pages log0 log1 : List ℕ) → P Pages pages → P Log0 log0 → P Log1 log1 → (image : Image) → image ≡ image_of pages log0 log1 → (area : Area) → P area (image area)
each P pages log0 log1 is_pages is_log0 is_log1 image is area =
    subst (λ (i : Image). P area (i area)) (sym is) (elim area as (λ a. P a (image_of pages log0 log1 a)) [ Pages ↦ is_pages | Log0 ↦ is_log0 | Log1 ↦ is_log1 ])

pub returns-clause-image : goal.returns-clause-image
returns-clause-image c =
    each (λ area bytes. Leaves area (bytes_of c.args.self.now.timeline.areas area) c.args.self.now.timeline.done.items bytes) _ _ _
    c.in_ok-pages.ensures.leaves c.in_ok-log0.ensures.leaves c.in_ok-log1.ensures.leaves _ c.over.ensures.bytes

pub returns-clause-chosen : goal.returns-clause-chosen
returns-clause-chosen c =
    each (λ area bytes. IsChosen c.args.choice ((mem_disk c.args.self.now).seen area) (mem_synced c.args.self.now area) bytes) _ _ _
    c.in_ok-pages.ensures.chosen c.in_ok-log0.ensures.chosen c.in_ok-log1.ensures.chosen _ c.over.ensures.bytes

pub returns-clause-synced : goal.returns-clause-synced
returns-clause-synced c = c.over.ensures.synced ∙ sym c.over.ensures.bytes
