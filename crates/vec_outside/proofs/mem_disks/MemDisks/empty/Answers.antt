use Rattle.std.proofs.Common.{rules, ◌≡◌, ◌∙◌, replicate}
use Rattle.vec_outside.specs.Areas.{empty_image}
use Rattle.vec_outside.specs.Disk.{image_of}
use Rattle.vec_outside.proofs.mem_disks.MemDisks.empty.Goals as goal

-- what it is made over is what a new disk has
made : (c : goal.After-over) → image_of c.new-pages.result.items c.in_ok-log0.log0.items c.in_ok-log1.log1.items ≡ empty_image
made c =
    let log0 : c.in_ok-log0.log0.items ≡ replicate 40 0 = search rules in
    let log1 : c.in_ok-log1.log1.items ≡ replicate 40 0 = search rules in
    λ i. image_of (c.new-pages.ensures.items i) (log0 i) (log1 i)

pub returns-clause-bytes : goal.returns-clause-bytes
returns-clause-bytes c = c.over.ensures.bytes ∙ made c

pub returns-clause-synced : goal.returns-clause-synced
returns-clause-synced c = c.over.ensures.synced ∙ made c
