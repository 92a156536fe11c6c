-- What is seen of disks in memory.
use Rattle.std.specs.Prelude.{ℕ, Bool}
use Rattle.vec_outside.specs.Disk.{Disk, Image}
use Rattle.vec_outside.specs.MemDisk.{timeline_disk, synced_image}
use Rattle.vec_outside.specs.Planned.{counted}
use Rattle.vec_outside.specs.declared.mem_disks.MemDisks.{MemDisks}
use Rattle.vec_outside.specs.declared.plan.Plan.{Plan}

-- what a read gives, what a crash may leave, and the clock
abbrev pub mem_disk : MemDisks → Disk
mem_disk disks = timeline_disk disks.timeline

-- what the last syncs left of each area, or what it began with
abbrev pub mem_synced : MemDisks → Image
mem_synced disks = synced_image disks.timeline

-- the calls that are to fail, and the counts
abbrev pub disks_plan : MemDisks → Plan
disks_plan disks = disks.plan

-- after a call that changes nothing, which failed or did not
abbrev pub asked : MemDisks → Bool → MemDisks
asked disks failed = record disks { plan = counted disks.plan failed }

-- every call with a greater number is to fail too
abbrev pub stopped : MemDisks → ℕ → MemDisks
stopped disks calls = record disks { plan = record disks.plan { stop = calls } }
