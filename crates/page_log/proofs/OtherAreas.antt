-- The areas that a call does not name.
use Rattle.std.proofs.Common.{◌≢◌, ℕ, ◌∙◌}
use Rattle.vec_outside.specs.declared.disks.Area.{Area}
use Rattle.vec_outside.specs.Disk.{Disk, IsImage, IsWritten, IsTornImage, LeavesOnly}
use Rattle.vec_outside.proofs.Moments.{weakened, joined}
use Rattle.page_log.specs.Going.{KeepsOthers}
use Rattle.page_log.specs.Steps.{OnlyReads}

pub keeps_reading : (area : Area) (old new : Disk) → OnlyReads old new → KeepsOthers area old new
keeps_reading area old new only = record {
  seen = λ other apart. only.kept.seen other;
  leaves = λ other bytes apart left. only.kept.leaves other bytes left;
  moments = weakened old new (IsImage old) (λ image. (other : Area) → other ≢ area → old.leaves other (image other)) only.moments (λ image is other apart. is other);
}

pub keeps_writing : (area : Area) (at n : ℕ) (old new : Disk) → IsWritten area at n old new → LeavesOnly old new (IsTornImage area at n old) → KeepsOthers area old new
keeps_writing area at n old new written moments = record {
  seen = λ other apart. written.other_seen other apart;
  leaves = λ other bytes apart left. written.other_leaves other bytes apart left;
  moments = weakened old new (IsTornImage area at n old) (λ image. (other : Area) → other ≢ area → old.leaves other (image other)) moments (λ image torn other apart. torn.others other apart);
}

pub keeps_on : (area : Area) (old mid new : Disk) → KeepsOthers area old mid → KeepsOthers area mid new → KeepsOthers area old new
keeps_on area old mid new first second = record {
  seen = λ other apart. second.seen other apart ∙ first.seen other apart;
  leaves = λ other bytes apart left. first.leaves other bytes apart (second.leaves other bytes apart left);
  moments = joined old mid new (λ image. (other : Area) → other ≢ area → old.leaves other (image other)) (λ image. (other : Area) → other ≢ area → mid.leaves other (image other))
      first.moments second.moments (λ image is other apart. first.leaves other (image other) apart (is other apart));
}
