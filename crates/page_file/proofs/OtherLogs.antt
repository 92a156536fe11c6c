-- A write of pages leaves the logs alone.
use Rattle.std.proofs.Common.{◌≢◌, ℕ, List, []}
use Rattle.page_file.specs.Area.{IsWritten, IsTornImage}
use Rattle.page_log.specs.BothLogs.{Logs, LogsComeFrom}
use Rattle.page_log.proofs.BothAreas.{pages_written}
use Rattle.vec_outside.specs.Disk.{Disk, LeavesOnly}
use Rattle.vec_outside.specs.declared.disks.Area.{Area}
use Rattle.vec_outside.specs.declared.disks.Area.TheVariants.{Pages}
use Rattle.vec_outside.proofs.Moments.{weakened}

pub logs_stay : (pairs : List (ℕ × ℕ)) (logs : Logs) (old new : Disk) → IsWritten pairs old new → LeavesOnly old new (IsTornImage pairs old) → LogsComeFrom logs old logs new []
logs_stay pairs logs old new written moments = pages_written logs old new (record {
  seen = λ other apart. written.other_seen other apart;
  leaves = λ other bytes apart left. written.other_leaves other bytes apart left;
  moments = weakened old new (IsTornImage pairs old) (λ image. (other : Area) → other ≢ Pages → old.leaves other (image other)) moments
      (λ image torn other apart. torn.others other apart);
})
