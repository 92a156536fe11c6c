-- What a board asks of an index that was read or made.
use Rattle.std.specs.Prelude.{◌≡◌, ◌<◌, ◌≤◌, ◌^◌, All, length}
use Rattle.std.specs.List.Sorted.{IsStrictlyIncreasing}
use Rattle.index_sizes.specs.declared.limits.TheConstants.{LOG_ROOM, MOST_BLOCKS}
use Rattle.page_log.specs.declared.limits.TheConstants.{HEAD}
use Rattle.page_log.specs.Opening.{area_of}
use Rattle.loaded_index.specs.declared.loaded.Loaded.{Loaded}

-- Its pages are not too many, its log can go on, and the unwritten blocks rise and are there.
pub record CanGoOn (l : Loaded) : Type 0 where
  pub few : length l.pages.items ≤ MOST_BLOCKS
  pub epoch : 1 ≤ l.epoch
  pub area : l.area ≡ area_of l.epoch
  pub header : HEAD ≤ l.end
  pub end : l.end ≤ 2 ^ 32
  pub used : l.used ≤ LOG_ROOM
  pub rising : IsStrictlyIncreasing l.unwritten.items
  pub there : All (λ block. block < length l.pages.items) l.unwritten.items
