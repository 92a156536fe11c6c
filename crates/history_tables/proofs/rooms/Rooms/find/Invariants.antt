use Rattle.std.proofs.Common.{◌≡◌, ◌≢◌, ◌<◌, ℕ, slice_get, Some}
use Rattle.history_tables.specs.declared.rooms.Room.{Room}
use Rattle.history_tables.proofs.rooms.Rooms.find.Given as goal

-- none before is the desk's
abbrev pub invariant-loop-k : goal.invariant-loop-k
invariant-loop-k l = (j : ℕ) (r : Room) → j < l.k → slice_get l.self.rooms.items j ≡ Some r → r.desk ≢ l.desk
