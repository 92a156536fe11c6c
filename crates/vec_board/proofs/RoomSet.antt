-- What it comes to that a desk's room is set, or that no memory was found for that.
use Rattle.std.proofs.Common.{◌≡◌, ◌≢◌, ◌≤◌, ◌<◌, ◌+◌, ℕ, max, List, Result, Ok, Err, OnOk, OnErr, ap, ◌∙◌, arith}
use Rattle.history_tables.specs.declared.rooms.Room.{Room}
use Rattle.history_tables.specs.Rooms.{room_of, room_in_all, with_room}
use Rattle.history_tables.proofs.OneRoom.{set_own, set_other, set_all}

module _ {E : Type 0} (old new : List Room) (desk count : ℕ) where
  pub own_set : (r : Result (Unit {0}) E) → OnOk r (new ≡ with_room desk count old) → room_of old desk < count
      → OnOk r (room_of new desk ≡ max count (room_of old desk))
  own_set (Ok done) is less =
      let now : room_of new desk ≡ count = ap (λ (rooms : List Room). room_of rooms desk) is ∙ set_own old desk count in
      omega (arith, now, less)
  own_set (Err e) is less = tt

  pub others_kept : (r : Result (Unit {0}) E) → OnOk r (new ≡ with_room desk count old) → OnErr r (new ≡ old) → (other : ℕ) → other ≢ desk
      → room_of new other ≡ room_of old other
  others_kept (Ok done) is same other differs = ap (λ (rooms : List Room). room_of rooms other) is ∙ set_other old desk count other differs
  others_kept (Err e) is same other differs = ap (λ (rooms : List Room). room_of rooms other) same

  pub all_low : (r : Result (Unit {0}) E) → OnOk r (new ≡ with_room desk count old) → OnErr r (new ≡ old) → room_in_all new ≤ room_in_all old + count
  all_low (Ok done) is same =
      let now = ap room_in_all is in
      let all = set_all old desk count in
      omega (arith, now, all)
  all_low (Err e) is same = let now = ap room_in_all same in omega (arith, now)
