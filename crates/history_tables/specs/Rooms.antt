-- The room that each desk has in reserve.
use Rattle.std.specs.Prelude.{◌≡◌, ◌≢◌, ℕ, ◌+◌, ◌-◌, ◌<◌, ◌==◌, if◌then◌else◌, List, [], ◌∷◌, slice_get, Some}
use Rattle.history_tables.specs.declared.rooms.Room.{Room}

-- how many acts a desk has room for, 0 where the list does not name it
abbrev pub room_of : List Room → ℕ → ℕ
room_of [] desk = 0
room_of (r ∷ rooms) desk = if r.desk == desk then r.acts else room_of rooms desk

-- and all desks together
abbrev pub room_in_all : List Room → ℕ
room_in_all [] = 0
room_in_all (r ∷ rooms) = r.acts + room_in_all rooms

-- the desk has so much room, and the others what they had
abbrev pub with_room : ℕ → ℕ → List Room → List Room
with_room desk acts [] = record { desk = desk; acts = acts } ∷ []
with_room desk acts (r ∷ rooms) = if r.desk == desk then record { desk = desk; acts = acts } ∷ rooms else r ∷ with_room desk acts rooms

-- the desk has room for one act less, where it has any
abbrev pub spent : ℕ → List Room → List Room
spent desk [] = []
spent desk (r ∷ rooms) = if r.desk == desk then record { desk = desk; acts = r.acts - 1 } ∷ rooms else r ∷ spent desk rooms

-- the first of the desk is the one of number k, and has this room
pub record IsFirstOf (rooms : List Room) (desk k acts : ℕ) : Type 0 where
  pub at : slice_get rooms k ≡ Some (record { desk = desk; acts = acts })
  pub none_before : (j : ℕ) (r : Room) → j < k → slice_get rooms j ≡ Some r → r.desk ≢ desk

abbrev pub IsNoneOf : List Room → ℕ → Type 0
IsNoneOf rooms desk = (j : ℕ) (r : Room) → slice_get rooms j ≡ Some r → r.desk ≢ desk
