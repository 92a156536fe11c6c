-- A history that has room for one act more.
use Rattle.std.specs.Prelude.{◌≡◌, ◌⊎◌, ℕ, ◌+◌, ◌≤◌, List, vec_len, vec_capacity}
use Rattle.vec_history.specs.declared.event.Event.{Event}
use Rattle.vec_history.specs.declared.event.Act.{Act}
use Rattle.history_tables.specs.Rooms.{room_of, room_in_all, spent}
use Rattle.history_tables.specs.Telling.{Tells, IsTaking, HasRoom, one_if_begins}
use Rattle.vec_board.specs.declared.history.History.{History}
use Rattle.vec_board.specs.declared.limits.TheConstants.{MOST_ACTS}
use Rattle.vec_board.specs.Keeping.{to_come, one_if_ends}

-- how many acts there are with this one, and there is to be room for behind it, unless the act ends something
abbrev pub with_act : History → ℕ → Event → ℕ
with_act h desk e = vec_len h.acts + 1 + to_come (spent desk h.rooms.rooms.items) h.tables + one_if_begins e

-- The history has room for this act, and for all that is to come behind it.
pub record IsReady (h : History) (desk : ℕ) (e : Event) : Type 0 where
  pub acts : with_act h desk e ≤ vec_capacity h.acts + one_if_ends e
  pub few : with_act h desk e ≤ MOST_ACTS + one_if_ends e
  pub holds : IsTaking e → HasRoom (room_in_all (spent desk h.rooms.rooms.items) + 1) h.tables

-- The act has room of its own: it ends something, or its desk has room in reserve.
abbrev pub HasOwnRoom : History → ℕ → Event → Type 0
HasOwnRoom h desk e = (one_if_ends e ≡ 1) ⊎ (1 ≤ room_of h.rooms.rooms.items desk)

-- the same acts, with tables that tell the same of them, and the same room of each desk
pub record IsSameHistory (old new : History) : Type 0 where
  pub acts : new.acts.items ≡ old.acts.items
  pub tells : (acts : List Act) → Tells old.tables acts → Tells new.tables acts
  pub rooms : new.rooms.rooms.items ≡ old.rooms.rooms.items
