-- The room that a history of acts keeps in memory.
use Rattle.std.specs.Prelude.{ℕ, ◌+◌, ◌*◌, List}
use Rattle.vec_history.specs.declared.event.Event.{Event}
use Rattle.vec_history.specs.declared.event.Event.TheVariants as event
use Rattle.history_tables.specs.declared.rooms.Room.{Room}
use Rattle.history_tables.specs.declared.tables.Tables.{Tables}
use Rattle.history_tables.specs.Rooms.{room_in_all}
use Rattle.history_tables.specs.Telling.{ends_owed}

-- How many acts there is to be room for: each act in reserve, with the end that it may come to owe, and the ends that are owed.
abbrev pub to_come : List Room → Tables → ℕ
to_come rooms tables = 2 * room_in_all rooms + ends_owed tables

-- 1 of an event that ends a hold, or a vacuum
abbrev pub one_if_ends : Event → ℕ
one_if_ends (event.Ungate gate) = 1
one_if_ends event.VacuumEnd = 1
one_if_ends (event.Cancel stage) = 1
one_if_ends _ = 0
