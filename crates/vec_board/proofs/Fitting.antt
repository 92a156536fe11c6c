-- What room is left behind an act.
use Rattle.std.proofs.Common.{◌≡◌, ◌≤◌, ◌+◌, ℕ, List, vec_len, vec_capacity, refl, arith, inl, inr}
use Rattle.vec_history.specs.declared.event.Event.{Event}
use Rattle.vec_history.specs.declared.event.Event.TheVariants as event
use Rattle.history_tables.specs.declared.rooms.Room.{Room}
use Rattle.history_tables.specs.Rooms.{room_of, room_in_all, spent}
use Rattle.history_tables.specs.Telling.{IsTaking, HasRoom, one_if_begins}
use Rattle.history_tables.proofs.OneRoom.{spend_all, within_all}
use Rattle.vec_board.specs.declared.history.History.{History}
use Rattle.vec_board.specs.declared.limits.TheConstants.{MOST_ACTS}
use Rattle.vec_board.specs.Keeping.{to_come, one_if_ends}
use Rattle.vec_board.specs.Ready.{IsReady, HasOwnRoom}

-- what is owed falls by an end, and rises by what begins
pub owed_by : (e : Event) (before after : ℕ) → after ≤ before + one_if_begins e → (one_if_ends e ≡ 1 → after + 1 ≤ before)
    → after + one_if_ends e ≤ before + one_if_begins e
owed_by (event.Ungate gate) before after high ends = let low = ends refl in omega (arith, low)
owed_by event.VacuumEnd before after high ends = let low = ends refl in omega (arith, low)
owed_by (event.Cancel stage) before after high ends = let low = ends refl in omega (arith, low)
owed_by _ before after high ends = omega (arith, high)

-- an event takes a gate, or does not
pub takes_or : {X : Type 0} (e : Event) → (IsTaking e → X) → ((IsTaking e → ⊥) → X) → X
takes_or (event.Gate gate hold) yes_it no_it = yes_it tt
takes_or _ yes_it no_it = no_it (λ t. t)

pub begins_few : (e : Event) → one_if_begins e ≤ 1
begins_few (event.Gate gate hold) = omega arith
begins_few (event.Phase stage) = omega arith
begins_few _ = omega arith

pub begins_no_end : (e : Event) → one_if_ends e ≡ 1 → one_if_begins e ≡ 0
begins_no_end (event.Gate gate hold) is = absurd cc
begins_no_end (event.Phase stage) is = absurd cc
begins_no_end _ is = refl

pub spent_less : (rooms : List Room) (desk : ℕ) → room_in_all (spent desk rooms) ≤ room_in_all rooms
spent_less rooms desk = let all = spend_all rooms desk in omega (arith, all)

-- where the desk has room, all have one less
pub spent_one : (rooms : List Room) (desk : ℕ) → 1 ≤ room_of rooms desk → room_in_all (spent desk rooms) + 1 ≤ room_in_all rooms
spent_one rooms desk has =
    let all = spend_all rooms desk in
    let within = within_all rooms desk in
    omega (arith, all, has, within)

-- ---- room for an act

pub takes_no_end : {X : Type 0} (e : Event) → one_if_ends e ≡ 1 → IsTaking e → X
takes_no_end (event.Gate gate hold) is takes = absurd cc
takes_no_end _ is takes = absurd takes

-- an act that ends something has its room
pub ready_end : (h : History) (desk : ℕ) (e : Event) → one_if_ends e ≡ 1 → IsReady h desk e
ready_end h desk e is =
    let less = spent_less h.rooms.rooms.items desk in
    let room = h.acts_room in
    let few = h.few in
    let none = begins_no_end e is in
    record {
      acts = omega (arith, less, room, none, is);
      few = omega (arith, less, few, none, is);
      holds = λ takes. takes_no_end e is takes;
    }

-- and so has an act of a desk with room in reserve
pub ready_own : (h : History) (desk : ℕ) (e : Event) → 1 ≤ room_of h.rooms.rooms.items desk → IsReady h desk e
ready_own h desk e has =
    let one = spent_one h.rooms.rooms.items desk has in
    let room = h.acts_room in
    let few = h.few in
    let held = h.holds_room in
    let begins = begins_few e in
    record {
      acts = omega (arith, one, room, begins);
      few = omega (arith, one, few, begins);
      holds = λ takes. omega (arith, one, held);
    }

-- and one for which room was made beyond all that is to come
pub ready_made : (h : History) (desk : ℕ) (e : Event) → vec_len h.acts + to_come h.rooms.rooms.items h.tables + 2 ≤ vec_capacity h.acts
    → vec_len h.acts + to_come h.rooms.rooms.items h.tables + 2 ≤ MOST_ACTS → HasRoom (room_in_all h.rooms.rooms.items + 1) h.tables → IsReady h desk e
ready_made h desk e room few held =
    let less = spent_less h.rooms.rooms.items desk in
    let begins = begins_few e in
    record {
      acts = omega (arith, less, room, begins);
      few = omega (arith, less, few, begins);
      holds = λ takes. omega (arith, less, held);
    }

pub ready_by : (h : History) (desk : ℕ) (e : Event) → HasOwnRoom h desk e → IsReady h desk e
ready_by h desk e (inl ends) = ready_end h desk e ends
ready_by h desk e (inr has) = ready_own h desk e has
