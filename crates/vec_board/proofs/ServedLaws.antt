-- What an ask that was served leaves of a core beside its index.
use Rattle.std.proofs.Common.{◌≡◌, ◌≤◌, ◌-◌, ℕ, List, [], ◌∷◌, ◌++◌, length, Option, Some, None, refl, sym, ap, subst, ◌∙◌, arith}
use Rattle.vec_names.specs.declared.params.Params.{Params}
use Rattle.vec_history.specs.declared.event.Event.{Event}
use Rattle.vec_history.specs.declared.event.Event.TheVariants as event
use Rattle.vec_history.specs.declared.event.Act.{Act}
use Rattle.vec_history.specs.Acts.{act_of}
use Rattle.vec_history.proofs.OneMore.{hold_back}
use Rattle.history_tables.specs.declared.rooms.Room.{Room as Rooms}
use Rattle.history_tables.specs.Rooms.{room_of as own_room}
use Rattle.history_tables.proofs.OneRoom.{spend_own}
use Rattle.vec_graph.specs.declared.place.Place.{Place}
use Rattle.graph_search.specs.Deeds.{Change, Reply, Joins, Links, reply_events}
use Rattle.graph_search.specs.Deeds as deed
use Rattle.vec_steps.specs.declared.ask.Ask.{Ask}
use Rattle.vec_steps.specs.declared.ask.Ask.TheVariants as ask
use Rattle.vec_steps.specs.declared.told.Told.{Told}
use Rattle.vec_steps.specs.Doing.{Cleaning, Cleaned, Relists, Drops, Marks, Ends, Cleared, Left, Outdated, Ended, Cancelled, Placing, Placed, Adds, Extends, Came, CameAt, cleaned_events, placed_events, step_events}
use Rattle.vec_steps.specs.Telling.{step_of, node_of, put_told, put_new_told, place_told, join_told, link_told, clear_told, drop_told, add_told, extend_told}
use Rattle.vec_steps.specs.Desks.{Room, IsCountedIn, spare_after}
use Rattle.vec_steps.specs.Calls.{made_by, count_made}
use Rattle.vec_board.specs.declared.board_core.Core.{Core}
use Rattle.vec_board.specs.Standing.{acts_of}
use Rattle.vec_board.specs.Acting.{room_of}
use Rattle.vec_board.specs.Looking.{desk_of}
use Rattle.vec_board.specs.Serving.{MakesFor, MakesJust, spare_of}
use Rattle.vec_board.specs.Settling.{AreFaultsBelow}
use Rattle.vec_board.specs.Boards.{HoldsAlone, GoOnAlone}
use Rattle.vec_board.proofs.SettledLaws.{below_more}

-- ---- no ask makes a fault of the disks

abbrev NoFault : Event → Type 0
NoFault (event.DiskFaulted count) = ⊥
NoFault _ = Unit {0}

abbrev NoFaults : List Event → Type 0
NoFaults [] = Unit {0}
NoFaults (e ∷ es) = NoFault e × NoFaults es

by_reply : (m : ℕ) (c : Change) (r : Reply) → NoFaults (reply_events m c r)
by_reply m (Joins at version id) deed.Done = (tt, tt)
by_reply m (Links at list_at level version layer slot held to) deed.Done = (tt, tt)
by_reply m (deed.PutsOn block node) (deed.Placed place) = (tt, tt)
by_reply m (deed.PutsNew node) (deed.Placed place) = (tt, tt)
by_reply m (deed.Enters to level) deed.Done = (tt, tt)
by_reply m (deed.Hints block) deed.Done = (tt, tt)
by_reply m (deed.Takes gate hold) deed.Done = (tt, tt)
by_reply m (deed.Releases gate) deed.Done = (tt, tt)
by_reply m _ _ = tt

by_clean : (c : Cleaning) (r : Cleaned) → NoFaults (cleaned_events c r)
by_clean (Relists at list_at version slots) Cleared = (tt, tt)
by_clean (Drops at version gone) Cleared = tt
by_clean (Marks at list_at version) Cleared = (tt, tt)
by_clean Ends Cleared = tt
by_clean (Drops at version gone) (Left ids) = (tt, tt)
by_clean c Ended = (tt, tt)
by_clean c (Cancelled stage) = (tt, tt)
by_clean (_) Cleared = (tt, tt)
by_clean _ _ = tt

by_place : (c : Placing) (r : Placed) → NoFaults (placed_events c r)
by_place (Extends list last id bits) Came = tt
by_place (Extends list last id bits) (CameAt at) = (tt, tt)
by_place _ Came = (tt, tt)
by_place _ _ = tt

put_none : (p : Params) (n : deed.NewNode) (block : ℕ) (o : Option Place) → NoFaults (step_events p (put_told n block o))
put_none p n block None = tt
put_none p n block (Some place) = (tt, tt)

put_new_none : (p : Params) (n : deed.NewNode) (t : Told) (o : Option Place) → NoFaults (step_events p (put_new_told n t o))
put_new_none p n t None = tt
put_new_none p n t (Some place) = (tt, tt)

no_fault : (p : Params) (a : Ask) (t : Told) (ending : Cleaned) → NoFaults (made_by p (step_of a t ending))
no_fault p (ask.Put block node) t ending = put_none p (node_of node) block (place_told t.word t.tid t.list_at t.version)
no_fault p (ask.PutNew node) t ending = put_new_none p (node_of node) t (place_told t.word t.tid t.list_at t.version)
no_fault p (ask.Join at version id) t ending = by_reply p.m (Joins at version id) (join_told t.word)
no_fault p (ask.Link at list_at level version layer slot held to) t ending =
    by_reply p.m (Links at list_at level version layer slot held to) (link_told t.word)
no_fault p (ask.Relist at list_at version lists) t ending = by_clean (Relists at list_at version lists) (clear_told t.word)
no_fault p (ask.Drop at version gone) t ending = by_clean (Drops at version gone) (drop_told t.word t.left)
no_fault p (ask.Mark at list_at version) t ending = by_clean (Marks at list_at version) (clear_told t.word)
no_fault p (ask.Entry None level) t ending = (tt, tt)
no_fault p (ask.Entry (Some to) level) t ending = (tt, tt)
no_fault p (ask.Hint block) t ending = (tt, tt)
no_fault p (ask.Take gate hold) t ending = (tt, tt)
no_fault p (ask.Release gate) t ending = (tt, tt)
no_fault p (ask.Phase stage) t ending = (tt, tt)
no_fault p ask.EndVacuum t ending = by_clean Ends ending
no_fault p (ask.Add block id bits) t ending = by_place (Adds block id bits) (add_told t.word t.next)
no_fault p (ask.Extend list last id bits) t ending = by_place (Extends list last id bits) (extend_told t.word t.tid t.next)
no_fault p (ask.Cut block gone) t ending = (tt, tt)
no_fault p (ask.Aim list block) t ending = (tt, tt)
no_fault p _ t ending = tt

none_of : (e : Event) → NoFault e → (n : ℕ) → e ≡ event.DiskFaulted n → ⊥
none_of e none n is = subst NoFault is none

-- ---- what these events leave

module _ (old new : Core) (desk : ℕ) where
  just_desk : (made : List Event) → MakesJust old new desk made → (number : ℕ) → desk_of new number ≡ desk_of old number
  just_desk [] is number = same number is.params is.room where
    same : (number : ℕ) → new.params ≡ old.params → room_of new ≡ room_of old → desk_of new number ≡ desk_of old number
    same number params room =
        ap (λ (p : Params). record { number = number; depth = 0; params = p; room = room_of new }) params
        ∙ ap (λ (r : Room). record { number = number; depth = 0; params = old.params; room = r }) room
  just_desk (e ∷ es) is number =
      ap (λ (p : Params). record { number = number; depth = 0; params = p; room = room_of new }) is.1.params
      ∙ ap (λ (r : Room). record { number = number; depth = 0; params = old.params; room = r }) is.1.room

  just_epoch : (made : List Event) → MakesJust old new desk made → new.log.epoch ≡ old.log.epoch
  just_epoch [] is = is.epoch
  just_epoch (e ∷ es) is = is.1.epoch

  just_faults : (made : List Event) → NoFaults made → MakesJust old new desk made → (count : ℕ) → AreFaultsBelow (acts_of old) count
      → AreFaultsBelow (acts_of new) count
  just_faults [] none is count below = subst (λ (l : List Act). AreFaultsBelow l count) (sym is.acts) below
  just_faults (e ∷ es) none is count below =
      subst (λ (l : List Act). AreFaultsBelow l count) (sym is.1.acts)
      (below_more (acts_of old) desk e count (λ n same. absurd (none_of e none.0 n same)) below)

  just_spare : (made : List Event) → MakesJust old new desk made → spare_of old desk - length made ≤ spare_of new desk
  just_spare [] is = let same = ap (λ (rooms : List Rooms). own_room rooms desk) is.rooms in omega (arith, same)
  just_spare (e ∷ es) is =
      let same = ap (λ (rooms : List Rooms). own_room rooms desk) is.1.rooms ∙ spend_own old.history.rooms.rooms.items desk in
      omega (arith, same)

-- ---- a history of one desk

own_more : (desk : ℕ) (acts : List Act) (a : Act) → a.desk ≡ desk → GoOnAlone desk acts (acts ++ a ∷ [])
own_more desk [] a is = (is, tt)
own_more desk (b ∷ acts) a is = (refl, own_more desk acts a is)

same_acts : (desk : ℕ) (acts : List Act) → GoOnAlone desk acts acts
same_acts desk [] = tt
same_acts desk (a ∷ acts) = (refl, same_acts desk acts)

pub still_alone : (desk : ℕ) (old new : List Act) → new ≡ old → GoOnAlone desk old new
still_alone desk old new is = subst (GoOnAlone desk old) (sym is) (same_acts desk old)

pub more_alone : (desk : ℕ) (old new : List Act) (e : Event) → new ≡ old ++ act_of desk e ∷ [] → GoOnAlone desk old new
more_alone desk old new e is = subst (GoOnAlone desk old) (sym is) (own_more desk old (act_of desk e) refl)

pub holds_still : (desk : ℕ) (old new : List Act) → new ≡ old → HoldsAlone old desk → HoldsAlone new desk
holds_still desk old new is alone = subst (λ (l : List Act). HoldsAlone l desk) (sym is) alone

pub holds_more : (desk : ℕ) (old new : List Act) (e : Event) → new ≡ old ++ act_of desk e ∷ [] → HoldsAlone old desk → HoldsAlone new desk
holds_more desk old new e is alone = subst (λ (l : List Act). HoldsAlone l desk) (sym is) (λ other gate differs holds.
    alone other gate differs (
      holds.0,
      (holds.1.0, hold_back old (act_of desk e) other gate holds.0 holds.1.0 (λ same. absurd (differs (sym same))) holds.1.1),
    ))

module _ (old new : Core) (desk : ℕ) where
  just_alone : (made : List Event) → MakesJust old new desk made → GoOnAlone desk (acts_of old) (acts_of new)
  just_alone [] is = still_alone desk (acts_of old) (acts_of new) is.acts
  just_alone (e ∷ es) is = more_alone desk (acts_of old) (acts_of new) e is.1.acts

  just_holds : (made : List Event) → MakesJust old new desk made → HoldsAlone (acts_of old) desk → HoldsAlone (acts_of new) desk
  just_holds [] is alone = holds_still desk (acts_of old) (acts_of new) is.acts alone
  just_holds (e ∷ es) is alone = holds_more desk (acts_of old) (acts_of new) e is.1.acts alone

-- ---- all asks

-- what holds where events were made, none or one, or where room was reserved
module _ (old new : Core) (desk : ℕ) where
  pub served_desk : (a : Ask) (made : List Event) → MakesFor old new desk a made → (number : ℕ) → desk_of new number ≡ desk_of old number
  served_desk (ask.Reserve events) made is number =
      ap (λ (p : Params). record { number = number; depth = 0; params = p; room = room_of new }) is.params
      ∙ ap (λ (r : Room). record { number = number; depth = 0; params = old.params; room = r }) is.room
  served_desk _ made is number = just_desk old new desk made is number

  pub served_epoch : (a : Ask) (made : List Event) → MakesFor old new desk a made → new.log.epoch ≡ old.log.epoch
  served_epoch (ask.Reserve events) made is = is.epoch
  served_epoch _ made is = just_epoch old new desk made is

  pub served_alone : (a : Ask) (made : List Event) → MakesFor old new desk a made → GoOnAlone desk (acts_of old) (acts_of new)
  served_alone (ask.Reserve events) made is = still_alone desk (acts_of old) (acts_of new) is.acts
  served_alone _ made is = just_alone old new desk made is

  pub served_holds : (a : Ask) (made : List Event) → MakesFor old new desk a made → HoldsAlone (acts_of old) desk → HoldsAlone (acts_of new) desk
  served_holds (ask.Reserve events) made is alone = holds_still desk (acts_of old) (acts_of new) is.acts alone
  served_holds _ made is alone = just_holds old new desk made is alone

  by_faults : (a : Ask) (made : List Event) → NoFaults made → MakesFor old new desk a made → (count : ℕ) → AreFaultsBelow (acts_of old) count
      → AreFaultsBelow (acts_of new) count
  by_faults (ask.Reserve events) made none is count below = subst (λ (l : List Act). AreFaultsBelow l count) (sym is.acts) below
  by_faults _ made none is count below = just_faults old new desk made none is count below

  pub served_faults : (p : Params) (a : Ask) (t : Told) (ending : Cleaned) → MakesFor old new desk a (made_by p (step_of a t ending))
      → (count : ℕ) → AreFaultsBelow (acts_of old) count → AreFaultsBelow (acts_of new) count
  served_faults p a t ending is count below = by_faults a (made_by p (step_of a t ending)) (no_fault p a t ending) is count below

  end_spare : (p : Params) (ending : Cleaned) → MakesJust old new desk (cleaned_events Ends ending) → spare_of old desk - 1 ≤ spare_of new desk
  end_spare p Cleared is = let k = just_spare old new desk [] is in omega (arith, k)
  end_spare p (Left ids) is = let k = just_spare old new desk [] is in omega (arith, k)
  end_spare p Outdated is = let k = just_spare old new desk [] is in omega (arith, k)
  end_spare p Ended is = just_spare old new desk (event.VacuumEnd ∷ []) is
  end_spare p (Cancelled stage) is = just_spare old new desk (event.Cancel stage ∷ []) is

  pub served_spare : (p : Params) (a : Ask) (t : Told) (ending : Cleaned) → MakesFor old new desk a (made_by p (step_of a t ending))
      → spare_after a (spare_of old desk) (count_made p a t) ≤ spare_of new desk
  served_spare p (ask.Reserve events) t ending is = let own = is.own in omega (arith, own)
  served_spare p ask.EndVacuum t ending is = end_spare p ending is
  served_spare p a t ending is = just_spare old new desk (made_by p (step_of a t ending)) is

pub counted_in : (core : Core) → IsCountedIn (room_of core) (acts_of core)
counted_in core = let within = core.counted in (length (acts_of core) - core.since, omega (arith, within))
