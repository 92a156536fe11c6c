-- Events one after the other, by their bytes and by their places.
use Rattle.std.proofs.Common.{◌≡◌, ℕ, ◌+◌, ◌≤◌, List, [], ◌∷◌, ◌++◌, None, length, map, refl, sym, ap, ◌∙◌, arith, append_assoc, length-append}
use Rattle.vec_event.specs.Spelling.{spelling}
use Rattle.vec_history.specs.declared.event.Event.{Event}
use Rattle.page_log.specs.Batches.{Placed, AreEvents, room_of}
use Rattle.page_log.specs.Going.{AreWritable, spelled, room}
use Rattle.page_log.proofs.EventRuns.{some_bytes}

pub spelled_append : (xs ys : List Event) → spelled (xs ++ ys) ≡ spelled xs ++ spelled ys
spelled_append [] ys = refl
spelled_append (x ∷ xs) ys = ap (λ (l : List ℕ). spelling x ++ l) (spelled_append xs ys) ∙ sym (append_assoc (spelling x) (spelled xs) (spelled ys))

pub room_append : (xs ys : List Event) → room (xs ++ ys) ≡ room xs + room ys
room_append [] ys = omega arith
room_append (x ∷ xs) ys = omega (arith, room_append xs ys)

pub writable_append : (xs ys : List Event) → AreWritable xs → AreWritable ys → AreWritable (xs ++ ys)
writable_append [] ys first second = second
writable_append (x ∷ xs) ys first second = (first.0, first.1, writable_append xs ys first.2 second)

pub writable_front : (xs ys : List Event) → AreWritable (xs ++ ys) → AreWritable xs
writable_front [] ys all = tt
writable_front (x ∷ xs) ys all = (all.0, all.1, writable_front xs ys all.2)

pub writable_rest : (xs ys : List Event) → AreWritable (xs ++ ys) → AreWritable ys
writable_rest [] ys all = all
writable_rest (x ∷ xs) ys all = writable_rest xs ys all.2

-- the events with the places of their bytes
abbrev pub placed_from : ℕ → List Event → List Placed
placed_from at [] = []
placed_from at (event ∷ events) = (at, event) ∷ placed_from (at + length (spelling event)) events

pub are_events : (at : ℕ) (events : List Event) → AreWritable events → AreEvents at (spelled events) (placed_from at events) None
are_events at [] all = refl
are_events at (event ∷ events) all =
    (refl, (spelled events, record { typed = all.0; writable = all.1; same = refl }, are_events (at + length (spelling event)) events all.2))

pub events_placed : (at : ℕ) (events : List Event) → map (λ (placed : Placed). placed.1) (placed_from at events) ≡ events
events_placed at [] = refl
events_placed at (event ∷ events) = ap (λ (l : List Event). event ∷ l) (events_placed (at + length (spelling event)) events)

pub room_placed : (at : ℕ) (events : List Event) → room_of (placed_from at events) ≡ room events
room_placed at [] = refl
room_placed at (event ∷ events) = ap (λ n. length (spelling event) + 5 + n) (room_placed (at + length (spelling event)) events)

pub spelled_within : (events : List Event) → length (spelled events) ≤ room events
spelled_within [] = omega arith
spelled_within (event ∷ events) = omega (arith, length-append (spelling event) (spelled events), spelled_within events)

-- where there are no bytes, there is no event
pub none_spelled : (events : List Event) → AreWritable events → length (spelled events) ≡ 0 → events ≡ []
none_spelled [] all none = refl
none_spelled (event ∷ events) all none =
    absurd (omega (arith, some_bytes event all.0 all.1, none, length-append (spelling event) (spelled events)))
