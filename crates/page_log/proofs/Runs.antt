-- Batches that are read one after the other.
use Rattle.std.proofs.Common.{◌≡◌, inl, inr, ℕ, ◌+◌, ◌<◌, ◌≤◌, List, [], ◌∷◌, ◌++◌, Option, Some, None, is_some, true, ◌-◌, length, take, drop, refl, sym, ap, ◌∙◌, subst, arith, append_assoc, length-append, append-nil}
use Rattle.std.specs.List.{flat_map}
use Rattle.std.proofs.lemmas.List.{take_at, take_rest, drop_at}
use Rattle.std.proofs.lemmas.Grind.{flat_map-append}
use Rattle.page_log.specs.Batches.{Placed, Tail, Begins, AreEvents, AreBatches, IsBatch, IsRefused, IsOpenAt, IsLog, EndsBy, room_of}
use Rattle.page_log.specs.Steps.{TakesTooMuch, TakesPart, StopsAt, GoesOn, Ends, LiesIn}
use Rattle.page_log.specs.declared.batches.Run.{Run}
use Rattle.page_log.proofs.Fronts.{front_of, one_front}
use Rattle.vec_event.specs.Spelling.{spelling}
use Rattle.std.specs.Int.{w32, to_le_bytes}
use Rattle.page_log.proofs.EventRuns.{some_bytes}
use Rattle.page_log.specs.declared.finding.Found.{Found}
use Rattle.page_log.specs.declared.finding.Found.TheVariants.{Batch}
use Rattle.vec_event.proofs.Readings.{one_event}
use Rattle.vec_history.specs.declared.event.Event.{Event}

-- ---- one reading

cons_placed : (a b : Placed) (xs ys : List Placed) → a.0 ≡ b.0 → a.1 ≡ b.1 → xs ≡ ys → a ∷ xs ≡ b ∷ ys
cons_placed a b xs ys place event rest = ap (λ i. (i, a.1) ∷ xs) place ∙ ap (λ e. (b.0, e) ∷ xs) event ∙ ap (λ list. b ∷ list) rest

none_begins_nothing : (event : Event) (rest : List ℕ) → Begins [] event rest → ⊥
none_begins_nothing event rest front = absurd (omega (arith, some_bytes event front.typed front.writable, ap length front.same, length-append (spelling event) rest))

nothing_more : (at : ℕ) (bytes : List ℕ) (placed : Placed) (rest : List ℕ) (bad : Option ℕ) → AreEvents at bytes [] bad → Begins bytes placed.1 rest → ⊥
nothing_more at bytes placed rest None none front = none_begins_nothing placed.1 rest (subst (λ bytes. Begins bytes placed.1 rest) none front)
nothing_more at bytes placed rest (Some place) none front = none.2 placed.1 rest front

-- what stands in bytes is told in one way
pub are_unique : (at : ℕ) (bytes : List ℕ) (xs ys : List Placed) (bad bad' : Option ℕ) → AreEvents at bytes xs bad → AreEvents at bytes ys bad' → xs ≡ ys
are_unique at bytes [] [] bad bad' first second = refl
are_unique at bytes [] (y ∷ ys) bad bad' first second = absurd (nothing_more at bytes y second.1.0 bad first second.1.1)
are_unique at bytes (x ∷ xs) [] bad bad' first second = absurd (nothing_more at bytes x first.1.0 bad' second first.1.1)
are_unique at bytes (x ∷ xs) (y ∷ ys) bad bad' first second =
    let a = first.1.1 in
    let b = second.1.1 in
    let same = one_event x.1 y.1 first.1.0 second.1.0 a.typed a.writable b.typed b.writable (sym a.same ∙ b.same) in
    cons_placed x y xs ys (first.0 ∙ sym second.0) same.0
    (are_unique (at + length (spelling x.1)) first.1.0 xs ys bad bad' first.1.2
    (subst (λ e. AreEvents (at + length (spelling e)) first.1.0 ys bad') (sym same.0) (subst (λ rest. AreEvents (at + length (spelling y.1)) rest ys bad') (sym same.1) second.1.2)))

pub one_batch : (area : List ℕ) (at : ℕ) (a b : List ℕ) → IsBatch area at a → IsBatch area at b → a ≡ b
one_batch area at a b first second =
    let size : length a ≡ length b = one_front (take 5 (drop at area)) (length a) (length b) (front_of area at a first) (front_of area at b second) in
    let behind : a ++ first.rest ≡ b ++ second.rest = ap (drop 5) (sym first.same ∙ second.same) in
    sym (take_at a first.rest (length a) refl) ∙ ap (take (length a)) behind ∙ take_at b second.rest (length a) (sym size)

pub open_batch : (area : List ℕ) (at : ℕ) (bytes : List ℕ) → IsBatch area at bytes → IsOpenAt area at
open_batch area at bytes batch = (to_le_bytes w32 (length bytes) ++ (bytes ++ batch.rest), batch.same)

refused_over : (area : List ℕ) (at used : ℕ) (bytes : List ℕ) (events : List Placed) (bad : Option ℕ) → IsBatch area at bytes → AreEvents (at + 5) bytes events bad
    → 268435456 < used + room_of events → IsRefused area at used
refused_over area at used bytes events bad batch are over other events' bad' batch' are' =
    let same = one_batch area at bytes other batch batch' in
    let equal = are_unique (at + 5) bytes events events' bad bad' are (subst (λ bytes. AreEvents (at + 5) bytes events' bad') (sym same) are') in
    subst (λ events. 268435456 < used + room_of events) equal over

-- ---- ends

pub closed : (area : List ℕ) (run : Run) → run.bad ≡ None → ¬ IsOpenAt area run.end → Ends area run run
closed area run fine none = record {
  last = [];
  events = sym (append-nil run.events.items);
  are = (refl, subst (λ bad. EndsBy area run.end run.used (record { events = []; end = run.end; used = run.used; bad = run.bad }) bad) (sym fine) (none, refl, refl));
}

pub ends_bad : (area : List ℕ) (run : Run) → IsOpenAt area run.end → ((bytes : List ℕ) → ¬ IsBatch area run.end bytes) → Ends area run (record run { bad = Some run.end })
ends_bad area run is_open none = record {
  last = [];
  events = sym (append-nil run.events.items);
  are = (refl, (is_open, inl (record { refused = λ bytes events bad batch are. absurd (none bytes batch); place_is = refl; none = refl; used_is = refl })));
}

ends_over : (area : List ℕ) (old new : Run) (bytes : List ℕ) → IsBatch area old.end bytes → TakesTooMuch old new bytes → Ends area old new
ends_over area old new bytes batch t = record {
  last = [];
  events = t.events ∙ sym (append-nil old.events.items);
  are = (
    t.end_is,
    subst (λ bad. EndsBy area old.end old.used (record { events = []; end = new.end; used = new.used; bad = new.bad }) bad) (sym t.bad_is)
        (open_batch area old.end bytes batch, inl (record { refused = refused_over area old.end old.used bytes t.more t.bad batch t.are t.over; place_is = refl; none = refl; used_is = t.used })),
  );
}

ends_within : (area : List ℕ) (old new : Run) (bytes : List ℕ) → IsBatch area old.end bytes → TakesPart old new bytes → Ends area old new
ends_within area old new bytes batch t = record {
  last = t.more;
  events = t.events;
  are = (
    t.end_is,
    subst (λ bad. EndsBy area old.end old.used (record { events = t.more; end = new.end; used = new.used; bad = new.bad }) bad) (sym t.bad_is)
        (open_batch area old.end bytes batch, inr (record { bytes = bytes; batch = batch; events = t.are; used_is = t.used; fits = t.fits })),
  );
}

pub ends_at : (area : List ℕ) (old new : Run) (bytes : List ℕ) → IsBatch area old.end bytes → StopsAt old new bytes → Ends area old new
ends_at area old new bytes batch (inl t) = ends_over area old new bytes batch t
ends_at area old new bytes batch (inr t) = ends_within area old new bytes batch t

pub lies_in : (size at : ℕ) (found : Found) (len : ℕ) → found ≡ Batch len → LiesIn size at found → (0 < len) × (at + 5 + len ≤ size)
lies_in size at found len is lies = subst (LiesIn size at) is lies

-- events that were kept, before one that can't be read
pub takes_part : (old new : Run) (bytes : List ℕ) (more kept : List Placed) (bad : Option ℕ) (left : ℕ) → AreEvents (old.end + 5) bytes more bad → is_some bad ≡ true
    → new.events.items ≡ old.events.items ++ more → kept ≡ more → left + room_of kept ≡ 268435456 - old.used → old.used ≤ 268435456 → new.used ≡ 268435456 - left
    → new.end ≡ old.end → new.bad ≡ bad → TakesPart old new bytes
takes_part old new bytes more kept None left are some items same room fits used end bad = absurd (cc)
takes_part old new bytes more kept (Some place) left are some items same room fits used end bad = record {
  more = more;
  place = place;
  are = are;
  events = items;
  used = omega (arith, room, fits, used, ap room_of same);
  fits = omega (arith, used);
  end_is = end;
  bad_is = bad;
}

pub behind_old : (items old more : List Placed) (before : ℕ) → items ≡ old ++ more → before ≡ length old → take (length items - before) (drop before items) ≡ more
behind_old items old more before is size = take_rest items before ∙ ap (drop before) is ∙ drop_at old more before (sym size)

-- ---- the loop

-- the batches that were read, before what follows
pub record IsRun (area : List ℕ) (at : ℕ) (run : Run) : Type 0 where
  pub batches : List (List Placed)
  pub events : run.events.items ≡ flat_map (λ batch. batch) batches
  pub goes_on : (rest : List (List Placed)) (tail : Tail) → AreBatches area run.end run.used rest tail → AreBatches area at 0 (batches ++ rest) tail

pub run_begins : (area : List ℕ) (run : Run) → run.events.items ≡ [] → run.used ≡ 0 → IsRun area run.end run
run_begins area run none used = record {
  batches = [];
  events = none;
  goes_on = λ rest tail are. subst (λ used. AreBatches area run.end used rest tail) used are;
}

pub run_on : (area : List ℕ) (at : ℕ) (old new : Run) → IsRun area at old → GoesOn area old new → IsRun area at new
run_on area at old new so_far on =
    let w = on.whole in record {
      batches = so_far.batches ++ w.more ∷ [];
      events = w.events ∙ ap (λ xs. xs ++ w.more) so_far.events ∙ ap (λ xs. flat_map (λ batch. batch) so_far.batches ++ xs) (sym (append-nil w.more)) ∙ sym (flat_map-append (λ batch. batch) so_far.batches (w.more ∷ []));
      goes_on = λ rest tail are.
          subst (λ batches. AreBatches area at 0 batches tail) (sym (append_assoc so_far.batches (w.more ∷ []) rest))
          (so_far.goes_on (w.more ∷ rest) tail (
            on.bytes,
            on.batch,
            w.are,
            omega (arith, w.used, w.fits),
            subst (λ end. AreBatches area end (old.used + room_of w.more) rest tail) w.end_is (subst (λ used. AreBatches area new.end used rest tail) w.used are),
          ));
    }

pub run_ends : (area : List ℕ) (at : ℕ) (old new : Run) → IsRun area at old → Ends area old new → IsLog area at new.events.items new.end new.used new.bad
run_ends area at old new so_far e = record {
  batches = so_far.batches;
  last = e.last;
  are = subst (λ batches. AreBatches area at 0 batches (record { events = e.last; end = new.end; used = new.used; bad = new.bad })) (append-nil so_far.batches) (so_far.goes_on [] _ e.are);
  events_are = e.events ∙ ap (λ xs. xs ++ e.last) so_far.events;
}
