-- The images of a log while a batch is written behind its seal, and while that seal is opened.
use Rattle.std.proofs.Common.{◌≡◌, ◌⊎◌, inl, inr, Bool, true, false, ℕ, ◌+◌, ◌<◌, ◌≤◌, List, [], ◌∷◌, ◌++◌, length, take, drop, refl, sym, ◌∙◌, ap, subst, arith, length-append}
use Rattle.std.proofs.lemmas.List.{take_at, drop_at}
use Rattle.vec_history.specs.declared.event.Event.{Event}
use Rattle.vec_outside.specs.Disk.{Disk, IsTorn, IsTornImage, IsWritten, LeavesOnly, spliced}
use Rattle.vec_outside.proofs.Moments.{weakened}
use Rattle.page_log.specs.Going.{AreWritable, spelled, room, body_of, IsBetween, IsSealed, Unsettled, IsGoing, ComesFrom}
use Rattle.page_log.proofs.SpelledEvents.{writable_rest, room_append}
use Rattle.page_log.proofs.OtherAreas.{keeps_writing}
use Rattle.page_log.proofs.Seals.{torn_behind, torn_seal, written_behind, written_seal}
use Rattle.page_log.proofs.Holding.{with_batch, with_batch_length, leads_on, opened, some_in_body, body_length}
use Rattle.page_log.proofs.Coming.{batch_writable, batch_fits, between_of, still, goes_still, comes_by}

-- ---- bytes

module _ (front : List ℕ) (end : ℕ) (is_end : end ≡ length front) where
  -- a seal lies within the area
  pub reaches : (fixed : Bool) (body bytes : List ℕ) → IsSealed front fixed body bytes → end < length bytes
  reaches fixed body bytes is = omega (arith, is_end, ap length is.split, length-append front (is.seal ∷ is.rest))

  -- a batch that is written behind a closed seal, and cut short anywhere
  behind_torn : (n : ℕ) (body was bytes : List ℕ) → IsSealed front false body was → IsTorn (end + 1) n was bytes → IsSealed front false body bytes
  behind_torn n body was bytes is torn = record {
    seal = is.seal;
    rest = drop (end + 1) bytes;
    split = torn_behind front end is_end n is.seal is.rest was bytes is.split torn;
    behind = is.behind;
  }

  -- the batch stands whole behind the seal
  behind_done : (body was bytes : List ℕ) → 0 < length body → IsSealed front false body was → bytes ≡ spliced was (end + 1) body → IsSealed front true body bytes
  behind_done body was bytes some is written =
      let past = drop (end + 1 + length body) (front ++ is.seal ∷ is.rest) in
      record {
        seal = is.seal;
        rest = body ++ past;
        split = written ∙ ap (λ (l : List ℕ). spliced l (end + 1) body) is.split ∙ written_behind front end is_end is.seal is.rest body;
        behind = (some, (past, refl));
      }

  -- the seal of a fixed batch, while it is written
  seal_torn : (body was bytes : List ℕ) → IsSealed front true body was → IsTorn end 1 was bytes → IsSealed front true body bytes
  seal_torn body was bytes is torn =
      let other = torn_seal front end is_end is.seal is.rest was bytes is.split torn in
      record { seal = other.0; rest = is.rest; split = other.1; behind = is.behind }

  -- the seal is open: a closed one stands behind the batch
  seal_done : (events was bytes : List ℕ) → IsSealed front true (body_of events) was → bytes ≡ spliced was end (165 ∷ []) → IsSealed (with_batch front events) false [] bytes
  seal_done events was bytes is written = record {
    seal = 0;
    rest = is.behind.1.0;
    split = written ∙ ap (λ (l : List ℕ). spliced l end (165 ∷ [])) is.split ∙ written_seal front end is_end is.seal 165 is.rest
        ∙ ap (λ (l : List ℕ). front ++ 165 ∷ l) is.behind.1.1 ∙ opened front events is.behind.1.0 (some_in_body events is.behind.0);
    behind = omega arith;
  }

sealed_as : (front : List ℕ) (body bytes : List ℕ) (a b : Bool) → a ≡ b → IsSealed front a body bytes → IsSealed front b body bytes
sealed_as front body bytes a b same is = subst (λ (f : Bool). IsSealed front f body bytes) same is

-- ---- the end of an area that has no seal there: no log that is going has such an image

pub end_none : (log : Unsettled) (disk : Disk) → ((bytes : List ℕ) → disk.leaves log.area bytes → disk.leaves log.area (disk.seen log.area))
    → ((bytes : List ℕ) → disk.leaves log.area bytes → (log.bare ≡ true) ⊎ (length (disk.seen log.area) ≤ log.at))
    → (base : List ℕ) (settled pending : List Event) → IsGoing base log disk settled pending → (bytes : List ℕ) → disk.leaves log.area bytes → ⊥
end_none log disk seen shut base settled pending g bytes left =
    let image = g.images (disk.seen log.area) (seen bytes left) in
    elim (shut bytes left) [
      | inl bare ↦ let e : true ≡ false = sym bare ∙ image.0 in absurd cc
      | inr short ↦ absurd (omega (arith, short, reaches g.front log.at g.place log.fixed log.body (disk.seen log.area) image.1))
    ]

pub end_written : (log : Unsettled) (bare : Bool) (n : ℕ) (old new : Disk)
    → ((base : List ℕ) (settled pending : List Event) → IsGoing base log old settled pending → (bytes : List ℕ) → old.leaves log.area bytes → ⊥)
    → IsWritten log.area log.at n old new → LeavesOnly old new (IsTornImage log.area log.at n old) → ComesFrom log old (record log { bare = bare }) new []
end_written log bare n old new none written moments = comes_by log (record log { bare = bare }) old new refl (keeps_writing log.area log.at n old new written moments) (λ base settled pending going.
    goes_still base log (record log { bare = bare }) old new settled pending
    (still base log old settled pending going log.fixed bare new (λ bytes left.
    let from = written.leaves bytes left in absurd (none base settled pending going from.0 from.1)))
    (weakened old new (IsTornImage log.area log.at n old) (λ image. IsBetween base settled pending (image log.area)) moments
    (λ image torn. absurd (none base settled pending going torn.torn.0 torn.torn.1))))

-- ---- behind the seal

module _ (log : Unsettled) (n : ℕ) (old new : Disk) (open_ : log.fixed ≡ false) (moments : LeavesOnly old new (IsTornImage log.area (log.at + 1) n old)) where
  module _ (base : List ℕ) (settled pending : List Event) (g : IsGoing base log old settled pending) where
    behind_left : (was bytes : List ℕ) → old.leaves log.area was → IsTorn (log.at + 1) n was bytes → IsSealed g.front false log.body bytes
    behind_left was bytes left torn =
        behind_torn g.front log.at g.place n log.body was bytes (sealed_as g.front log.body was log.fixed false open_ (g.images was left).1) torn

    behind_moments : LeavesOnly old new (λ image. IsBetween base settled pending (image log.area))
    behind_moments = weakened old new (IsTornImage log.area (log.at + 1) n old) (λ image. IsBetween base settled pending (image log.area)) moments
        (λ image torn. between_of base log old settled pending g false (image log.area) (behind_left torn.torn.0 (image log.area) torn.torn.1 torn.torn.2))

  pub body_begun : IsWritten log.area (log.at + 1) n old new → ComesFrom log old log new []
  body_begun written = comes_by log log old new refl (keeps_writing log.area (log.at + 1) n old new written moments) (λ base settled pending going.
      goes_still base log log old new settled pending
      (still base log old settled pending going log.fixed log.bare new (λ bytes left.
      let from = written.leaves bytes left in
      ((going.images from.0 from.1).0, sealed_as going.front log.body bytes false log.fixed (sym open_) (behind_left base settled pending going from.0 bytes from.1 from.2))))
      (behind_moments base settled pending going))

  pub body_written : IsWritten log.area (log.at + 1) n old new → 0 < length log.body → ((bytes : List ℕ) → new.leaves log.area bytes → (was : List ℕ) × old.leaves log.area was × (bytes ≡ spliced was (log.at + 1) log.body))
      → ComesFrom log old (record log { fixed = true }) new []
  body_written written some durable = comes_by log (record log { fixed = true }) old new refl (keeps_writing log.area (log.at + 1) n old new written moments) (λ base settled pending going.
      goes_still base log (record log { fixed = true }) old new settled pending
      (still base log old settled pending going true log.bare new (λ bytes left.
      let from = durable bytes left in
      let was = going.images from.0 from.1 in
      (was.0, behind_done going.front log.at going.place log.body from.0 bytes some (sealed_as going.front log.body from.0 log.fixed false open_ was.1) from.2)))
      (behind_moments base settled pending going))

-- ---- at the seal

module _ (log : Unsettled) (old new : Disk) (fixed : log.fixed ≡ true) (moments : LeavesOnly old new (IsTornImage log.area log.at 1 old)) where
  module _ (base : List ℕ) (settled pending : List Event) (g : IsGoing base log old settled pending) where
    seal_left : (was bytes : List ℕ) → old.leaves log.area was → IsTorn log.at 1 was bytes → IsSealed g.front true log.body bytes
    seal_left was bytes left torn =
        seal_torn g.front log.at g.place log.body was bytes (sealed_as g.front log.body was log.fixed true fixed (g.images was left).1) torn

    seal_moments : LeavesOnly old new (λ image. IsBetween base settled pending (image log.area))
    seal_moments = weakened old new (IsTornImage log.area log.at 1 old) (λ image. IsBetween base settled pending (image log.area)) moments
        (λ image torn. between_of base log old settled pending g true (image log.area) (seal_left torn.torn.0 (image log.area) torn.torn.1 torn.torn.2))

  pub seal_begun : IsWritten log.area log.at 1 old new → ComesFrom log old log new []
  seal_begun written = comes_by log log old new refl (keeps_writing log.area log.at 1 old new written moments) (λ base settled pending going.
      goes_still base log log old new settled pending
      (still base log old settled pending going log.fixed log.bare new (λ bytes left.
      let from = written.leaves bytes left in
      ((going.images from.0 from.1).0, sealed_as going.front log.body bytes true log.fixed (sym fixed) (seal_left base settled pending going from.0 bytes from.1 from.2))))
      (seal_moments base settled pending going))

  -- the batch is settled
  pub seal_written : IsWritten log.area log.at 1 old new → 0 < length log.body → ((bytes : List ℕ) → new.leaves log.area bytes → (was : List ℕ) × old.leaves log.area was × (bytes ≡ spliced was log.at (165 ∷ [])))
      → ComesFrom log old (record log { at = log.at + length log.body; bare = false; fixed = false; body = []; events = 0 }) new []
  seal_written written some durable = comes_by log (record log { at = log.at + length log.body; bare = false; fixed = false; body = []; events = 0 }) old new refl (keeps_writing log.area log.at 1 old new written moments) (λ base settled pending g.
      let log' : Unsettled = record log { at = log.at + length log.body; bare = false; fixed = false; body = []; events = 0 } in
      let all : AreWritable (g.batch ++ g.fresh) = subst AreWritable g.pending_are g.writable in
      let some_events : 0 < length (spelled g.batch) = some_in_body (spelled g.batch) (subst (λ (b : List ℕ). 0 < length b) g.body some) in
      let front' = with_batch g.front (spelled g.batch) in
      let first : take (length g.batch) pending ≡ g.batch = ap (λ (l : List Event). take (length g.batch) l) g.pending_are ∙ take_at g.batch g.fresh (length g.batch) refl in
      let others : drop (length g.batch) pending ≡ g.fresh = ap (λ (l : List Event). drop (length g.batch) l) g.pending_are ∙ drop_at g.batch g.fresh (length g.batch) refl in
      let going : IsGoing base log' new (settled ++ g.batch) g.fresh = record {
        front = front';
        before = g.before + room g.batch;
        batch = [];
        fresh = g.fresh;
        leads = leads_on base g.front settled g.batch g.before g.leads (batch_writable base log old settled pending g) some_events (batch_fits base log old settled pending g);
        place = omega (arith, g.place, with_batch_length g.front (spelled g.batch), ap length g.body, body_length (spelled g.batch) some_events);
        pending_are = refl;
        writable = writable_rest g.batch g.fresh all;
        body = refl;
        events = refl;
        newer = g.newer;
        count = g.count;
        used = omega (arith, g.used, ap room g.pending_are, room_append g.batch g.fresh);
        fits = g.fits;
        images = λ bytes left.
            let from = durable bytes left in
            let was = sealed_as g.front log.body from.0 log.fixed true fixed (g.images from.0 from.1).1 in
            (refl, seal_done g.front log.at g.place (spelled g.batch) from.0 bytes (subst (λ (b : List ℕ). IsSealed g.front true b from.0) g.body was) from.2);
      } in record {
        count = length g.batch;
        within = omega (arith, ap length g.pending_are, length-append g.batch g.fresh);
        going = subst (λ (s : List Event). IsGoing base log' new (settled ++ s) (drop (length g.batch) pending)) (sym first)
            (subst (λ (l : List Event). IsGoing base log' new (settled ++ g.batch) l) (sym others) going);
        moments = seal_moments base settled pending g;
      })
