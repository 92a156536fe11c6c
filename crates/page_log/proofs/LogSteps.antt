-- A batch that is taken out of a log, and what stands of both once it is settled.
use Rattle.std.proofs.Common.{◌≡◌, Bool, true, false, ℕ, zero, suc, ◌+◌, ◌≤◌, List, [], ◌∷◌, ◌++◌, length, take, refl, sym, ◌∙◌, ap, subst, arith, append-nil, append_assoc, length-append}
use Rattle.vec_history.specs.declared.event.Event.{Event}
use Rattle.vec_event.specs.Spelling.{spelling, IsTyped, IsWritable}
use Rattle.vec_outside.specs.Disk.{Disk, Image, IsImage}
use Rattle.vec_outside.proofs.Moments.{started}
use Rattle.page_log.specs.Going.{spelled, body_of, payload, Holds, IsBetween, IsSealed, Unsettled, IsGoing, ComesFrom}
use Rattle.page_log.specs.Parts.{past, behind, newer_of, with_back, unsettled, with_event, taken_if, taken, IsOut, IsSameBatch}
use Rattle.page_log.specs.declared.log.Log.{Log}
use Rattle.page_log.specs.declared.pending.Pending.{Pending}
use Rattle.page_log.proofs.Fronts.{read_none}
use Rattle.page_log.proofs.SpelledEvents.{spelled_append, room_append, writable_append}
use Rattle.page_log.proofs.BatchBytes.{payload_body}
use Rattle.page_log.proofs.OtherAreas.{keeps_reading}
use Rattle.page_log.proofs.Coming.{goes_still, comes_by, comes_reading, between_now, between_more}

-- nothing is done
pub comes_same : (log log' : Unsettled) (disk : Disk) → ((image : Image) → disk.left_since disk.moment image → IsImage disk image) → log' ≡ log → ComesFrom log disk log' disk []
comes_same log log' disk only_now same = subst (λ (l : Unsettled). ComesFrom log disk l disk []) (sym same) (comes_reading log disk disk (read_none disk only_now))

sealed_open : (front body body' bytes : List ℕ) (fixed : Bool) → fixed ≡ false → IsSealed front fixed body bytes → IsSealed front fixed body' bytes
sealed_open front body body' bytes true open_ is = absurd cc
sealed_open front body body' bytes false open_ is = record { seal = is.seal; rest = is.rest; split = is.split; behind = is.behind }

-- a batch is taken out
taken_goes : (fixed : Bool) (base : List ℕ) (log : Unsettled) (disk : Disk) (settled pending : List Event) → log.fixed ≡ fixed → IsGoing base log disk settled pending
    → IsGoing base (taken_if fixed log) disk settled pending
taken_goes true base log disk settled pending is g = g
taken_goes false base log disk settled pending is g = record {
  front = g.front;
  before = g.before;
  batch = g.batch ++ g.fresh;
  fresh = [];
  leads = g.leads;
  place = g.place;
  pending_are = g.pending_are ∙ sym (append-nil (g.batch ++ g.fresh));
  writable = g.writable;
  body = ap body_of ((λ i. (ap payload g.body ∙ payload_body (spelled g.batch)) i ++ g.newer i) ∙ sym (spelled_append g.batch g.fresh));
  events = omega (arith, g.events, g.count, length-append g.batch g.fresh);
  newer = refl;
  count = refl;
  used = g.used;
  fits = g.fits;
  images = λ bytes left.
      let image = g.images bytes left in
      (image.0, sealed_open g.front log.body (body_of (payload log.body ++ log.newer.bytes)) bytes log.fixed is image.1);
}

pub taken_going : (base : List ℕ) (log : Unsettled) (disk : Disk) (settled pending : List Event) → IsGoing base log disk settled pending → IsGoing base (taken log) disk settled pending
taken_going base log disk settled pending g = taken_goes log.fixed base log disk settled pending refl g

same_area : (fixed : Bool) (log : Unsettled) → (taken_if fixed log).area ≡ log.area
same_area true log = refl
same_area false log = refl

pub comes_taken : (log log' : Unsettled) (disk : Disk) → ((image : Image) → disk.left_since disk.moment image → IsImage disk image) → log' ≡ taken log → ComesFrom log disk log' disk []
comes_taken log log' disk only_now is = subst (λ (l : Unsettled). ComesFrom log disk l disk []) (sym is)
    (comes_by log (taken log) disk disk (same_area log.fixed log) (keeps_reading log.area disk disk (read_none disk only_now)) (λ base settled pending g.
    goes_still base log (taken log) disk disk settled pending (taken_going base log disk settled pending g)
    (started disk (λ image. IsBetween base settled pending (image log.area)) only_now (between_now base log disk settled pending g))))

-- once a batch is settled, its log is what goes on
pub past_is : (log : Log) (pending after : Pending) → IsOut log pending → IsSameBatch pending after → past after (newer_of log) ≡ unsettled log
past_is log pending after is same =
    let area : after.area ≡ log.area = same.area ∙ is.area in
    let at : behind after ≡ log.end = omega (arith, same.at, ap (λ (b : List ℕ). length b) (ap (λ v. v.items) same.bytes), is.end) in
    (λ i. record { area = area i; at = at i; bare = false; fixed = false; body = []; events = 0; newer = newer_of log }) ∙ sym (ap (with_back log) is.alone)

-- an event is appended
pub event_going : (base : List ℕ) (log : Unsettled) (event : Event) (disk : Disk) (settled pending : List Event) → IsTyped event → IsWritable event
    → log.newer.used + (length (spelling event) + 5) ≤ 268435456 → IsGoing base log disk settled pending → IsGoing base (with_event log event) disk settled (pending ++ event ∷ [])
event_going base log event disk settled pending typed writable fits g = record {
  front = g.front;
  before = g.before;
  batch = g.batch;
  fresh = g.fresh ++ event ∷ [];
  leads = g.leads;
  place = g.place;
  pending_are = ap (λ (l : List Event). l ++ event ∷ []) g.pending_are ∙ append_assoc g.batch g.fresh (event ∷ []);
  writable = writable_append pending (event ∷ []) g.writable (typed, writable, tt);
  body = g.body;
  events = g.events;
  newer = ap (λ (l : List ℕ). l ++ spelling event) g.newer ∙ ap (λ (l : List ℕ). spelled g.fresh ++ l) (sym (append-nil (spelling event))) ∙ sym (spelled_append g.fresh (event ∷ []));
  count = omega (arith, g.count, length-append g.fresh (event ∷ []));
  used = omega (arith, g.used, room_append pending (event ∷ []));
  fits = fits;
  images = g.images;
}

-- with nothing pending, just what is settled
pub holds_all : (base : List ℕ) (settled : List Event) (bytes : List ℕ) → IsBetween base settled [] bytes → Holds base settled bytes
holds_all base settled bytes between =
    let none : take between.0 [] ≡ [] = nothing between.0 in
    subst (λ (l : List Event). Holds base l bytes) (ap (λ (l : List Event). settled ++ l) none ∙ append-nil settled) between.2
  where
    nothing : (n : ℕ) → ◌≡◌ {A = List Event} (take n []) []
    nothing zero = refl
    nothing (suc n) = refl

pub comes_with_event : (log : Unsettled) (event : Event) (disk : Disk) → ((image : Image) → disk.left_since disk.moment image → IsImage disk image) → IsTyped event → IsWritable event
    → log.newer.used + (length (spelling event) + 5) ≤ 268435456 → ComesFrom log disk (with_event log event) disk (event ∷ [])
comes_with_event log event disk only_now typed writable fits = record {
  area = refl;
  others = keeps_reading log.area disk disk (read_none disk only_now);
  goes_on = λ base settled pending g.
      goes_still base log (with_event log event) disk disk settled (pending ++ event ∷ []) (event_going base log event disk settled pending typed writable fits g)
      (started disk (λ image. IsBetween base settled (pending ++ event ∷ []) (image log.area)) only_now
      (λ image is. between_more base settled pending (event ∷ []) (image log.area) (between_now base log disk settled pending g image is)));
}
