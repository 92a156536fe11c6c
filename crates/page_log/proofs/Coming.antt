-- How the steps of a log are joined.
use Rattle.std.proofs.Common.{◌≡◌, Bool, true, false, ℕ, zero, suc, ◌+◌, ◌≤◌, List, [], ◌∷◌, ◌++◌, length, take, drop, refl, sym, ◌∙◌, ap, subst, arith, append_assoc, append-nil, length-append, length-drop, take-append-drop}
use Rattle.std.proofs.lemmas.List.{take-append-le, drop-append-le, drop-drop}
use Rattle.vec_history.specs.declared.event.Event.{Event}
use Rattle.vec_outside.specs.declared.disks.Area.{Area}
use Rattle.vec_outside.specs.Disk.{Disk, Image, IsImage, LeavesOnly}
use Rattle.vec_outside.proofs.Moments.{started, weakened, joined}
use Rattle.page_log.specs.Going.{AreWritable, spelled, room, Holds, IsBetween, IsSealed, Unsettled, IsGoing, GoesOn, KeepsOthers, ComesFrom, SettlesAll, body_of}
use Rattle.page_log.specs.Steps.{OnlyReads}
use Rattle.page_log.proofs.SpelledEvents.{writable_front, writable_rest, room_append, none_spelled}
use Rattle.page_log.proofs.Fronts.{read_none}
use Rattle.page_log.proofs.Holding.{holds_between, body_length}
use Rattle.page_log.proofs.OtherAreas.{keeps_reading, keeps_on}

pub take_parts : (a b : ℕ) (xs : List Event) → take (a + b) xs ≡ take a xs ++ take b (drop a xs)
take_parts zero b xs = let e : zero + b ≡ b = omega arith in ap (λ (n : ℕ). take n xs) e
take_parts (suc a) zero [] = let e : suc a + 0 ≡ suc a = omega arith in ap (λ (n : ℕ). take n []) e
take_parts (suc a) (suc b) [] = let e : suc a + suc b ≡ suc (a + suc b) = omega arith in ap (λ (n : ℕ). take n []) e
take_parts (suc a) b (x ∷ xs) = let e : suc a + b ≡ suc (a + b) = omega arith in ap (λ (n : ℕ). take n (x ∷ xs)) e ∙ ap (λ (l : List Event). x ∷ l) (take_parts a b xs)

-- ---- between what is settled and all

pub between_more : (base : List ℕ) (settled some more : List Event) (bytes : List ℕ) → IsBetween base settled some bytes → IsBetween base settled (some ++ more) bytes
between_more base settled some more bytes between = (
  between.0,
  omega (arith, between.1, length-append some more),
  subst (λ (l : List Event). Holds base (settled ++ l) bytes) (sym (take-append-le between.0 some more between.1)) between.2,
)

settled_parts : (a b : ℕ) (settled all more : List Event) → a ≤ length all → (settled ++ take a all) ++ take b (drop a all ++ more) ≡ settled ++ take (a + b) (all ++ more)
settled_parts a b settled all more le =
    append_assoc settled (take a all) (take b (drop a all ++ more))
    ∙ ap (λ (l : List Event). settled ++ (l ++ take b (drop a all ++ more))) (sym (take-append-le a all more le))
    ∙ ap (λ (l : List Event). settled ++ (take a (all ++ more) ++ take b l)) (sym (drop-append-le a all more le))
    ∙ ap (λ (l : List Event). settled ++ l) (sym (take_parts a b (all ++ more)))

pub between_parts : (base : List ℕ) (a : ℕ) (settled all more : List Event) (bytes : List ℕ) → a ≤ length all → IsBetween base (settled ++ take a all) (drop a all ++ more) bytes → IsBetween base settled (all ++ more) bytes
between_parts base a settled all more bytes le between = (
  a + between.0,
  omega (arith, between.1, length-append (drop a all) more, length-drop a all, length-append all more, le),
  subst (λ (l : List Event). Holds base l bytes) (settled_parts a between.0 settled all more le) between.2,
)

-- ---- one log

module _ (base : List ℕ) (log : Unsettled) (old : Disk) (settled pending : List Event) (g : IsGoing base log old settled pending) where
  pub batch_writable : AreWritable g.batch
  batch_writable = writable_front g.batch g.fresh (subst AreWritable g.pending_are g.writable)

  pub batch_fits : g.before + room g.batch ≤ 268435456
  batch_fits = omega (arith, g.used, g.fits, ap room g.pending_are, room_append g.batch g.fresh)

  pub between_of : (fixed : Bool) (bytes : List ℕ) → IsSealed g.front fixed log.body bytes → IsBetween base settled pending bytes
  between_of fixed bytes is =
      subst (λ (l : List Event). IsBetween base settled l bytes) (sym g.pending_are)
      (holds_between base g.front settled g.batch g.fresh g.before fixed bytes g.leads batch_writable batch_fits
      (subst (λ (b : List ℕ). IsSealed g.front fixed b bytes) g.body is))

  -- each image of a log that is going has what is settled
  pub between_now : (image : Image) → IsImage old image → IsBetween base settled pending (image log.area)
  between_now image is = between_of log.fixed (image log.area) (g.images (image log.area) (is log.area)).1

  -- the same events over other images
  pub still : (fixed bare : Bool) (new : Disk) → ((bytes : List ℕ) → new.leaves log.area bytes → (bare ≡ false) × IsSealed g.front fixed log.body bytes)
      → IsGoing base (record log { fixed = fixed; bare = bare }) new settled pending
  still fixed bare new images = record {
    front = g.front;
    before = g.before;
    batch = g.batch;
    fresh = g.fresh;
    leads = g.leads;
    place = g.place;
    pending_are = g.pending_are;
    writable = g.writable;
    body = g.body;
    events = g.events;
    newer = g.newer;
    count = g.count;
    used = g.used;
    fits = g.fits;
    images = images;
  }

-- nothing more is settled
pub goes_still : (base : List ℕ) (log log' : Unsettled) (old new : Disk) (settled pending : List Event) → IsGoing base log' new settled pending
    → LeavesOnly old new (λ image. IsBetween base settled pending (image log.area)) → GoesOn base log old log' new settled pending
goes_still base log log' old new settled pending going moments = record {
  count = 0;
  within = omega arith;
  going = subst (λ (s : List Event). IsGoing base log' new s pending) (sym (append-nil settled)) going;
  moments = moments;
}

-- steps that add nothing
pub comes_by : (log log' : Unsettled) (old new : Disk) → log'.area ≡ log.area → KeepsOthers log.area old new
    → ((base : List ℕ) (settled pending : List Event) → IsGoing base log old settled pending → GoesOn base log old log' new settled pending) → ComesFrom log old log' new []
comes_by log log' old new same others step = record {
  area = same;
  others = others;
  goes_on = λ base settled pending going. subst (λ (l : List Event). GoesOn base log old log' new settled l) (sym (append-nil pending)) (step base settled pending going);
}

-- reads
pub comes_reading : (log : Unsettled) (old new : Disk) → OnlyReads old new → ComesFrom log old log new []
comes_reading log old new only = comes_by log log old new refl (keeps_reading log.area old new only) (λ base settled pending going.
    goes_still base log log old new settled pending
    (still base log old settled pending going log.fixed log.bare new (λ bytes left. going.images bytes (only.kept.leaves log.area bytes left)))
    (weakened old new (IsImage old) (λ image. IsBetween base settled pending (image log.area)) only.moments (between_now base log old settled pending going)))

-- one step after the other
goes_further : (base : List ℕ) (log log' log'' : Unsettled) (old mid new : Disk) (settled all more : List Event) → log'.area ≡ log.area
    → (first : GoesOn base log old log' mid settled all) → GoesOn base log' mid log'' new (settled ++ take first.count all) (drop first.count all ++ more)
    → GoesOn base log old log'' new settled (all ++ more)
goes_further base log log' log'' old mid new settled all more same first second =
    let a = first.count in
    let b = second.count in
    let P : Image → Type 0 = λ image. IsBetween base settled (all ++ more) (image log.area) in
    let moments : LeavesOnly old new P =
    joined old mid new P (λ image. IsBetween base (settled ++ take a all) (drop a all ++ more) (image log'.area))
    (weakened old mid (λ image. IsBetween base settled all (image log.area)) P first.moments (λ image between. between_more base settled all more (image log.area) between))
    second.moments
    (λ image between. between_parts base a settled all more (image log.area) first.within
    (subst (λ (area : Area). IsBetween base (settled ++ take a all) (drop a all ++ more) (image area)) same between)) in
    let left : drop b (drop a all ++ more) ≡ drop (a + b) (all ++ more) =
    ap (λ (l : List Event). drop b l) (sym (drop-append-le a all more first.within)) ∙ drop-drop b a (all ++ more) in
    record {
      count = a + b;
      within = omega (arith, first.within, second.within, length-append (drop a all) more, length-drop a all, length-append all more);
      going = subst (λ (l : List Event). IsGoing base log'' new (settled ++ take (a + b) (all ++ more)) l) left
          (subst (λ (s : List Event). IsGoing base log'' new s (drop b (drop a all ++ more))) (settled_parts a b settled all more first.within) second.going);
      moments = moments;
    }

pub comes_further : (log log' log'' : Unsettled) (old mid new : Disk) (added more : List Event) → ComesFrom log old log' mid added → ComesFrom log' mid log'' new more → ComesFrom log old log'' new (added ++ more)
comes_further log log' log'' old mid new added more first second = record {
  area = second.area ∙ first.area;
  others = keeps_on log.area old mid new first.others (subst (λ (area : Area). KeepsOthers area mid new) first.area second.others);
  goes_on = λ base settled pending going.
      let one = first.goes_on base settled pending going in
      subst (λ (l : List Event). GoesOn base log old log'' new settled l) (append_assoc pending added more)
      (goes_further base log log' log'' old mid new settled (pending ++ added) more first.area one
      (second.goes_on base (settled ++ take one.count (pending ++ added)) (drop one.count (pending ++ added)) one.going));
}

-- ---- nothing is left

no_body : (events : List Event) → AreWritable events → body_of (spelled events) ≡ [] → events ≡ []
no_body events all none = none_spelled events all (empty (spelled events) none)
  where
    empty : (bytes : List ℕ) → body_of bytes ≡ [] → length bytes ≡ 0
    empty [] none = refl
    empty (b ∷ bytes) none = absurd (omega (arith, ap length none, body_length (b ∷ bytes) (omega arith)))

-- where nothing is left to be written, all is settled
pub all_settled : (log log' : Unsettled) (old new : Disk) → log'.body ≡ [] → log'.newer.bytes ≡ [] → ComesFrom log old log' new [] → SettlesAll log old log' new
all_settled log log' old new no_batch no_newer comes base settled pending going =
    let all = pending ++ [] in
    let step = comes.goes_on base settled pending going in
    let g = step.going in
    let left = drop step.count all in
    let writable : AreWritable (g.batch ++ g.fresh) = subst AreWritable g.pending_are g.writable in
    let batch : g.batch ≡ [] = no_body g.batch (writable_front g.batch g.fresh writable) (sym g.body ∙ no_batch) in
    let fresh : g.fresh ≡ [] = none_spelled g.fresh (writable_rest g.batch g.fresh writable) (ap length (sym g.newer ∙ no_newer)) in
    let none : left ≡ [] = g.pending_are ∙ (λ i. batch i ++ fresh i) in
    let whole : take step.count all ≡ pending =
    sym (append-nil (take step.count all)) ∙ ap (λ (l : List Event). take step.count all ++ l) (sym none) ∙ take-append-drop step.count all ∙ append-nil pending in
    subst (λ (s : List Event). IsGoing base log' new (settled ++ s) []) whole
    (subst (λ (l : List Event). IsGoing base log' new (settled ++ take step.count all) l) none g)

-- a batch with no event
pub goes_empty : (base : List ℕ) (log : Unsettled) (disk : Disk) (settled pending : List Event) → log.body ≡ [] → IsGoing base log disk settled pending
    → IsGoing base (record log { at = log.at + length log.body; bare = false; fixed = false; body = []; events = 0 }) disk settled pending
goes_empty base log disk settled pending none g =
    let batch : g.batch ≡ [] = no_body g.batch (batch_writable base log disk settled pending g) (sym g.body ∙ none) in record {
      front = g.front;
      before = g.before;
      batch = g.batch;
      fresh = g.fresh;
      leads = g.leads;
      place = omega (arith, g.place, ap length none);
      pending_are = g.pending_are;
      writable = g.writable;
      body = sym (ap (λ (b : List Event). body_of (spelled b)) batch);
      events = sym (ap length batch);
      newer = g.newer;
      count = g.count;
      used = g.used;
      fits = g.fits;
      images = λ bytes left. let image = g.images bytes left in (refl, not_fixed log.fixed bytes image.1);
    }
  where
    not_fixed : (fixed : Bool) (bytes : List ℕ) → IsSealed g.front fixed log.body bytes → IsSealed g.front false [] bytes
    not_fixed false bytes is = record { seal = is.seal; rest = is.rest; split = is.split; behind = is.behind }
    not_fixed true bytes is = absurd (omega (arith, is.behind.0, ap length none))

pub comes_empty : (log : Unsettled) (disk : Disk) → ((image : Image) → disk.left_since disk.moment image → IsImage disk image) → log.body ≡ []
    → ComesFrom log disk (record log { at = log.at + length log.body; bare = false; fixed = false; body = []; events = 0 }) disk []
comes_empty log disk only_now none =
    let log' : Unsettled = record log { at = log.at + length log.body; bare = false; fixed = false; body = []; events = 0 } in
    comes_by log log' disk disk refl (keeps_reading log.area disk disk (read_none disk only_now)) (λ base settled pending going.
    goes_still base log log' disk disk settled pending (goes_empty base log disk settled pending none going)
    (started disk (λ image. IsBetween base settled pending (image log.area)) only_now (between_now base log disk settled pending going)))

pub no_bytes : (bytes : List ℕ) → length bytes ≡ 0 → bytes ≡ []
no_bytes [] none = refl
no_bytes (b ∷ bytes) none = absurd (omega arith)
