-- Both log areas together: which of them counts in an image, and what calls leave of it.
use Rattle.std.proofs.Common.{◌≡◌, ◌≢◌, ◌⊎◌, inl, inr, ℕ, ◌+◌, ◌%◌, ◌<◌, ◌≤◌, Bool, true, false, not, ◌==◌, nat_lt, if◌then◌else◌, List, [], ◌∷◌, ◌++◌, Option, Some, None, Result, Ok, Err, length, take, refl, sym, ◌∙◌, ap, subst, arith, append-nil}
use Rattle.std.proofs.lemmas.Bool.{cases_eq}
use Rattle.std.proofs.lemmas.Bool.Decides.{nat_tests}
use Rattle.vec_history.specs.declared.event.Event.{Event}
use Rattle.vec_outside.specs.declared.disks.Area.{Area}
use Rattle.vec_outside.specs.declared.disks.Area.TheVariants.{Pages, Log0, Log1}
use Rattle.vec_outside.specs.Disk.{Disk, Image, IsImage, LeavesOnly}
use Rattle.vec_outside.proofs.Moments.{weakened, started}
use Rattle.page_log.specs.Aside.{AreAll, IsAside, IsBelow, IsUnderSome, IsUnderShut, Keeps}
use Rattle.page_log.specs.BothLogs.{other_log, Held, IsNamedBase, Reads, ReadsNext, ReadsAny, begun, Ready, Begun, added, changed, settled_more, with_all_settled, MayRead, Logs, alone, before_next, begun_log, IsNext, AreBeside, IsStanding, LogsGoOn, LogsComeFrom}
use Rattle.page_log.specs.Epoch.{head_in}
use Rattle.page_log.specs.Going.{Unsettled, IsBetween, IsGoing, KeepsOthers, ComesFrom, SettlesAll}
use Rattle.page_log.specs.NewEpochs.{NewEpoch, IsNewEpoch, base_of, IsUnder}
use Rattle.page_log.specs.Opening.{ReadsAs, area_of, parity_of, front_at, picked, chosen}
use Rattle.page_log.specs.declared.front.Front.{Front}
use Rattle.page_log.proofs.Changing.{with_all, added_may, added_after}
use Rattle.page_log.proofs.Coming.{between_of, still}
use Rattle.page_log.proofs.Keeping.{both}
use Rattle.page_log.proofs.NewBases.{new_named, base_front, no_batches, new_holds, new_sealed, under_shut}
use Rattle.page_log.proofs.Shutting.{shut_aside}

-- ---- the two areas

log_of : (odd : Bool) → (if odd then Log0 else Log1) ≢ Pages
log_of true is = absurd cc
log_of false is = absurd cc

pub is_log : (epoch : ℕ) → area_of epoch ≢ Pages
is_log epoch is = log_of (epoch % 2 == 1) is

flipped : (a b : Bool) → b ≡ not a → (if b then Log0 else Log1) ≡ other_log (if a then Log0 else Log1)
flipped true b is = ap (λ (o : Bool). if o then Log0 else Log1) is
flipped false b is = ap (λ (o : Bool). if o then Log0 else Log1) is

odd_next : (epoch n : ℕ) → n ≡ epoch + 1 → (n % 2 == 1) ≡ not (epoch % 2 == 1)
odd_next epoch n is =
    elim (cases_eq (epoch % 2) 1) [
      | inl odd ↦
          let even : n % 2 ≡ 0 = omega (arith, odd, is) in
          ap (λ (r : ℕ). r == 1) even ∙ sym (ap (λ (r : ℕ). not (r == 1)) odd)
      | inr even ↦
          let zero_ : epoch % 2 ≡ 0 = omega (arith, even) in
          let odd : n % 2 ≡ 1 = omega (arith, zero_, is) in
          ap (λ (r : ℕ). r == 1) odd ∙ sym (ap (λ (r : ℕ). not (r == 1)) zero_)
    ]

-- the next epoch stands in the other area
pub next_area : (epoch n : ℕ) → n ≡ epoch + 1 → area_of n ≡ other_log (area_of epoch)
next_area epoch n is = flipped (epoch % 2 == 1) (n % 2 == 1) (odd_next epoch n is)

pub other_twice : (area : Area) → area ≢ Pages → other_log (other_log area) ≡ area
other_twice Pages log = absurd (log refl)
other_twice Log0 log = refl
other_twice Log1 log = refl

pub other_apart : (area : Area) → area ≢ Pages → other_log area ≢ area
other_apart Pages log is = absurd (log refl)
other_apart Log0 log is = absurd cc
other_apart Log1 log is = absurd cc

pub other_is_log : (area : Area) → other_log area ≢ Pages
other_is_log Pages is = absurd cc
other_is_log Log0 is = absurd cc
other_is_log Log1 is = absurd cc

-- of two log areas, one that is not this is the other
pub is_other : (area new : Area) → area ≢ Pages → new ≢ Pages → area ≢ new → new ≡ other_log area
is_other Pages new log log' apart = absurd (log refl)
is_other Log0 Pages log log' apart = absurd (log' refl)
is_other Log0 Log0 log log' apart = absurd (apart refl)
is_other Log0 Log1 log log' apart = refl
is_other Log1 Pages log log' apart = absurd (log' refl)
is_other Log1 Log0 log log' apart = refl
is_other Log1 Log1 log log' apart = absurd (apart refl)

-- ---- which one counts

first_counts : (n : ℕ) (front : Front) (second : Result (Option Front) ℕ) → front.head.epoch ≡ n → IsBelow n second
    → picked (Ok (Some front)) second ≡ Ok (Some (Log0, front))
first_counts n front (Ok None) is below = refl
first_counts n front (Ok (Some other)) is below =
    let test : nat_lt front.head.epoch other.head.epoch ≡ false = grind (arith, nat_tests) in
    ap (λ (t : Bool). if t then Ok (Some (Log1, other)) else Ok (Some (Log0, front))) test
first_counts n front (Err at) is below = absurd below

second_counts : (n : ℕ) (first : Result (Option Front) ℕ) (front : Front) → front.head.epoch ≡ n → IsBelow n first
    → picked first (Ok (Some front)) ≡ Ok (Some (Log1, front))
second_counts n (Ok None) front is below = refl
second_counts n (Ok (Some other)) front is below =
    let test : nat_lt other.head.epoch front.head.epoch ≡ true = grind (arith, nat_tests) in
    ap (λ (t : Bool). if t then Ok (Some (Log1, front)) else Ok (Some (Log0, other))) test
second_counts n (Err at) front is below = absurd below

counts_of : (area : Area) (n : ℕ) (front : Front) (image : Image) → area ≢ Pages → front.head.epoch ≡ n
    → front_at (parity_of area) (image area) ≡ Ok (Some front) → IsBelow n (front_at (parity_of (other_log area)) (image (other_log area)))
    → chosen image ≡ Ok (Some (area, front))
counts_of Pages n front image log is here below = absurd (log refl)
counts_of Log0 n front image log is here below =
    ap (λ (f : Result (Option Front) ℕ). picked f (front_at 0 (image Log1))) here ∙ first_counts n front (front_at 0 (image Log1)) is below
counts_of Log1 n front image log is here below =
    ap (λ (f : Result (Option Front) ℕ). picked (front_at 1 (image Log0)) f) here ∙ second_counts n (front_at 1 (image Log0)) front is below

-- neither is open
pub none_counts : (image : Image) → IsAside (parity_of Log0) 0 (image Log0) → IsAside (parity_of Log1) 0 (image Log1) → chosen image ≡ Ok None
none_counts image first second = none (front_at 1 (image Log0)) (front_at 0 (image Log1)) first.below second.below
  where
    none : (a b : Result (Option Front) ℕ) → IsBelow 0 a → IsBelow 0 b → picked a b ≡ Ok None
    none (Ok None) (Ok None) x y = refl
    none (Ok None) (Ok (Some f)) x y = absurd (omega (arith, y))
    none (Ok None) (Err at) x y = absurd y
    none (Ok (Some f)) b x y = absurd (omega (arith, x))
    none (Err at) b x y = absurd x

-- ---- what an image reads as

pub front_of : (epoch : ℕ) (base area : List ℕ) → IsNamedBase epoch base → take (length base) area ≡ base
    → (40 ≤ length area) × (front_at (parity_of (area_of epoch)) area ≡ Ok (Some (record { head = head_in base; bad = None })))
front_of epoch base area named is =
    let same = base_front (parity_of (area_of epoch)) base area named.whole is in
    (same.0, same.1 ∙ named.front)

pub reads_of : (h : Held) (image : Image) → IsNamedBase h.epoch h.base → IsBetween h.base h.settled h.pending (image (area_of h.epoch))
    → IsAside (parity_of (other_log (area_of h.epoch))) h.epoch (image (other_log (area_of h.epoch))) → Reads h image
reads_of h image named between aside = record {
  named = named;
  counts = counts_of (area_of h.epoch) h.epoch (record { head = head_in h.base; bad = None }) image (is_log h.epoch) named.number
      (front_of h.epoch h.base (image (area_of h.epoch)) named between.2.base_is).1 aside.below;
  holds = between;
}

-- an area that holds an epoch does not count beside a greater one
pub smaller_aside : (epoch n : ℕ) (base area : List ℕ) → epoch < n → IsNamedBase epoch base → take (length base) area ≡ base
    → IsAside (parity_of (area_of epoch)) n area
smaller_aside epoch n base area less named is =
    let front = front_of epoch base area named is in record {
      whole = front.0;
      below = subst (λ (f : Result (Option Front) ℕ). IsBelow n f) (sym front.1) (omega (arith, less, named.number));
    }

-- the area beside the one that counts
abbrev pub IsBeside : Held → Option NewEpoch → List ℕ → Type 0
IsBeside h None bytes = IsAside (parity_of (other_log (area_of h.epoch))) h.epoch bytes
IsBeside h (Some new) bytes = IsNext h new × IsUnderSome new bytes

pub beside_left : (h : Held) (next : Option NewEpoch) (disk : Disk) → AreBeside h next disk → (bytes : List ℕ) → disk.leaves (other_log (area_of h.epoch)) bytes → IsBeside h next bytes
beside_left h None disk are bytes left = are bytes left
beside_left h (Some new) disk are bytes left = (are.0, are.1 bytes left)

new_reads : (h : Held) (new : NewEpoch) (image : Image) → IsNamedBase h.epoch h.base → IsNext h new → take (length h.base) (image (area_of h.epoch)) ≡ h.base
    → IsUnder new 165 (image (other_log (area_of h.epoch))) → Reads (begun new) image
new_reads h new image named next is under =
    let here : area_of new.epoch ≡ other_log (area_of h.epoch) = next_area h.epoch new.epoch next.number in
    let there : other_log (area_of new.epoch) ≡ area_of h.epoch = ap (λ (a : Area). other_log a) here ∙ other_twice (area_of h.epoch) (is_log h.epoch) in
    reads_of (begun new) image (new_named new next.good)
    (new_holds new (image (area_of new.epoch)) (subst (λ (a : Area). IsUnder new 165 (image a)) (sym here) under))
    (subst (λ (a : Area). IsAside (parity_of a) new.epoch (image a)) (sym there)
    (smaller_aside h.epoch new.epoch h.base (image (area_of h.epoch)) (omega (arith, next.number)) named is))

pub reads_any : (h : Held) (next : Option NewEpoch) (image : Image) → h.next ≡ next → IsNamedBase h.epoch h.base
    → IsBetween h.base h.settled h.pending (image (area_of h.epoch)) → IsBeside h next (image (other_log (area_of h.epoch))) → ReadsAny h image
reads_any h None image is named between beside = inl (reads_of h image named between beside)
reads_any h (Some new) image is named between beside =
    elim (cases_eq beside.1.0 165) [
      | inl open_ ↦ inr (subst (λ (n : Option NewEpoch). ReadsNext n image) (sym is)
          (new_reads h new image named beside.0 between.2.base_is (subst (λ (s : ℕ). IsUnder new s (image (other_log (area_of h.epoch)))) open_ beside.1.1)))
      | inr shut ↦ inl (reads_of h image named between
          (shut_aside (parity_of (other_log (area_of h.epoch))) h.epoch (image (other_log (area_of h.epoch)))
          (under_shut new beside.1.0 (image (other_log (area_of h.epoch))) shut beside.1.1)))
    ]

module _ (logs : Logs) (disk : Disk) (h : Held) (stands : IsStanding logs disk h) where
  between_left : (bytes : List ℕ) → disk.leaves (area_of h.epoch) bytes → IsBetween h.base h.settled h.pending bytes
  between_left bytes left =
      between_of h.base logs.log disk h.settled h.pending stands.going logs.log.fixed bytes
      (stands.going.images bytes (subst (λ (a : Area). disk.leaves a bytes) (sym stands.area) left)).1

  -- where its log areas are left so
  pub left_reads : (image : Image) → disk.leaves (area_of h.epoch) (image (area_of h.epoch))
      → IsBeside h logs.next (image (other_log (area_of h.epoch))) → ReadsAny h image
  left_reads image here beside = reads_any h logs.next image stands.next stands.named (between_left (image (area_of h.epoch)) here) beside

  pub image_reads : (image : Image) → IsImage disk image → ReadsAny h image
  image_reads image is =
      left_reads image (is (area_of h.epoch))
      (beside_left h logs.next disk stands.beside (image (other_log (area_of h.epoch))) (is (other_log (area_of h.epoch))))

  -- over images that are no more
  pub stands_still : (new : Disk) → ((bytes : List ℕ) → new.leaves (area_of h.epoch) bytes → disk.leaves (area_of h.epoch) bytes)
      → AreBeside h logs.next new → IsStanding logs new h
  stands_still new fewer beside = record {
    area = stands.area;
    next = stands.next;
    named = stands.named;
    going = still h.base logs.log disk h.settled h.pending stands.going logs.log.fixed logs.log.bare new (λ bytes left.
        stands.going.images bytes (subst (λ (a : Area). disk.leaves a bytes) (sym stands.area)
        (fewer bytes (subst (λ (a : Area). new.leaves a bytes) stands.area left))));
    beside = beside;
  }

  -- nothing is done to the logs
  pub goes_nowhere : (new : Disk) → IsStanding logs new h → LeavesOnly disk new (ReadsAny h) → LogsGoOn disk logs new h []
  goes_nowhere new standing moments = record {
    now = h;
    leads = (0, omega arith, same);
    standing = standing;
    moments = moments;
  }
    where
      same : h ≡ settled_more 0 h
      same =
          let none = sym (append-nil h.settled) in
          λ i. record { epoch = h.epoch; base = h.base; settled = none i; pending = h.pending; next = h.next }

fewer_beside : (h : Held) (next : Option NewEpoch) (old new : Disk)
    → ((bytes : List ℕ) → new.leaves (other_log (area_of h.epoch)) bytes → old.leaves (other_log (area_of h.epoch)) bytes)
    → AreBeside h next old → AreBeside h next new
fewer_beside h None old new fewer are = λ bytes left. are bytes (fewer bytes left)
fewer_beside h (Some next) old new fewer are = (are.0, λ bytes left. are.1 bytes (fewer bytes left))

-- ---- what keeps the relation

-- calls that leave both log areas alone
pub pages_written : (logs : Logs) (old new : Disk) → KeepsOthers Pages old new → LogsComeFrom logs old logs new []
pages_written logs old new others h stands =
    goes_nowhere logs old h stands new
    (stands_still logs old h stands new (λ bytes left. others.leaves (area_of h.epoch) bytes (is_log h.epoch) left)
    (fewer_beside h logs.next old new (λ bytes left. others.leaves (other_log (area_of h.epoch)) bytes (other_is_log (area_of h.epoch)) left) stands.beside))
    (weakened old new (λ image. (other : Area) → other ≢ Pages → old.leaves other (image other)) (ReadsAny h) others.moments (λ image left.
    left_reads logs old h stands image (left (area_of h.epoch) (is_log h.epoch))
    (beside_left h logs.next old stands.beside (image (other_log (area_of h.epoch))) (left (other_log (area_of h.epoch)) (other_is_log (area_of h.epoch))))))

pub logs_same : (logs : Logs) (disk : Disk) → ((image : Image) → disk.left_since disk.moment image → IsImage disk image) → LogsComeFrom logs disk logs disk []
logs_same logs disk only_now h stands =
    goes_nowhere logs disk h stands disk stands (started disk (ReadsAny h) only_now (λ image is. image_reads logs disk h stands image is))

-- a log that goes on beside an area that does not count
pub log_comes : (log after : Unsettled) (old new : Disk) (events : List Event) → ComesFrom log old after new events
    → LogsComeFrom (alone log) old (alone after) new (added events)
log_comes log after old new events comes h stands =
    let step = comes.goes_on h.base h.settled h.pending stands.going in
    let all = with_all h events in
    let here = stands.area in
    let apart : other_log (area_of h.epoch) ≢ log.area =
    (λ is. other_apart (area_of h.epoch) (is_log h.epoch) (is ∙ here)) in record {
      now = settled_more step.count all;
      leads = added_after events h (settled_more step.count all) step.count step.within refl;
      standing = record {
        area = comes.area ∙ here;
        next = stands.next;
        named = stands.named;
        going = step.going;
        beside = λ bytes left. stands.beside bytes (comes.others.leaves (other_log (area_of h.epoch)) bytes apart left);
      };
      moments = weakened old new
          (λ image. IsBetween h.base h.settled (h.pending ++ events) (image log.area) × ((other : Area) → other ≢ log.area → old.leaves other (image other)))
          (MayRead h (added events))
          (both old new (λ image. IsBetween h.base h.settled (h.pending ++ events) (image log.area))
          (λ image. (other : Area) → other ≢ log.area → old.leaves other (image other)) step.moments comes.others.moments)
          (λ image is. added_may events h image (reads_any all None image stands.next stands.named
          (subst (λ (a : Area). IsBetween h.base h.settled (h.pending ++ events) (image a)) here is.0)
          (stands.beside (image (other_log (area_of h.epoch))) (is.1 (other_log (area_of h.epoch)) apart))));
    }

-- once it has settled all
pub settled_stands : (log after : Unsettled) (old new : Disk) (h : Held) → ComesFrom log old after new [] → SettlesAll log old after new → IsStanding (alone log) old h
    → IsStanding (alone after) new (with_all_settled h)
settled_stands log after old new h comes settles stands =
    let apart : other_log (area_of h.epoch) ≢ log.area =
    (λ is. other_apart (area_of h.epoch) (is_log h.epoch) (is ∙ stands.area)) in record {
      area = comes.area ∙ stands.area;
      next = stands.next;
      named = stands.named;
      going = settles h.base h.settled h.pending stands.going;
      beside = λ bytes left. stands.beside bytes (comes.others.leaves (other_log (area_of h.epoch)) bytes apart left);
    }

-- an epoch that is written into the other area
pub epoch_written : (log : Unsettled) (area : Area) (old new : Disk) → area ≢ Pages → log.area ≢ area
    → ((below : ℕ) → Keeps (IsAside (parity_of area) below) area old new) → LogsComeFrom (alone log) old (alone log) new []
epoch_written log area old new is_log_area apart keeps h stands =
    let here : log.area ≡ area_of h.epoch = stands.area in
    let there : area ≡ other_log (area_of h.epoch) =
    is_other (area_of h.epoch) area (is_log h.epoch) is_log_area (λ is. apart (here ∙ is)) in
    let other = other_log (area_of h.epoch) in
    let kept : Keeps (IsAside (parity_of other) h.epoch) other old new =
    subst (λ (a : Area). Keeps (IsAside (parity_of a) h.epoch) a old new) there (keeps h.epoch) in
    let away : area_of h.epoch ≢ other = (λ is. other_apart (area_of h.epoch) (is_log h.epoch) (sym is)) in
    goes_nowhere (alone log) old h stands new
    (stands_still (alone log) old h stands new (λ bytes left. kept.others.leaves (area_of h.epoch) bytes away left) (kept.stays stands.beside))
    (weakened old new (λ image. ((x : Area) → x ≢ other → old.leaves x (image x)) × IsAside (parity_of other) h.epoch (image other)) (ReadsAny h)
    (both old new (λ image. (x : Area) → x ≢ other → old.leaves x (image x)) (λ image. IsAside (parity_of other) h.epoch (image other))
    kept.others.moments (kept.moments stands.beside))
    (λ image is. left_reads (alone log) old h stands image (is.0 (area_of h.epoch) away) is.1))

-- it is ready
pub epoch_ready : (log : Unsettled) (disk : Disk) (h : Held) (new : NewEpoch) → ((image : Image) → disk.left_since disk.moment image → IsImage disk image)
    → IsStanding (alone log) disk h → IsNext h new → AreAll (IsUnderShut new) (area_of new.epoch) disk
    → LogsGoOn disk (before_next log new) disk h (Ready new ∷ [])
epoch_ready log disk h new only_now stands next under =
    let there : area_of new.epoch ≡ other_log (area_of h.epoch) = next_area h.epoch new.epoch next.number in
    let now = changed h (Ready new) in
    let ready : IsNext now new = record { good = next.good; number = next.number; settled = next.settled } in record {
      now = now;
      leads = (0, omega arith, same);
      standing = record {
        area = stands.area;
        next = refl;
        named = stands.named;
        going = stands.going;
        beside = (ready, λ bytes left. let u = under bytes (subst (λ (a : Area). disk.leaves a bytes) (sym there) left) in (u.0, u.2));
      };
      moments = started disk (MayRead h (Ready new ∷ [])) only_now (λ image is. inl (image_reads (alone log) disk h stands image is));
    }
  where
    same : changed h (Ready new) ≡ settled_more 0 (changed h (Ready new))
    same =
        let none = sym (append-nil h.settled) in
        λ i. record { epoch = h.epoch; base = h.base; settled = none i; pending = h.pending; next = Some new }

-- an epoch that has just begun
fresh_going : (new : NewEpoch) (disk : Disk) → AreAll (IsUnder new 165) (area_of new.epoch) disk → IsGoing (base_of new 165) (begun_log new) disk [] []
fresh_going new disk all = record {
  front = base_of new 165;
  before = 0;
  batch = [];
  fresh = [];
  leads = no_batches (base_of new 165);
  place = refl;
  pending_are = refl;
  writable = tt;
  body = refl;
  events = refl;
  newer = refl;
  count = refl;
  used = omega arith;
  fits = omega arith;
  images = λ bytes left. (refl, new_sealed new bytes (all bytes left));
}

-- ---- the first epoch

below_more : (n : ℕ) (front : Result (Option Front) ℕ) → IsBelow 0 front → IsBelow n front
below_more n (Ok None) below = tt
below_more n (Ok (Some front)) below = absurd (omega (arith, below))
below_more n (Err at) below = below

aside_more : (parity n : ℕ) (bytes : List ℕ) → IsAside parity 0 bytes → IsAside parity n bytes
aside_more parity n bytes aside = record { whole = aside.whole; below = below_more n (front_at parity bytes) aside.below }

both_aside : (area : Area) (image : Image) → area ≢ Pages → IsAside (parity_of area) 0 (image area) → IsAside (parity_of (other_log area)) 0 (image (other_log area))
    → chosen image ≡ Ok None
both_aside Pages image log first second = absurd (log refl)
both_aside Log0 image log first second = none_counts image first second
both_aside Log1 image log first second = none_counts image second first

-- until its seal is open no index is read
pub first_reads : (new : NewEpoch) (image : Image) → IsNewEpoch new → IsUnderSome new (image (area_of new.epoch))
    → IsAside (parity_of (other_log (area_of new.epoch))) 0 (image (other_log (area_of new.epoch))) → ReadsAs image (Ok None) ⊎ Reads (begun new) image
first_reads new image good under aside =
    let area = area_of new.epoch in
    let other = other_log area in
    elim (cases_eq under.0 165) [
      | inl open_ ↦ inr (reads_of (begun new) image (new_named new good) (new_holds new (image area) (subst (λ (s : ℕ). IsUnder new s (image area)) open_ under.1))
          (aside_more (parity_of other) new.epoch (image other) aside))
      | inr shut ↦ inl (both_aside area image (is_log new.epoch) (shut_aside (parity_of area) 0 (image area) (under_shut new under.0 (image area) shut under.1)) aside)
    ]

pub first_stands : (new : NewEpoch) (disk : Disk) → IsNewEpoch new → AreAll (IsUnder new 165) (area_of new.epoch) disk
    → AreAll (IsAside (parity_of (other_log (area_of new.epoch))) 0) (other_log (area_of new.epoch)) disk → IsStanding (alone (begun_log new)) disk (begun new)
first_stands new disk good all aside = record {
  area = refl;
  next = refl;
  named = new_named new good;
  going = fresh_going new disk all;
  beside = λ bytes left. aside_more (parity_of (other_log (area_of new.epoch))) new.epoch bytes (aside bytes left);
}

-- ---- its seal

module _ (log : Unsettled) (new : NewEpoch) (area : Area) (old after : Disk) (kept : Keeps (IsUnderSome new) area old after) (is_area : area ≡ area_of new.epoch)
    (h : Held) (stands : IsStanding (before_next log new) old h) where
  next_is : IsNext h new
  next_is = stands.beside.0

  there : area ≡ other_log (area_of h.epoch)
  there = is_area ∙ next_area h.epoch new.epoch next_is.number

  pub under_there : AreAll (IsUnderSome new) area old
  under_there = subst (λ (a : Area). AreAll (IsUnderSome new) a old) (sym there) stands.beside.1

  there_kept : Keeps (IsUnderSome new) (other_log (area_of h.epoch)) old after
  there_kept = subst (λ (a : Area). Keeps (IsUnderSome new) a old after) there kept

  away : area_of h.epoch ≢ other_log (area_of h.epoch)
  away is = other_apart (area_of h.epoch) (is_log h.epoch) (sym is)

  fewer : (bytes : List ℕ) → after.leaves (area_of h.epoch) bytes → old.leaves (area_of h.epoch) bytes
  fewer bytes left = there_kept.others.leaves (area_of h.epoch) bytes away left

  seal_moments : LeavesOnly old after (ReadsAny h)
  seal_moments =
      weakened old after (λ image. ((x : Area) → x ≢ other_log (area_of h.epoch) → old.leaves x (image x)) × IsUnderSome new (image (other_log (area_of h.epoch)))) (ReadsAny h)
      (both old after (λ image. (x : Area) → x ≢ other_log (area_of h.epoch) → old.leaves x (image x)) (λ image. IsUnderSome new (image (other_log (area_of h.epoch))))
      there_kept.others.moments (there_kept.moments stands.beside.1))
      (λ image is. left_reads (before_next log new) old h stands image (is.0 (area_of h.epoch) away) (next_is, is.1))

  pub seal_tried : LogsGoOn old (before_next log new) after h []
  seal_tried =
      goes_nowhere (before_next log new) old h stands after
      (stands_still (before_next log new) old h stands after fewer (next_is, there_kept.stays stands.beside.1)) seal_moments

  new_going : AreAll (IsUnder new 165) area after → IsGoing (base_of new 165) (begun_log new) after [] []
  new_going all = fresh_going new after (subst (λ (a : Area). AreAll (IsUnder new 165) a after) is_area all)

  old_aside : AreAll (IsAside (parity_of (area_of h.epoch)) new.epoch) (area_of h.epoch) after
  old_aside bytes left =
      smaller_aside h.epoch new.epoch h.base bytes (omega (arith, next_is.number)) stands.named
      (between_left (before_next log new) old h stands bytes (fewer bytes left)).2.base_is

  back : other_log (area_of new.epoch) ≡ area_of h.epoch
  back = ap (λ (a : Area). other_log a) (sym is_area ∙ there) ∙ other_twice (area_of h.epoch) (is_log h.epoch)

  pub seal_opened : AreAll (IsUnder new 165) area after → LogsGoOn old (alone (begun_log new)) after h (Begun new ∷ [])
  seal_opened all = record {
    now = begun new;
    leads = (0, omega arith, refl);
    standing = record {
      area = refl;
      next = refl;
      named = new_named new next_is.good;
      going = new_going all;
      beside = subst (λ (a : Area). AreAll (IsAside (parity_of a) new.epoch) a after) (sym back) old_aside;
    };
    moments = weakened old after (ReadsAny h) (MayRead h (Begun new ∷ [])) seal_moments (λ image any. inl any);
  }
