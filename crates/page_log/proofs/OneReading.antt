-- An image reads as one thing.
use Rattle.std.proofs.Common.{◌≡◌, ◌⊎◌, inl, inr, ℕ, zero, suc, ◌+◌, ◌≤◌, List, [], ◌∷◌, ◌++◌, Option, Some, None, Result, Ok, Err, length, take, drop, refl, sym, ap, ◌∙◌, subst, arith}
use Rattle.std.specs.List.{flat_map}
use Rattle.page_bytes.specs.Content.{Content}
use Rattle.page_bytes.proofs.Whole.{spelled}
use Rattle.page_log.specs.Batches.{Placed, Tail, AreEvents, AreBatches, IsBatch, IsRefused, IsLog, EndsBy, EndsRefused, EndsWithin, room_of}
use Rattle.page_log.specs.Epoch.{AreImages}
use Rattle.page_log.specs.Opening.{Spot, Epoch, ImagesOf, IsEpoch, ReadsAs, chosen, images_end}
use Rattle.page_log.specs.declared.front.Front.{Front}
use Rattle.page_log.specs.declared.head.Head.{Head}
use Rattle.page_log.proofs.Runs.{are_unique, one_batch, open_batch}
use Rattle.vec_event.specs.Spelling.{spelling}
use Rattle.vec_event.proofs.Readings.{one_event}
use Rattle.vec_outside.specs.Disk.{Image}
use Rattle.vec_outside.specs.declared.disks.Area.{Area}
use Rattle.vec_outside.specs.declared.disks.Area.TheVariants.{Pages}

some_not_none : (n : ℕ) → ◌≡◌ {A = Option ℕ} None (Some n) → ⊥
some_not_none n is = absurd cc

-- ---- events

bad_unique : (at : ℕ) (bytes : List ℕ) (xs : List Placed) (bad bad' : Option ℕ) → AreEvents at bytes xs bad → AreEvents at bytes xs bad' → bad ≡ bad'
bad_unique at bytes [] None None first second = refl
bad_unique at bytes [] None (Some q) first second = absurd (second.1 first)
bad_unique at bytes [] (Some p) None first second = absurd (first.1 second)
bad_unique at bytes [] (Some p) (Some q) first second = ap Some (first.0 ∙ sym second.0)
bad_unique at bytes (x ∷ xs) bad bad' first second =
    let a = first.1.1 in
    let b = second.1.1 in
    let same = one_event x.1 x.1 first.1.0 second.1.0 a.typed a.writable b.typed b.writable (sym a.same ∙ b.same) in
    bad_unique (at + length (spelling x.1)) first.1.0 xs bad bad' first.1.2
    (subst (λ rest. AreEvents (at + length (spelling x.1)) rest xs bad') (sym same.1) second.1.2)

-- two readings of a batch
one_read : (area : List ℕ) (at : ℕ) (a b : List ℕ) (xs ys : List Placed) (bad bad' : Option ℕ) → IsBatch area at a → IsBatch area at b
    → AreEvents (at + 5) a xs bad → AreEvents (at + 5) b ys bad' → (a ≡ b) × ((xs ≡ ys) × (bad ≡ bad'))
one_read area at a b xs ys bad bad' batch batch' are are' =
    let same = one_batch area at a b batch batch' in
    let here : AreEvents (at + 5) a ys bad' = subst (λ bytes. AreEvents (at + 5) bytes ys bad') (sym same) are' in
    let equal = are_unique (at + 5) a xs ys bad bad' are here in
    (same, (equal, bad_unique (at + 5) a ys bad bad' (subst (λ events. AreEvents (at + 5) a events bad) equal are) here))

-- ---- how batches end

refuses : (area : List ℕ) (at used : ℕ) (bytes : List ℕ) (events : List Placed) (bad : Option ℕ) → IsRefused area at used → IsBatch area at bytes
    → AreEvents (at + 5) bytes events bad → used + room_of events ≤ 268435456 → ⊥
refuses area at used bytes events bad refused batch are fits = absurd (omega (arith, refused bytes events bad batch are, fits))

bad_ends : (area : List ℕ) (at used : ℕ) (t t' : Tail) (p q : ℕ) → EndsRefused area at used t p ⊎ EndsWithin area at used t p
    → EndsRefused area at used t' q ⊎ EndsWithin area at used t' q → (t.events ≡ t'.events) × ((t.used ≡ t'.used) × (Some p ≡ Some q))
bad_ends area at used t t' p q (inl r) (inl r') = (r.none ∙ sym r'.none, (r.used_is ∙ sym r'.used_is, ap Some (r.place_is ∙ sym r'.place_is)))
bad_ends area at used t t' p q (inl r) (inr w) =
    absurd (refuses area at used w.bytes t'.events (Some q) r.refused w.batch w.events (omega (arith, w.used_is, w.fits)))
bad_ends area at used t t' p q (inr w) (inl r) =
    absurd (refuses area at used w.bytes t.events (Some p) r.refused w.batch w.events (omega (arith, w.used_is, w.fits)))
bad_ends area at used t t' p q (inr w) (inr w') =
    let one = one_read area at w.bytes w'.bytes t.events t'.events (Some p) (Some q) w.batch w'.batch w.events w'.events in
    (one.1.0, (w.used_is ∙ ap (λ events. used + room_of events) one.1.0 ∙ sym w'.used_is, one.1.1))

ends_same : (area : List ℕ) (at used : ℕ) (t t' : Tail) (bad bad' : Option ℕ) → EndsBy area at used t bad → EndsBy area at used t' bad'
    → (t.events ≡ t'.events) × ((t.used ≡ t'.used) × (bad ≡ bad'))
ends_same area at used t t' None None a b = (a.1 ∙ sym b.1, (a.2 ∙ sym b.2, refl))
ends_same area at used t t' None (Some q) a b = absurd (a.0 b.0)
ends_same area at used t t' (Some p) None a b = absurd (b.0 a.0)
ends_same area at used t t' (Some p) (Some q) a b = bad_ends area at used t t' p q a.1 b.1

-- where batches end, none stands whole
none_whole : (area : List ℕ) (at used : ℕ) (t : Tail) (bad : Option ℕ) (bytes : List ℕ) (events : List Placed) → EndsBy area at used t bad → IsBatch area at bytes
    → AreEvents (at + 5) bytes events None → used + room_of events ≤ 268435456 → ⊥
none_whole area at used t None bytes events ends batch are fits = ends.0 (open_batch area at bytes batch)
none_whole area at used t (Some p) bytes events ends batch are fits = here ends.1
  where
    here : EndsRefused area at used t p ⊎ EndsWithin area at used t p → ⊥
    here (inl r) = refuses area at used bytes events None r.refused batch are fits
    here (inr w) = some_not_none p (one_read area at bytes w.bytes events t.events None (Some p) batch w.batch are w.events).1.1

one_tail : (area : List ℕ) (at used : ℕ) (xs ys : List (List Placed)) (t t' : Tail) → AreBatches area at used xs t → AreBatches area at used ys t' → (xs ≡ ys) × (t ≡ t')
one_tail area at used [] [] t t' a b =
    let end = a.0 ∙ sym b.0 in
    let same = ends_same area at used t t' t.bad t'.bad a.1 b.1 in
    (refl, λ i. record { events = same.0 i; end = end i; used = same.1.0 i; bad = same.1.1 i })
one_tail area at used [] (y ∷ ys) t t' a b = absurd (none_whole area at used t t.bad b.0 y a.1 b.1 b.2 b.3)
one_tail area at used (x ∷ xs) [] t t' a b = absurd (none_whole area at used t' t'.bad a.0 x b.1 a.1 a.2 a.3)
one_tail area at used (x ∷ xs) (y ∷ ys) t t' a b =
    let one = one_read area at a.0 b.0 x y None None a.1 b.1 a.2 b.2 in
    let rest = one_tail area (at + 5 + length a.0) (used + room_of x) xs ys t t' a.4
    (subst (λ n. AreBatches area (at + 5 + length n) (used + room_of x) ys t') (sym one.0)
    (subst (λ events. AreBatches area (at + 5 + length b.0) (used + room_of events) ys t') (sym one.1.0) b.4)) in
    (λ i. one.1.0 i ∷ rest.0 i, rest.1)

-- ---- images

one_images : (area : List ℕ) (blocks count least at : ℕ) (xs ys : List (ℕ × Content)) (bad bad' : Option ℕ) → AreImages area blocks count least at xs bad
    → AreImages area blocks count least at ys bad' → (xs ≡ ys) × (bad ≡ bad')
one_images area blocks zero least at [] [] None None a b = (refl, refl)
one_images area blocks zero least at [] [] None (Some q) a b = absurd b
one_images area blocks zero least at [] [] (Some p) bad' a b = absurd a
one_images area blocks zero least at [] (y ∷ ys) bad bad' a b = absurd b
one_images area blocks zero least at (x ∷ xs) ys bad bad' a b = absurd a
one_images area blocks (suc count) least at [] [] None bad' a b = absurd a
one_images area blocks (suc count) least at [] [] (Some p) None a b = absurd b
one_images area blocks (suc count) least at [] [] (Some p) (Some q) a b = (refl, ap Some (a.0 ∙ sym b.0))
one_images area blocks (suc count) least at [] (y ∷ ys) None bad' a b = absurd a
one_images area blocks (suc count) least at [] (y ∷ ys) (Some p) bad' a b = absurd (a.1 y b.0)
one_images area blocks (suc count) least at (x ∷ xs) [] bad None a b = absurd b
one_images area blocks (suc count) least at (x ∷ xs) [] bad (Some q) a b = absurd (b.1 x a.0)
one_images area blocks (suc count) least at (x ∷ xs) (y ∷ ys) bad bad' a b =
    let number : x.0 ≡ y.0 = a.0.number ∙ sym b.0.number in
    let bytes = take 8192 (drop (at + 4) area) in
    let page : x.1 ≡ y.1 = sym (spelled bytes x.1 a.0.page) ∙ spelled bytes y.1 b.0.page in
    let rest = one_images area blocks count (x.0 + 1) (at + 8196) xs ys bad bad' a.1
    (subst (λ n. AreImages area blocks count (n + 1) (at + 8196) ys bad') (sym number) b.1) in
    (λ i. (number i, page i) ∷ rest.0 i, rest.1)

-- ---- what was chosen

abbrev Choice : Type 0
Choice = Result (Option (Area × Front)) Spot

abbrev area_in : Choice → Area
area_in (Ok None) = Pages
area_in (Ok (Some x)) = x.0
area_in (Err s) = s.0

abbrev front_in : Front → Choice → Front
front_in f (Ok None) = f
front_in f (Ok (Some x)) = x.1
front_in f (Err s) = f

abbrev place_in : Choice → ℕ
place_in (Ok None) = 0
place_in (Ok (Some x)) = 0
place_in (Err s) = s.1

none_some : (x : Area × Front) → ◌≡◌ {A = Choice} (Ok None) (Ok (Some x)) → ⊥
none_some x is = absurd cc

none_err : (s : Spot) → ◌≡◌ {A = Choice} (Ok None) (Err s) → ⊥
none_err s is = absurd cc

some_err : (x : Area × Front) (s : Spot) → ◌≡◌ {A = Choice} (Ok (Some x)) (Err s) → ⊥
some_err x s is = absurd cc

abbrev place_or : Option ℕ → ℕ
place_or None = 0
place_or (Some n) = n

-- ---- what is read

-- two readings of the images of one header
same_images : (image : Image) (a b : Area) (h h' : Head) (xs ys : List (ℕ × Content)) (bad bad' : Option ℕ) → a ≡ b → h ≡ h'
    → ImagesOf (image a) h xs bad → ImagesOf (image b) h' ys bad' → (xs ≡ ys) × (bad ≡ bad')
same_images image a b h h' xs ys bad bad' area head first second =
    one_images (image a) h.blocks h.images 0 40 xs ys bad bad' first
    (subst (λ h. ImagesOf (image a) h ys bad') (sym head) (subst (λ a. ImagesOf (image a) h' ys bad') (sym area) second))

same_epoch : (image : Image) (e f : Epoch) → e.area ≡ f.area → e.head ≡ f.head → IsEpoch (image e.area) e → IsEpoch (image f.area) f → e ≡ f
same_epoch image e f area head a b =
    let images = (same_images image e.area f.area e.head f.head e.images f.images None None area head a.images b.images).0 in
    let log : IsLog (image e.area) (images_end e.head) f.events f.end f.used f.bad =
    subst (λ h. IsLog (image e.area) (images_end h) f.events f.end f.used f.bad) (sym head)
    (subst (λ a. IsLog (image a) (images_end f.head) f.events f.end f.used f.bad) (sym area) b.log) in
    let one = one_tail (image e.area) (images_end e.head) 0 a.log.batches log.batches
    (record { events = a.log.last; end = e.end; used = e.used; bad = e.bad }) (record { events = log.last; end = f.end; used = f.used; bad = f.bad }) a.log.are log.are in
    let tail = one.1 in
    let events : e.events ≡ f.events =
    a.log.events_are ∙ (λ i. flat_map (λ batch. batch) (one.0 i) ++ (tail i).events) ∙ sym log.events_are in
    λ i. record {
      area = area i;
      head = head i;
      images = images i;
      events = events i;
      end = (tail i).end;
      used = (tail i).used;
      bad = (tail i).bad;
    }

abbrev IsWrong : Image → Spot → Type 0
IsWrong image s = ReadsAs image (Err s)

-- an epoch is read, or something is wrong
not_both : (image : Image) (e : Epoch) (s : Spot) → ReadsAs image (Ok (Some e)) → IsWrong image s → ⊥
not_both image e s a (inl is) = some_err (e.area, record { head = e.head; bad = None }) s (sym a.0 ∙ is)
not_both image e s a (inr (inl sized)) =
    let same = ap (front_in (record { head = e.head; bad = None })) (sym a.0 ∙ sized.1) in
    some_not_none s.1 (ap (λ (f : Front). f.bad) same)
not_both image e s a (inr (inr cut)) =
    let same : ◌≡◌ {A = Choice} (Ok (Some (e.area, record { head = e.head; bad = None }))) (Ok (Some (s.0, record { head = cut.0; bad = None }))) = sym a.0 ∙ cut.1 in
    let head = ap (λ (c : Choice). (front_in (record { head = e.head; bad = None }) c).head) same in
    some_not_none s.1 (same_images image e.area s.0 e.head cut.0 e.images cut.2.0 None (Some s.1) (ap area_in same) head a.1.images cut.2.1).1

not_wrong : (image : Image) (s : Spot) → chosen image ≡ Ok None → IsWrong image s → ⊥
not_wrong image s a (inl is) = none_err s (sym a ∙ is)
not_wrong image s a (inr (inl sized)) = none_some (s.0, record { head = sized.0; bad = Some s.1 }) (sym a ∙ sized.1)
not_wrong image s a (inr (inr cut)) = none_some (s.0, record { head = cut.0; bad = None }) (sym a ∙ cut.1)

one_spot : (image : Image) (s t : Spot) → IsWrong image s → IsWrong image t → s ≡ t
one_spot image s t (inl a) (inl b) =
    let same : ◌≡◌ {A = Choice} (Err s) (Err t) = sym a ∙ b in
    let area = ap area_in same in
    let place = ap place_in same in
    λ i. (area i, place i)
one_spot image s t (inl a) (inr (inl b)) = absurd (some_err (t.0, record { head = b.0; bad = Some t.1 }) s (sym b.1 ∙ a))
one_spot image s t (inl a) (inr (inr b)) = absurd (some_err (t.0, record { head = b.0; bad = None }) s (sym b.1 ∙ a))
one_spot image s t (inr (inl a)) (inl b) = absurd (some_err (s.0, record { head = a.0; bad = Some s.1 }) t (sym a.1 ∙ b))
one_spot image s t (inr (inl a)) (inr (inl b)) =
    let same : ◌≡◌ {A = Choice} (Ok (Some (s.0, record { head = a.0; bad = Some s.1 }))) (Ok (Some (t.0, record { head = b.0; bad = Some t.1 }))) = sym a.1 ∙ b.1 in
    let area = ap area_in same in
    let place = ap (λ (c : Choice). place_or (front_in (record { head = a.0; bad = None }) c).bad) same in
    λ i. (area i, place i)
one_spot image s t (inr (inl a)) (inr (inr b)) =
    let same : ◌≡◌ {A = Choice} (Ok (Some (t.0, record { head = b.0; bad = None }))) (Ok (Some (s.0, record { head = a.0; bad = Some s.1 }))) = sym b.1 ∙ a.1 in
    absurd (some_not_none s.1 (ap (λ (c : Choice). (front_in (record { head = a.0; bad = None }) c).bad) same))
one_spot image s t (inr (inr a)) (inl b) = absurd (some_err (s.0, record { head = a.0; bad = None }) t (sym a.1 ∙ b))
one_spot image s t (inr (inr a)) (inr (inl b)) =
    let same : ◌≡◌ {A = Choice} (Ok (Some (s.0, record { head = a.0; bad = None }))) (Ok (Some (t.0, record { head = b.0; bad = Some t.1 }))) = sym a.1 ∙ b.1 in
    absurd (some_not_none t.1 (ap (λ (c : Choice). (front_in (record { head = a.0; bad = None }) c).bad) same))
one_spot image s t (inr (inr a)) (inr (inr b)) =
    let same : ◌≡◌ {A = Choice} (Ok (Some (s.0, record { head = a.0; bad = None }))) (Ok (Some (t.0, record { head = b.0; bad = None }))) = sym a.1 ∙ b.1 in
    let area = ap area_in same in
    let head = ap (λ (c : Choice). (front_in (record { head = a.0; bad = None }) c).head) same in
    let bad = (same_images image s.0 t.0 a.0 b.0 a.2.0 b.2.0 (Some s.1) (Some t.1) area head a.2.1 b.2.1).1 in
    let place = ap place_or bad in
    λ i. (area i, place i)

pub one_reading : (image : Image) (a b : Result (Option Epoch) Spot) → ReadsAs image a → ReadsAs image b → a ≡ b
one_reading image (Ok None) (Ok None) x y = refl
one_reading image (Ok None) (Ok (Some f)) x y = absurd (none_some (f.area, record { head = f.head; bad = None }) (sym x ∙ y.0))
one_reading image (Ok None) (Err t) x y = absurd (not_wrong image t x y)
one_reading image (Ok (Some e)) (Ok None) x y = absurd (none_some (e.area, record { head = e.head; bad = None }) (sym y ∙ x.0))
one_reading image (Ok (Some e)) (Ok (Some f)) x y =
    let same : ◌≡◌ {A = Choice} (Ok (Some (e.area, record { head = e.head; bad = None }))) (Ok (Some (f.area, record { head = f.head; bad = None }))) = sym x.0 ∙ y.0 in
    let head = ap (λ (c : Choice). (front_in (record { head = e.head; bad = None }) c).head) same in
    ap (λ (e : Epoch). Ok (Some e)) (same_epoch image e f (ap area_in same) head x.1 y.1)
one_reading image (Ok (Some e)) (Err t) x y = absurd (not_both image e t x y)
one_reading image (Err s) (Ok None) x y = absurd (not_wrong image s y x)
one_reading image (Err s) (Ok (Some f)) x y = absurd (not_both image f s y x)
one_reading image (Err s) (Err t) x y = ap (λ (s : Spot). Err s) (one_spot image s t x y)
