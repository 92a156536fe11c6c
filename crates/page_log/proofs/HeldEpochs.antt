-- What is read of an epoch that is held.
use Rattle.std.proofs.Common.{◌≡◌, ℕ, zero, suc, ◌+◌, ◌-◌, ◌*◌, ◌≤◌, List, [], ◌∷◌, ◌++◌, Some, None, Ok, length, take, drop, refl, sym, ◌∙◌, ap, subst, arith, append_assoc, length-append, length-drop, drop-drop}
use Rattle.std.specs.Int.{w32, to_le_bytes, from_le_bytes}
use Rattle.std.proofs.lemmas.List.{drop-take, take-take, take_at, drop_at, length-take}
use Rattle.std.proofs.lemmas.Nat.{from_le_bytes-to_le_bytes_4}
use Rattle.page_bytes.specs.Content.{Content}
use Rattle.page_bytes.specs.Decoding.{Spells}
use Rattle.page_bytes.specs.Spelling.{spelling}
use Rattle.page_bytes.proofs.Whole.{length-spelling}
use Rattle.vec_outside.specs.Disk.{Image}
use Rattle.page_log.specs.Batches.{IsLog}
use Rattle.page_log.specs.BothLogs.{Held, Reads, HasImages, IsEpochOf}
use Rattle.page_log.specs.Epoch.{IsImageAt, AreImages, head_in, word_at}
use Rattle.page_log.specs.NewEpochs.{NewEpoch, IsNewEpoch, ArePages, base_of, spelled_images, title_of}
use Rattle.page_log.specs.Opening.{Epoch, ReadsAs, RisesBelow, area_of}
use Rattle.page_log.proofs.NewBases.{blocks_are, images_are, title_length}

-- ---- images of a base

within : (base : List ℕ) (blocks least at : ℕ) (image : ℕ × Content) → IsImageAt base blocks least at image → at + 8196 ≤ length base
within base blocks least at image is =
    omega (arith, length-spelling image.1 is.page.page.room, ap length is.page.same, length-take 8192 (drop (at + 4) base), length-drop (at + 4) base)

-- so many bytes of the front of an area
front_part : (n k whole : ℕ) (area : List ℕ) → n + k ≤ whole → take k (drop n (take whole area)) ≡ take k (drop n area)
front_part n k whole area reach =
    let parts : whole ≡ n + (whole - n) = omega (arith, reach) in
    ap (λ (m : ℕ). take k (drop n (take m area))) parts ∙ ap (take k) (drop-take n (whole - n) area) ∙ take-take k (whole - n) (drop n area) (omega (arith, reach))

image_in_area : (base area : List ℕ) (blocks least at : ℕ) (image : ℕ × Content) → take (length base) area ≡ base → IsImageAt base blocks least at image
    → IsImageAt area blocks least at image
image_in_area base area blocks least at image is stands =
    let long = within base blocks least at image stands in
    let part : (n k : ℕ) → n + k ≤ length base → take k (drop n base) ≡ take k (drop n area) =
    λ n k reach. ap (λ (l : List ℕ). take k (drop n l)) (sym is) ∙ front_part n k (length base) area reach in record {
      number = stands.number ∙ ap (λ (l : List ℕ). from_le_bytes w32 l) (part at 4 (omega (arith, long)));
      from = stands.from;
      below = stands.below;
      page = subst (λ (l : List ℕ). Spells l image.1) (part (at + 4) 8192 (omega (arith, long))) stands.page;
    }

images_in_area : (base area : List ℕ) (blocks count least at : ℕ) (images : List (ℕ × Content)) → take (length base) area ≡ base
    → AreImages base blocks count least at images None → AreImages area blocks count least at images None
images_in_area base area blocks zero least at [] is are = tt
images_in_area base area blocks zero least at (image ∷ images) is are = absurd are
images_in_area base area blocks (suc count) least at [] is are = absurd are
images_in_area base area blocks (suc count) least at (image ∷ images) is are =
    (image_in_area base area blocks least at image is are.0, images_in_area base area blocks count (image.0 + 1) (at + 8196) images is are.1)

-- ---- an epoch that is held

pub held_epoch : (h : Held) (image : Image) (images : List (ℕ × Content)) → HasImages h.base images → Reads h image
    → (epoch : Epoch) × ReadsAs image (Ok (Some epoch)) × IsEpochOf h images epoch
held_epoch h image images has reads =
    let holds = reads.holds.2 in
    let head = head_in h.base in
    let area = image (area_of h.epoch) in
    let epoch : Epoch = record { area = area_of h.epoch; head = head; images = images; events = holds.placed; end = holds.end; used = holds.used; bad = None } in (
      epoch,
      (
        reads.counts,
        record {
          images = images_in_area h.base area head.blocks head.images 0 40 images holds.base_is has.are;
          log = subst (λ (n : ℕ). IsLog area n holds.placed holds.end holds.used None) has.end_is holds.log;
        },
      ),
      record {
        area = refl;
        head = refl;
        images_are = refl;
        count = reads.holds.0;
        within = reads.holds.1;
        events = holds.events_are;
        fine = refl;
      },
    )

-- ---- a new one

images_stand : (front : List ℕ) (blocks least at : ℕ) (images : List (ℕ × Content)) → at ≡ length front → blocks ≤ 32768 → RisesBelow least blocks images
    → ArePages images → AreImages (front ++ spelled_images images) blocks (length images) least at images None
images_stand front blocks least at [] is few rises pages = tt
images_stand front blocks least at (image ∷ images) is few rises pages =
    let four = to_le_bytes w32 image.0 in
    let page = spelling image.1 in
    let rest = spelled_images images in
    let area = front ++ (four ++ (page ++ rest)) in
    let size : length page ≡ 8192 = length-spelling image.1 pages.0.room in
    let here : drop at area ≡ four ++ (page ++ rest) = drop_at front (four ++ (page ++ rest)) at (sym is) in
    let behind : drop (at + 4) area ≡ page ++ rest = sym (drop-drop 4 at area) ∙ ap (drop 4) here in
    let stands : IsImageAt area blocks least at image = record {
      number = sym (ap (λ (l : List ℕ). from_le_bytes w32 (take 4 l)) here ∙ from_le_bytes-to_le_bytes_4 image.0 (omega (arith, rises.1, few)));
      from = rises.0;
      below = rises.1;
      page = record { page = pages.0; same = ap (take 8192) behind ∙ take_at page rest 8192 size };
    } in
    let more = front ++ (four ++ page) in
    let same : more ++ rest ≡ area = append_assoc front (four ++ page) rest ∙ ap (λ (l : List ℕ). front ++ l) (append_assoc four page rest) in (
      stands,
      subst (λ (l : List ℕ). AreImages l blocks (length images) (image.0 + 1) (at + 8196) images None) same
          (images_stand more blocks (image.0 + 1) (at + 8196) images (omega (arith, is, length-append front (four ++ page), length-append four page, size)) few rises.2 pages.1),
    )

spelled_length : (images : List (ℕ × Content)) → ArePages images → length (spelled_images images) ≡ 8196 * length images
spelled_length [] pages = omega arith
spelled_length (image ∷ images) pages =
    omega (arith, spelled_length images pages.1, length-append (spelling image.1) (spelled_images images), length-spelling image.1 pages.0.room)

pub new_images : (new : NewEpoch) → IsNewEpoch new → HasImages (base_of new 165) new.images
new_images new good =
    let base = base_of new 165 in
    let front = title_of new ++ 165 ∷ [] in
    let same : front ++ spelled_images new.images ≡ base = append_assoc (title_of new) (165 ∷ []) (spelled_images new.images) in
    let size : length front ≡ 40 = omega (arith, length-append (title_of new) (165 ∷ []), title_length new) in
    let are : AreImages base new.blocks (length new.images) 0 40 new.images None =
    subst (λ (l : List ℕ). AreImages l new.blocks (length new.images) 0 40 new.images None) same
    (images_stand front new.blocks 0 40 new.images (sym size) good.few good.rising good.pages) in record {
      are = subst (λ (n : ℕ). AreImages base (word_at base 24) n 0 40 new.images None) (sym (images_are new good))
          (subst (λ (n : ℕ). AreImages base n (length new.images) 0 40 new.images None) (sym (blocks_are new good)) are);
      end_is = omega (arith, ap length (sym same), length-append front (spelled_images new.images), size, spelled_length new.images good.pages, images_are new good);
    }
