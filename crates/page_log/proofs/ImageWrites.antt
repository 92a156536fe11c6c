-- Images that are written one after the other.
use Rattle.std.proofs.Common.{◌≡◌, ℕ, zero, suc, ◌+◌, ◌*◌, ◌<◌, ◌≤◌, List, [], ◌∷◌, ◌++◌, Option, Some, All, length, drop, slice_get, refl, sym, ap, ◌∙◌, subst, arith, append_assoc, append-nil, length-append}
use Rattle.std.specs.Int.{w32, to_le_bytes}
use Rattle.std.proofs.lemmas.List.{drop_all}
use Rattle.page_bytes.specs.Content.{Content, IsPage}
use Rattle.page_bytes.specs.Spelling.{spelling}
use Rattle.page_bytes.proofs.Whole.{length-spelling}
use Rattle.vec_outside.specs.Disk.{Disk, Image, IsImage}
use Rattle.vec_outside.specs.declared.disks.Area.{Area}
use Rattle.page_log.specs.Aside.{IsShut, Keeps}
use Rattle.page_log.specs.NewEpochs.{ArePages, images_of, spelled_images, with_page}
use Rattle.page_log.specs.Writing.{BeginsWith}
use Rattle.page_log.proofs.Fronts.{read_none}
use Rattle.page_log.proofs.Keeping.{keeps_read, keeps_both}

spelled_more : (images : List (ℕ × Content)) (image : ℕ × Content) → spelled_images (images ++ image ∷ []) ≡ spelled_images images ++ (to_le_bytes w32 image.0 ++ spelling image.1)
spelled_more [] image = ap (λ (l : List ℕ). to_le_bytes w32 image.0 ++ l) (append-nil (spelling image.1))
spelled_more (x ∷ images) image =
    let four = to_le_bytes w32 x.0 in
    let more = to_le_bytes w32 image.0 ++ spelling image.1 in
    ap (λ (l : List ℕ). four ++ (spelling x.1 ++ l)) (spelled_more images image)
    ∙ ap (λ (l : List ℕ). four ++ l) (sym (append_assoc (spelling x.1) (spelled_images images) more))
    ∙ sym (append_assoc four (spelling x.1 ++ spelled_images images) more)

pages_more : (images : List (ℕ × Content)) (image : ℕ × Content) → ArePages images → IsPage image.1 → ArePages (images ++ image ∷ [])
pages_more [] image are is = (is, tt)
pages_more (x ∷ images) image are is = (are.0, pages_more images image are.1 is)

-- after so many of the pairs, from a place of the area on
pub record IsWriting (told : Type 0) (area : Area) (pages : List Content) (which : List (ℕ × ℕ)) (k at : ℕ) (old now : Disk) : Type 0 where
  pub done : List (ℕ × Content)
  pub place : at ≡ 40 + 8196 * k
  pub size : length (spelled_images done) ≡ 8196 * k
  pub are : ArePages done
  pub all : done ++ images_of pages (drop k which) ≡ images_of pages which
  pub kept : Keeps IsShut area old now
  pub reach : told → at ≤ length (now.seen area)
  pub begins : told → (front : List ℕ) → length front ≡ 40 → BeginsWith front (old.seen area) → BeginsWith (front ++ spelled_images done) (now.seen area)

pub writing_begins : (told : Type 0) (area : Area) (pages : List Content) (which : List (ℕ × ℕ)) (disk : Disk)
    → ((image : Image) → disk.left_since disk.moment image → IsImage disk image) → (told → 40 ≤ length (disk.seen area)) → IsWriting told area pages which 0 40 disk disk
writing_begins told area pages which disk only_now long = record {
  done = [];
  place = omega arith;
  size = omega arith;
  are = tt;
  all = refl;
  kept = keeps_read IsShut area disk disk (read_none disk only_now);
  reach = long;
  begins = λ t front size is. subst (λ (l : List ℕ). BeginsWith l (disk.seen area)) (sym (append-nil front)) is;
}

pub writing_on : (told : Type 0) (area : Area) (pages : List Content) (which : List (ℕ × ℕ)) (k at next : ℕ) (pair : ℕ × ℕ) (page : Content) (old mid new : Disk)
    → IsWriting told area pages which k at old mid → drop k which ≡ pair ∷ drop (k + 1) which → slice_get pages pair.1 ≡ Some page → next ≡ at + 8196 → IsPage page
    → Keeps IsShut area mid new → (told → at + 8196 ≤ length (new.seen area))
    → (told → (front : List ℕ) → length front ≡ at → BeginsWith front (mid.seen area) → BeginsWith (front ++ (to_le_bytes w32 pair.0 ++ spelling page)) (new.seen area))
    → IsWriting told area pages which (k + 1) next old new
writing_on told area pages which k at next pair page old mid new so_far left is next_is good kept reach begins =
    let image : ℕ × Content = (pair.0, page) in
    let done = so_far.done ++ image ∷ [] in
    let rest = images_of pages (drop (k + 1) which) in
    let one : images_of pages (drop k which) ≡ image ∷ rest =
    ap (λ (l : List (ℕ × ℕ)). images_of pages l) left ∙ ap (λ (p : Option Content). with_page pair.0 p rest) is in
    let bytes = to_le_bytes w32 pair.0 ++ spelling page in
    let long : length bytes ≡ 8196 = omega (arith, length-append (to_le_bytes w32 pair.0) (spelling page), length-spelling page good.room) in record {
      done = done;
      place = omega (arith, so_far.place, next_is);
      size = omega (arith, ap length (spelled_more so_far.done image), length-append (spelled_images so_far.done) bytes, long, so_far.size);
      are = pages_more so_far.done image so_far.are good;
      all = append_assoc so_far.done (image ∷ []) rest ∙ ap (λ (l : List (ℕ × Content)). so_far.done ++ l) (sym one) ∙ so_far.all;
      kept = keeps_both IsShut area old mid new so_far.kept kept;
      reach = λ t. omega (arith, next_is, reach t);
      begins = λ t front size is.
          let here = begins t (front ++ spelled_images so_far.done) (omega (arith, length-append front (spelled_images so_far.done), size, so_far.size, so_far.place)) (so_far.begins t front size is) in
          let same : (front ++ spelled_images so_far.done) ++ bytes ≡ front ++ spelled_images done =
          append_assoc front (spelled_images so_far.done) bytes ∙ ap (λ (l : List ℕ). front ++ l) (sym (spelled_more so_far.done image)) in
          subst (λ (l : List ℕ). BeginsWith l (new.seen area)) same here;
    }

-- all of them
pub writing_ends : (told : Type 0) (area : Area) (pages : List Content) (which : List (ℕ × ℕ)) (k at : ℕ) (old now : Disk) (w : IsWriting told area pages which k at old now)
    → length which ≤ k → w.done ≡ images_of pages which
writing_ends told area pages which k at old now w long =
    sym (append-nil w.done) ∙ ap (λ (l : List (ℕ × ℕ)). w.done ++ images_of pages l) (sym (drop_all k which long)) ∙ w.all

-- ---- as many images as pairs

slice_get_some : (xs : List Content) (i : ℕ) → i < length xs → (x : Content) × (slice_get xs i ≡ Some x)
slice_get_some [] i less = absurd (omega (arith, less))
slice_get_some (x ∷ xs) zero less = (x, refl)
slice_get_some (x ∷ xs) (suc i) less = slice_get_some xs i (omega (arith, less))

pub images_length : (pages : List Content) (pairs : List (ℕ × ℕ)) → All (λ pair. pair.1 < length pages) pairs → length (images_of pages pairs) ≡ length pairs
images_length pages [] places = refl
images_length pages (pair ∷ pairs) places =
    let page = slice_get_some pages pair.1 (places 0 (0, 0) (omega arith)) in
    let rest = images_length pages pairs (λ i d less. places (suc i) d (omega (arith, less))) in
    omega (arith, ap (λ (p : Option Content). length (with_page pair.0 p (images_of pages pairs))) page.1, rest)
