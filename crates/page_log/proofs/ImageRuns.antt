-- Base images that are read one after the other.
use Rattle.std.proofs.Common.{◌≡◌, ℕ, suc, ◌+◌, ◌-◌, ◌<◌, ◌≤◌, List, [], ◌∷◌, ◌++◌, Option, Some, None, length, take, drop, drop-drop, refl, sym, ap, ◌∙◌, subst, arith, append_assoc, append-nil, length-append, length-drop}
use Rattle.std.specs.Int.{w32, from_le_bytes}
use Rattle.std.proofs.lemmas.List.{length-take, take-take, drop-take}
use Rattle.page_bytes.specs.Content.{Content}
use Rattle.page_bytes.specs.Decoding.{Spells}
use Rattle.page_bytes.proofs.Whole.{length-spelling}
use Rattle.page_log.specs.Epoch.{IsImageAt, AreImages, word_at}
use Rattle.page_log.specs.ImageSteps.{TakesImage, LacksImage, Rises}
use Rattle.page_log.specs.Opening.{RisesBelow}
use Rattle.page_log.specs.declared.images.Images.{Images}

-- ---- an image by its own bytes

word_of : (area : List ℕ) (at : ℕ) → word_at (take 8196 (drop at area)) 0 ≡ word_at area at
word_of area at = ap (from_le_bytes w32) (take-take 4 8196 (drop at area) (omega arith))

page_of : (area : List ℕ) (at : ℕ) → take 8192 (drop 4 (take 8196 (drop at area))) ≡ take 8192 (drop (at + 4) area)
page_of area at =
    ap (take 8192) (drop-take 4 8192 (drop at area)) ∙ take-take 8192 8192 (drop 4 (drop at area)) (omega arith) ∙ ap (take 8192) (drop-drop 4 at area)

pub image_there : (area bytes : List ℕ) (blocks least at : ℕ) (image : ℕ × Content) → bytes ≡ take 8196 (drop at area) → IsImageAt bytes blocks least 0 image
    → IsImageAt area blocks least at image
image_there area bytes blocks least at image is stands = record {
  number = stands.number ∙ ap (λ bytes. word_at bytes 0) is ∙ word_of area at;
  from = stands.from;
  below = stands.below;
  page = subst (λ bytes. Spells bytes image.1) (ap (λ bytes. take 8192 (drop 4 bytes)) is ∙ page_of area at) stands.page;
}

pub image_here : (area bytes : List ℕ) (blocks least at : ℕ) (image : ℕ × Content) → bytes ≡ take 8196 (drop at area) → IsImageAt area blocks least at image
    → IsImageAt bytes blocks least 0 image
image_here area bytes blocks least at image is stands = record {
  number = stands.number ∙ sym (ap (λ bytes. word_at bytes 0) is ∙ word_of area at);
  from = stands.from;
  below = stands.below;
  page = subst (λ bytes. Spells bytes image.1) (sym (ap (λ bytes. take 8192 (drop 4 bytes)) is ∙ page_of area at)) stands.page;
}

pub takes_there : (area bytes : List ℕ) (blocks at : ℕ) (old new : Images) → bytes ≡ take 8196 (drop at area) → TakesImage bytes blocks 0 old new → TakesImage area blocks at old new
takes_there area bytes blocks at old new is t = record {
  image = t.image;
  stands = image_there area bytes blocks old.least at t.image is t.stands;
  images = t.images;
  least = t.least;
  end_is = t.end_is;
  bad_is = t.bad_is;
}

pub lacks_there : (area bytes : List ℕ) (blocks at : ℕ) (old new : Images) → bytes ≡ take 8196 (drop at area) → LacksImage bytes blocks 0 old new → LacksImage area blocks at old new
lacks_there area bytes blocks at old new is t = record {
  none = λ image stands. t.none image (image_here area bytes blocks old.least at image is stands);
  images = t.images;
  bad_is = t.bad_is;
}

-- where the area ends before an image would, none stands
pub none_past_end : (area : List ℕ) (blocks least at : ℕ) (image : ℕ × Content) → length area < at + 8196 → ¬ IsImageAt area blocks least at image
none_past_end area blocks least at image short stands =
    absurd (omega (arith, short, length-spelling image.1 stands.page.page.room, ap length stands.page.same, length-take 8192 (drop (at + 4) area), length-drop (at + 4) area))

pub rises_of : (bytes : List ℕ) (blocks at : ℕ) (old new : Images) → TakesImage bytes blocks at old new → Rises blocks old new
rises_of bytes blocks at old new t = record {
  image = t.image;
  from = t.stands.from;
  below = t.stands.below;
  images = t.images;
  least = t.least;
  end_is = t.end_is;
  bad_is = t.bad_is;
}

-- ---- the loop

-- after so many of the images: whatever reads as those left makes all of them
pub record IsTaking (area : List ℕ) (blocks count k : ℕ) (run : Images) : Type 0 where
  pub goes_on : (rest : List (ℕ × Content)) (bad : Option ℕ) → AreImages area blocks (count - k) run.least run.end rest bad
      → AreImages area blocks count 0 40 (run.images.items ++ rest) bad

pub taking_begins : (area : List ℕ) (blocks count : ℕ) (run : Images) → run.images.items ≡ [] → run.end ≡ 40 → run.least ≡ 0 → IsTaking area blocks count 0 run
taking_begins area blocks count run none end least = record {
  goes_on = λ rest bad are.
      subst (λ images. AreImages area blocks count 0 40 (images ++ rest) bad) (sym none)
      (subst (λ n. AreImages area blocks n 0 40 rest bad) (omega arith)
      (subst (λ least. AreImages area blocks (count - 0) least 40 rest bad) least (subst (λ end. AreImages area blocks (count - 0) run.least end rest bad) end are)));
}

one_more : (area : List ℕ) (blocks n m least at : ℕ) (image : ℕ × Content) (rest : List (ℕ × Content)) (bad : Option ℕ) → n ≡ suc m → IsImageAt area blocks least at image
    → AreImages area blocks m (image.0 + 1) (at + 8196) rest bad → AreImages area blocks n least at (image ∷ rest) bad
one_more area blocks n m least at image rest bad is stands are =
    subst (λ n. AreImages area blocks n least at (image ∷ rest) bad) (sym is) (stands, are)

pub taking_on : (area : List ℕ) (blocks count k : ℕ) (old new : Images) → k < count → IsTaking area blocks count k old → TakesImage area blocks old.end old new
    → IsTaking area blocks count (k + 1) new
taking_on area blocks count k old new more so_far t = record {
  goes_on = λ rest bad are.
      subst (λ images. AreImages area blocks count 0 40 images bad) (sym (ap (λ images. images ++ rest) t.images ∙ append_assoc old.images.items (t.image ∷ []) rest))
      (so_far.goes_on (t.image ∷ rest) bad
      (one_more area blocks (count - k) (count - (k + 1)) old.least old.end t.image rest bad (omega arith) t.stands
      (subst (λ least. AreImages area blocks (count - (k + 1)) least (old.end + 8196) rest bad) t.least
      (subst (λ end. AreImages area blocks (count - (k + 1)) new.least end rest bad) t.end_is are))));
}

none_more : (area : List ℕ) (blocks n m least at : ℕ) → n ≡ suc m → ((image : ℕ × Content) → ¬ IsImageAt area blocks least at image)
    → AreImages area blocks n least at [] (Some at)
none_more area blocks n m least at is none = subst (λ n. AreImages area blocks n least at [] (Some at)) (sym is) (refl, none)

pub taking_stops : (area : List ℕ) (blocks count k : ℕ) (old new : Images) → k < count → IsTaking area blocks count k old → LacksImage area blocks old.end old new
    → AreImages area blocks count 0 40 new.images.items new.bad
taking_stops area blocks count k old new more so_far t =
    subst (λ images. AreImages area blocks count 0 40 images new.bad) (append-nil old.images.items ∙ sym t.images)
    (subst (λ bad. AreImages area blocks count 0 40 (old.images.items ++ []) bad) (sym t.bad_is)
    (so_far.goes_on [] (Some old.end) (none_more area blocks (count - k) (count - (k + 1)) old.least old.end (omega arith) t.none)))

none_left : (area : List ℕ) (blocks n least at : ℕ) → n ≡ 0 → AreImages area blocks n least at [] None
none_left area blocks n least at is = subst (λ n. AreImages area blocks n least at [] None) (sym is) tt

pub taking_ends : (area : List ℕ) (blocks count : ℕ) (run : Images) → run.bad ≡ None → IsTaking area blocks count count run
    → AreImages area blocks count 0 40 run.images.items run.bad
taking_ends area blocks count run fine so_far =
    subst (λ images. AreImages area blocks count 0 40 images run.bad) (append-nil run.images.items)
    (subst (λ bad. AreImages area blocks count 0 40 (run.images.items ++ []) bad) (sym fine)
    (so_far.goes_on [] None (none_left area blocks (count - count) run.least run.end (omega arith))))

-- ---- blocks that rise

-- whatever blocks rise behind those that were read, all rise
pub record IsRising (blocks : ℕ) (run : Images) : Type 0 where
  pub goes_on : (rest : List (ℕ × Content)) → RisesBelow run.least blocks rest → RisesBelow 0 blocks (run.images.items ++ rest)

pub rising_begins : (blocks : ℕ) (run : Images) → run.images.items ≡ [] → run.least ≡ 0 → IsRising blocks run
rising_begins blocks run none least = record {
  goes_on = λ rest rises.
      subst (λ images. RisesBelow 0 blocks (images ++ rest)) (sym none) (subst (λ least. RisesBelow least blocks rest) least rises);
}

pub rising_on : (blocks : ℕ) (old new : Images) → IsRising blocks old → Rises blocks old new → IsRising blocks new
rising_on blocks old new so_far r = record {
  goes_on = λ rest rises.
      subst (λ images. RisesBelow 0 blocks images) (sym (ap (λ images. images ++ rest) r.images ∙ append_assoc old.images.items (r.image ∷ []) rest))
      (so_far.goes_on (r.image ∷ rest) (r.from, r.below, subst (λ least. RisesBelow least blocks rest) r.least rises));
}

pub rising_ends : (blocks : ℕ) (run : Images) (images : List (ℕ × Content)) → images ≡ run.images.items → IsRising blocks run → RisesBelow 0 blocks images
rising_ends blocks run images same so_far =
    subst (λ images. RisesBelow 0 blocks images) (append-nil run.images.items ∙ sym same) (so_far.goes_on [] tt)

pub one_longer : (old new : Images) (blocks k : ℕ) → length old.images.items ≡ k → Rises blocks old new → length new.images.items ≡ k + 1
one_longer old new blocks k is r = omega (arith, is, ap length r.images, length-append old.images.items (r.image ∷ []))

-- ---- the bytes of an image

behind_block : (bytes : List ℕ) → length bytes ≡ 8196 → take (length bytes - 4) (drop 4 bytes) ≡ take 8192 (drop 4 bytes)
behind_block bytes size =
    let n : length bytes - 4 ≡ 8192 = omega (arith, size) in
    ap (λ n. take n (drop 4 bytes)) n

pub image_is : (bytes : List ℕ) (blocks least block : ℕ) (page : Content) → length bytes ≡ 8196 → block ≡ word_at bytes 0 → least ≤ block → block < blocks
    → Spells (take (length bytes - 4) (drop 4 bytes)) page → IsImageAt bytes blocks least 0 (block, page)
image_is bytes blocks least block page size is from below spells = record {
  number = is;
  from = from;
  below = below;
  page = subst (λ bytes. Spells bytes page) (behind_block bytes size) spells;
}

pub its_page : (bytes : List ℕ) (blocks least : ℕ) (image : ℕ × Content) → length bytes ≡ 8196 → IsImageAt bytes blocks least 0 image
    → Spells (take (length bytes - 4) (drop 4 bytes)) image.1
its_page bytes blocks least image size stands = subst (λ bytes. Spells bytes image.1) (sym (behind_block bytes size)) stands.page
