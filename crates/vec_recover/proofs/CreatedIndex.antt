-- An image that reads as a new index recovers to its pages.
use Rattle.std.proofs.Common.{◌≡◌, ◌⊎◌, ◌≤◌, ◌<◌, ◌+◌, ◌==◌, nat_lt, ℕ, zero, suc, Bool, true, false, if◌then◌else◌, List, [], ◌∷◌, length, map, take, slice_get, Option, Some, None, inl, inr, refl, sym, ap, subst, ◌∙◌, arith}
use Rattle.std.specs.Prelude.{All, Ok}
use Rattle.std.proofs.lemmas.Bool.{eq-eqb, eqb-true, ltb-true, ltb-false}
use Rattle.std.proofs.lemmas.Option.{get_or_from_slice_get, slice_get_within}
use Rattle.index_sizes.specs.declared.limits.TheConstants.{MOST_BLOCKS}
use Rattle.vec_names.specs.declared.params.Params.{Params}
use Rattle.vec_outside.specs.Disk.{Image}
use Rattle.vec_outside.specs.declared.disks.Area.TheVariants.{Pages}
use Rattle.page_bytes.specs.Content.{Content, IsPage}
use Rattle.page_log.specs.Batches.{Placed}
use Rattle.page_log.specs.BothLogs.{IsEpochOf, Reads, begun}
use Rattle.page_log.specs.NewEpochs.{ArePages, IsNewEpoch, images_of}
use Rattle.page_log.specs.Opening.{Epoch, ReadsAs}
use Rattle.page_log.proofs.HeldEpochs.{held_epoch, new_images}
use Rattle.page_log.proofs.NewBases.{blocks_are}
use Rattle.vec_recover.specs.Creating.{IsNoneOrNew, each_block, first_epoch}
use Rattle.vec_recover.specs.Recovering.{AreFirst, AreOf, AreRedoneAll, IsFirstOf, IsRecovered, RecoversTo, Recovery, first_number, image_of, wrap_of}
use Rattle.vec_recover.proofs.PagesBefore.{within}
use Rattle.vec_recover.proofs.Created.{image_next, rising_all}

-- ---- the images of all blocks

image_below : (images : List (ℕ × Content)) (block : ℕ) (image : ℕ × Content) → (image.0 ≡ block → ⊥) → image_of (image ∷ images) block ≡ image_of images block
image_below images block image differs = by (image.0 == block) refl where
  by : (b : Bool) → (image.0 == block) ≡ b → image_of (image ∷ images) block ≡ image_of images block
  by true e = absurd (differs (eqb-true _ _ e))
  by false e = ap (λ (b : Bool). if b then Some image.1 else image_of images block) e

image_at : (images : List (ℕ × Content)) (block : ℕ) (image : ℕ × Content) → image.0 ≡ block → image_of (image ∷ images) block ≡ Some image.1
image_at images block image same = ap (λ (b : Bool). if b then Some image.1 else image_of images block) (eq-eqb _ _ same)

low_or_same : (a b : ℕ) → a ≤ b → (a ≡ b) ⊎ (suc a ≤ b)
low_or_same a b low = by (nat_lt a b) refl where
  by : (t : Bool) → nat_lt a b ≡ t → (a ≡ b) ⊎ (suc a ≤ b)
  by true e =
      let below : a < b = ltb-true _ _ e in
      inr (omega (arith, below))
  by false e =
      let past : b ≤ a = ltb-false _ _ e in
      inl (omega (arith, low, past))

image_from : (pages : List Content) (k start block : ℕ) (page : Content) → start + k ≡ length pages → start ≤ block → slice_get pages block ≡ Some page
    → image_of (images_of pages (each_block k start)) block ≡ Some page
image_from pages zero start block page long low there =
    absurd (omega (arith, slice_get_within pages block page there, long, low))
image_from pages (suc k) start block page long low there =
    let first = within pages start (omega (arith, long)) in
    let next = image_next pages k start first.0 first.1 in
    ap (λ (l : List (ℕ × Content)). image_of l block) next ∙ elim (low_or_same start block low) as (λ _. image_of ((start, first.0) ∷ images_of pages (each_block k (suc start))) block ≡ Some page) [
      | inl same ↦
          image_at (images_of pages (each_block k (suc start))) block (start, first.0) same
          ∙ (sym first.1 ∙ ap (λ (n : ℕ). slice_get pages n) same ∙ there)
      | inr above ↦
          image_below (images_of pages (each_block k (suc start))) block (start, first.0) (λ same. absurd (omega (arith, same, above)))
          ∙ image_from pages k (suc start) block page (omega (arith, long)) above there
    ]

pages_from : (pages : List Content) (k start : ℕ) → All IsPage pages → start + k ≡ length pages → ArePages (images_of pages (each_block k start))
pages_from pages zero start all long = tt
pages_from pages (suc k) start all long =
    let first = within pages start (omega (arith, long)) in
    let inside = slice_get_within pages start first.0 first.1 in
    let page : IsPage first.0 = subst IsPage (get_or_from_slice_get pages start first.0 first.0 first.1) (all start first.0 inside) in
    subst ArePages (sym (image_next pages k start first.0 first.1)) (page, pages_from pages k (suc start) all (omega (arith, long)))

pub is_new_epoch : (pages : List Content) → 1 ≤ length pages → length pages ≤ MOST_BLOCKS → All IsPage pages → IsNewEpoch (first_epoch pages)
is_new_epoch pages some few all = record {
  some = omega arith;
  fits = omega arith;
  before = omega arith;
  block = some;
  few = few;
  rising = rising_all pages (each_block (length pages) 0) refl;
  pages = pages_from pages (length pages) 0 all (omega arith);
}

-- ---- what is recovered

none_of : (events : List Placed) → map (λ (placed : Placed). placed.1) events ≡ [] → events ≡ []
none_of [] is = refl
none_of (placed ∷ events) is = absurd cc

take_none : {A : Type 0} (n : ℕ) (xs : List A) → xs ≡ [] → take n xs ≡ []
take_none zero [] is = refl
take_none (suc n) [] is = refl
take_none n (x ∷ xs) is = absurd cc

module _ (pages : List Content) (p : Params) (image : Image) (good : IsNewEpoch (first_epoch pages)) (of : AreOf 2 p pages) (reads : Reads (begun (first_epoch pages)) image) where
  by_epoch : (epoch : Epoch) → ReadsAs image (Ok (Some epoch)) → IsEpochOf (begun (first_epoch pages)) (images_of pages (each_block (length pages) 0)) epoch
      → IsRecovered image (record { epoch = epoch; params = p; pages = pages })
  by_epoch epoch reads_as is = record {
    first = pages;
    begins = record { reads = reads_as; are_first = are_first; are_of = subst (λ (n : ℕ). AreOf n p pages) (sym form) of };
    whole = is.fine;
    redone = subst (λ (events : List Placed). AreRedoneAll p (wrap_of epoch.head.form) (first_number epoch) events pages pages) (sym no_events) refl;
  } where
    form : epoch.head.form ≡ 2
    form = ap (λ h. h.form) is.head

    no_events : epoch.events ≡ []
    no_events = none_of epoch.events (is.events ∙ take_none is.count [] refl)

    are_first : AreFirst epoch.images (image Pages) epoch.head.blocks pages
    are_first = record {
      count = sym (ap (λ h. h.blocks) is.head ∙ blocks_are (first_epoch pages) good);
      each = λ block page there.
          let here = ap (λ (l : List (ℕ × Content)). image_of l block) is.images_are ∙ image_from pages (length pages) 0 block page (omega arith) (omega arith) there in
          subst (λ (o : Option Content). IsFirstOf o (image Pages) block page) (sym here) refl;
    }

  pub new_recovers : (r : Recovery) × IsRecovered image r × (r.pages ≡ pages) × (r.params ≡ p)
  new_recovers =
      let held = held_epoch (begun (first_epoch pages)) image (images_of pages (each_block (length pages) 0)) (new_images (first_epoch pages) good) reads in
      (record { epoch = held.0; params = p; pages = pages }, by_epoch held.0 held.1 held.2, refl, refl)

pub none_or : (pages : List Content) (p : Params) (image : Image) → IsNewEpoch (first_epoch pages) → AreOf 2 p pages → IsNoneOrNew pages image
    → RecoversTo image (Ok None) ⊎ ((r : Recovery) × IsRecovered image r × (r.pages ≡ pages) × (r.params ≡ p))
none_or pages p image good of (inl none) = inl none
none_or pages p image good of (inr reads) = inr (new_recovers pages p image good of reads)
