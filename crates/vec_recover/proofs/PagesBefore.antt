-- The pages of an epoch before its events, one block after the other.
use Rattle.std.proofs.Common.{◌≡◌, ◌⊎◌, ◌≤◌, ◌<◌, ◌+◌, ℕ, zero, suc, ◌==◌, nat_lt, Bool, true, false, if◌then◌else◌, List, [], ◌∷◌, ◌++◌, length, slice_get, Option, Some, None, refl, sym, ap, subst, ◌∙◌, inl, inr, arith}
use Rattle.std.proofs.lemmas.Bool.{eq-eqb, eqb-true, ltb-true, ltb-false}
use Rattle.std.proofs.lemmas.List.{length_push}
use Rattle.std.proofs.lemmas.Option.{none-some, slice_get_within, slice_get_past}
use Rattle.page_bytes.specs.Content.{Content}
use Rattle.page_bytes.specs.Decoding.{Spells}
use Rattle.page_file.specs.Area.{block_of}
use Rattle.page_log.specs.Opening.{RisesBelow}
use Rattle.vec_recover.specs.Recovering.{AreFirst, IsFirst, IsFirstOf, IsMissing, image_of}
use Rattle.page_log.specs.declared.opening_fault.OpenFault.{OpenFault}
use Rattle.page_log.specs.declared.opening_fault.OpenFault.TheVariants as faults
use Rattle.vec_recover.specs.Parts.{IsFilled, IsGap, IsOfBlock}

-- ---- a list with one more

pub pushed_at : {A : Type 0} (xs : List A) (y : A) (n : ℕ) (z : A) → slice_get (xs ++ y ∷ []) n ≡ Some z
    → (slice_get xs n ≡ Some z) ⊎ ((n ≡ length xs) × (y ≡ z))
pushed_at [] y zero z h = inr (refl, cc)
pushed_at [] y (suc n) z h = absurd (none-some _ h)
pushed_at (x ∷ xs) y zero z h = inl h
pushed_at (x ∷ xs) y (suc n) z h = elim (pushed_at xs y n z h) as (λ _. (slice_get (x ∷ xs) (suc n) ≡ Some z) ⊎ ((suc n ≡ length (x ∷ xs)) × (y ≡ z))) [
  | inl here ↦ inl here
  | inr last ↦ inr (ap suc last.0, last.1)
]

pub pushed_front : {A : Type 0} (xs ys : List A) (n : ℕ) → n < length xs → slice_get (xs ++ ys) n ≡ slice_get xs n
pushed_front [] ys n low = absurd (omega (arith, low))
pushed_front (x ∷ xs) ys zero low = refl
pushed_front (x ∷ xs) ys (suc n) low = pushed_front xs ys n (omega (arith, low))

pub within : {A : Type 0} (xs : List A) (n : ℕ) → n < length xs → (x : A) × (slice_get xs n ≡ Some x)
within [] n low = absurd (omega (arith, low))
within (x ∷ xs) zero low = (x, refl)
within (x ∷ xs) (suc n) low = within xs n (omega (arith, low))

-- ---- pages of the page area

pub filled_none : (area : List ℕ) (pages : List Content) → IsFilled area (length pages) pages pages
filled_none area pages = record {
  count = refl;
  front = λ block low. refl;
  each = λ block page low there. absurd (none-some _ (sym (slice_get_past pages block low) ∙ there));
}

pub filled_more : (area : List ℕ) (upto : ℕ) (old mid : List Content) (page : Content) → length old ≤ upto → IsFilled area upto old mid
    → Spells (block_of area upto) page → IsFilled area (upto + 1) old (mid ++ page ∷ [])
filled_more area upto old mid page from f spells = record {
  count = omega (arith, length_push mid page, f.count);
  front = λ block low. pushed_front mid (page ∷ []) block (omega (arith, low, from, f.count)) ∙ f.front block low;
  each = λ block other low there. elim (pushed_at mid page block other there) as (λ _. Spells (block_of area block) other) [
    | inl before ↦ f.each block other low before
    | inr last ↦ subst (λ (b : ℕ). Spells (block_of area b) other) (sym (last.0 ∙ f.count)) (subst (Spells (block_of area upto)) last.1 spells)
  ];
}

pub gap_later : (area : List ℕ) (from upto block b : ℕ) (old mid : List Content) → length old ≡ from → from ≤ block → block < upto → IsFilled area block old mid
    → IsGap area block (block + 1) b → IsGap area from upto b
gap_later area from upto block b old mid is low high f gap = record {
  low = omega (arith, low, gap.low);
  high = omega (arith, high, gap.low, gap.high);
  none = gap.none;
  before = λ lower least below.
      let here : lower < length mid = omega (arith, below, gap.high, f.count) in
      let page = within mid lower here in
      (page.0, f.each lower page.0 (omega (arith, is, least)) page.1);
}

-- ---- images

image_here : (images : List (ℕ × Content)) (block : ℕ) (image : ℕ × Content) → image.0 ≡ block → image_of (image ∷ images) block ≡ Some image.1
image_here images block image same = ap (λ (b : Bool). if b then Some image.1 else image_of images block) (eq-eqb _ _ same)

apart : (a b : ℕ) → (a ≡ b → ⊥) → (a == b) ≡ false
apart a b differs = by (a == b) refl where
  by : (t : Bool) → (a == b) ≡ t → (a == b) ≡ false
  by true e = absurd (differs (eqb-true _ _ e))
  by false e = e

image_other : (images : List (ℕ × Content)) (block : ℕ) (image : ℕ × Content) → (image.0 ≡ block → ⊥) → image_of (image ∷ images) block ≡ image_of images block
image_other images block image differs = ap (λ (b : Bool). if b then Some image.1 else image_of images block) (apart image.0 block differs)

-- no image is of a block below the first
no_image : (least blocks block : ℕ) (images : List (ℕ × Content)) → RisesBelow least blocks images → block < least → image_of images block ≡ None
no_image least blocks block [] rises below = refl
no_image least blocks block (image ∷ images) rises below =
    image_other images block image (λ same. absurd (omega (arith, same, rises.0, below)))
    ∙ no_image (image.0 + 1) blocks block images rises.2 (omega (arith, rises.0, below))

-- The blocks so far have their pages, and these images are left.
pub record AreSoFar (images left : List (ℕ × Content)) (area : List ℕ) (pages : List Content) : Type 0 where
  pub same : (block : ℕ) → length pages ≤ block → image_of images block ≡ image_of left block
  pub each : (block : ℕ) (page : Content) → slice_get pages block ≡ Some page → IsFirst images area block page

pub none_so_far : (images : List (ℕ × Content)) (area : List ℕ) → AreSoFar images images area []
none_so_far images area = record { same = λ block low. refl; each = λ block page there. absurd (none-some _ there) }

first_by : (images : List (ℕ × Content)) (area : List ℕ) (block : ℕ) (page : Content) (o : Option Content) → image_of images block ≡ o → IsFirstOf o area block page
    → IsFirst images area block page
first_by images area block page o is first = subst (λ (x : Option Content). IsFirstOf x area block page) (sym is) first

module _ (images : List (ℕ × Content)) (area : List ℕ) (old mid : List Content) where
  -- the pages up to the next image are read, of which there is none below
  filled_each : (left : List (ℕ × Content)) (upto : ℕ) → AreSoFar images left area old → IsFilled area upto old mid
      → ((block : ℕ) → length old ≤ block → block < upto → image_of left block ≡ None)
      → (block : ℕ) (page : Content) → slice_get mid block ≡ Some page → IsFirst images area block page
  filled_each left upto s f none block page there = by (nat_lt block (length old)) refl where
    by : (t : Bool) → nat_lt block (length old) ≡ t → IsFirst images area block page
    by true e = s.each block page (sym (f.front block (ltb-true _ _ e)) ∙ there)
    by false e =
        let low : length old ≤ block = ltb-false _ _ e in
        let below : block < upto = omega (arith, slice_get_within mid block page there, f.count) in
        first_by images area block page None (s.same block low ∙ none block low below) (f.each block page low there)

  pub one_more : (blocks : ℕ) (image : ℕ × Content) (left : List (ℕ × Content)) → AreSoFar images (image ∷ left) area old
      → RisesBelow (length old) blocks (image ∷ left) → IsFilled area image.0 old mid → AreSoFar images left area (mid ++ image.1 ∷ [])
  one_more blocks image left s rises f = record {
    same = λ block low.
        let past : image.0 < block = omega (arith, low, length_push mid image.1, f.count) in
        s.same block (omega (arith, past, rises.0)) ∙ image_other left block image (λ same. absurd (omega (arith, same, past)));
    each = λ block page there. elim (pushed_at mid image.1 block page there) as (λ _. IsFirst images area block page) [
      | inl before ↦ filled_each (image ∷ left) image.0 s f below_none block page before
      | inr last ↦
          let at : image.0 ≡ block = omega (arith, last.0, f.count) in
          first_by images area block page (Some image.1)
          (s.same block (omega (arith, at, rises.0)) ∙ image_here left block image at) (sym last.1)
    ];
  } where
    below_none : (block : ℕ) → length old ≤ block → block < image.0 → image_of (image ∷ left) block ≡ None
    below_none block low below =
        image_other left block image (λ same. absurd (omega (arith, same, below)))
        ∙ no_image (image.0 + 1) blocks block left rises.2 (omega (arith, below))

  pub all_there : (blocks : ℕ) → AreSoFar images [] area old → IsFilled area blocks old mid → AreFirst images area blocks mid
  all_there blocks s f = record {
    count = f.count;
    each = filled_each [] blocks s f (λ block low below. refl);
  }

-- a gap before the next image, or behind the last
pub missing_at : (images : List (ℕ × Content)) (area : List ℕ) (blocks upto block : ℕ) (left : List (ℕ × Content)) (old : List Content)
    → AreSoFar images left area old → upto ≤ blocks → RisesBelow upto blocks left → IsGap area (length old) upto block → IsMissing images area blocks block
missing_at images area blocks upto block left old s few rises gap = record {
  there = omega (arith, gap.high, few);
  no_image = s.same block gap.low ∙ no_image upto blocks block left rises gap.high;
  none = gap.none;
  before = λ lower below. by lower below (nat_lt lower (length old)) refl;
} where
  by : (lower : ℕ) → lower < block → (t : Bool) → nat_lt lower (length old) ≡ t → (page : Content) × IsFirst images area lower page
  by lower below true e =
      let page = within old lower (ltb-true _ _ e) in
      (page.0, s.each lower page.0 page.1)
  by lower below false e =
      let low : length old ≤ lower = ltb-false _ _ e in
      let page = gap.before lower low below in
      (page.0, first_by images area lower page.0 None (s.same lower low ∙ no_image upto blocks lower left rises (omega (arith, below, gap.high))) page.1)

-- ---- faults

pub of_block_as : {Is Also : ℕ → Type 0} → ((block : ℕ) → Is block → Also block) → (fault : OpenFault) → IsOfBlock Is fault → IsOfBlock Also fault
of_block_as on faults.Memory x = tt
of_block_as on (faults.Disk count) x = tt
of_block_as on (faults.NotIndex area at) x = (x.0, (x.1.0, x.1.1, on x.1.0 x.1.2))
of_block_as on (faults.BadEvent area at) x = absurd x
