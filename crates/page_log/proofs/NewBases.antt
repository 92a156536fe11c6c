-- What the bytes of a new epoch read as.
use Rattle.std.proofs.Common.{◌≡◌, ◌≢◌, ℕ, zero, suc, ◌+◌, ◌%◌, ◌<◌, ◌≤◌, Bool, true, false, ◌&&◌, ◌==◌, nat_le, if◌then◌else◌, List, [], ◌∷◌, ◌++◌, Option, Some, None, Result, Ok, Err, length, get_or, take, drop, slice_index, refl, sym, ◌∙◌, ap, subst, arith, append_assoc, length-append, take-append-drop}
use Rattle.std.proofs.lemmas.Bool.Decides.{nat_tests}
use Rattle.std.proofs.lemmas.List.{take_at, take-take, length-take}
use Rattle.std.proofs.lemmas.Nat.{from_le_bytes-to_le_bytes_4, from_le_bytes-to_le_bytes_8}
use Rattle.page_bytes.specs.Content.{Content}
use Rattle.vec_outside.specs.Disk.{IsTorn, spliced, Disk, IsTornImage, IsWritten, LeavesOnly}
use Rattle.vec_outside.specs.declared.disks.Area.{Area}
use Rattle.vec_outside.specs.declared.disks.Area.TheVariants.{Log0, Log1}
use Rattle.page_log.specs.Aside.{IsShut, IsUnderSome, Keeps}
use Rattle.page_log.proofs.Keeping.{keeps_torn}
use Rattle.page_log.specs.BothLogs.{IsNamedBase}
use Rattle.page_log.specs.Epoch.{is_open, form_in, head_in, named_head, bad_size, has_zeros, word_at, long_at}
use Rattle.page_log.specs.Going.{Holds, LeadsTo, IsSealed, IsBetween}
use Rattle.page_log.specs.NewEpochs.{NewEpoch, IsNewEpoch, IsUnder, base_of, title_of, spelled_images}
use Rattle.page_log.specs.Opening.{RisesBelow, front_at, area_of, parity_of}
use Rattle.page_log.specs.declared.head.Head.{Head}
use Rattle.page_log.proofs.HeadParts.{front_same}
use Rattle.page_log.proofs.Holding.{holds_settled}
use Rattle.page_log.proofs.Seals.{torn_seal, written_seal}
use Rattle.page_log.proofs.Shutting.{get_at}

-- ---- the seal among the bytes

pub title_length : (new : NewEpoch) → length (title_of new) ≡ 39
title_length new = refl

apart : (new : NewEpoch) (seal : ℕ) (more : List ℕ) → base_of new seal ++ more ≡ title_of new ++ seal ∷ (spelled_images new.images ++ more)
apart new seal more = append_assoc (title_of new) (seal ∷ spelled_images new.images) more

-- whatever a write of the seal leaves
pub under_torn : (new : NewEpoch) (was bytes : List ℕ) → IsUnderSome new was → IsTorn 39 1 was bytes → IsUnderSome new bytes
under_torn new was bytes under torn =
    let is = under.1.same ∙ apart new under.0 (0 ∷ under.1.rest) in
    let other = torn_seal (title_of new) 39 (sym (title_length new)) under.0 (spelled_images new.images ++ 0 ∷ under.1.rest) was bytes is torn in
    (other.0, record { rest = under.1.rest; same = other.1 ∙ sym (apart new other.0 (0 ∷ under.1.rest)) })

pub under_written : (new : NewEpoch) (seal : ℕ) (was bytes : List ℕ) → IsUnderSome new was → bytes ≡ spliced was 39 (seal ∷ []) → IsUnder new seal bytes
under_written new seal was bytes under is = record {
  rest = under.1.rest;
  same = is ∙ ap (λ (l : List ℕ). spliced l 39 (seal ∷ [])) (under.1.same ∙ apart new under.0 (0 ∷ under.1.rest))
      ∙ written_seal (title_of new) 39 (sym (title_length new)) under.0 seal (spelled_images new.images ++ 0 ∷ under.1.rest)
      ∙ sym (apart new seal (0 ∷ under.1.rest));
}

pub base_long : (new : NewEpoch) (seal : ℕ) → 40 ≤ length (base_of new seal)
base_long new seal = omega (arith, length-append (title_of new) (seal ∷ spelled_images new.images), title_length new)

pub under_seal : (new : NewEpoch) (seal : ℕ) (bytes : List ℕ) → IsUnder new seal bytes → slice_index bytes 39 ≡ seal
under_seal new seal bytes under =
    ap (λ (l : List ℕ). get_or l 39 0) (under.same ∙ apart new seal (0 ∷ under.rest))
    ∙ get_at (title_of new) (spelled_images new.images ++ 0 ∷ under.rest) seal 39 (title_length new)

pub under_long : (new : NewEpoch) (seal : ℕ) (bytes : List ℕ) → IsUnder new seal bytes → 40 ≤ length bytes
under_long new seal bytes under = omega (arith, ap length under.same, length-append (base_of new seal) (0 ∷ under.rest), base_long new seal)

pub under_shut : (new : NewEpoch) (seal : ℕ) (bytes : List ℕ) → seal ≢ 165 → IsUnder new seal bytes → IsShut bytes
under_shut new seal bytes shut under = record {
  whole = under_long new seal bytes under;
  shut = λ open_. shut (sym (under_seal new seal bytes under) ∙ open_);
}

-- ---- the header

named_by : (form epoch parity : ℕ) (head : Head) → form ≡ 2 → 1 ≤ epoch → epoch % 2 ≡ parity
    → ◌≡◌ {A = Result Head ℕ} (if form == 0 then Err 0 else (if nat_le 1 epoch && epoch % 2 == parity then Ok head else Err 8)) (Ok head)
named_by form epoch parity head is some odd =
    let a : (form == 0) ≡ false = grind (arith, nat_tests) in
    let b : nat_le 1 epoch ≡ true = grind (arith, nat_tests) in
    let d : (epoch % 2 == parity) ≡ true = grind (arith, nat_tests) in
    rw (a, b, d) refl

sized_by : (blocks images : ℕ) (zeros : Bool) → 1 ≤ blocks → blocks ≤ 32768 → images ≤ blocks → zeros ≡ true
    → ◌≡◌ {A = Option ℕ} (if nat_le 1 blocks && nat_le blocks 32768 then (if nat_le images blocks then (if zeros then None else Some 32) else Some 28) else Some 24) None
sized_by blocks images zeros some few less are =
    let a : nat_le 1 blocks ≡ true = grind (arith, nat_tests) in
    let b : nat_le blocks 32768 ≡ true = grind (arith, nat_tests) in
    let d : nat_le images blocks ≡ true = grind (arith, nat_tests) in
    rw (a, b, d, are) refl

-- images of rising blocks are no more than the blocks
pub few_rising : (images : List (ℕ × Content)) (least blocks : ℕ) → RisesBelow least blocks images → least ≤ blocks → least + length images ≤ blocks
few_rising [] least blocks rises le = omega (arith, le)
few_rising (image ∷ images) least blocks rises le =
    omega (arith, rises.0, rises.1, few_rising images (image.0 + 1) blocks rises.2 (omega (arith, rises.1)))

module _ (new : NewEpoch) (good : IsNewEpoch new) where
  few_images : length new.images ≤ new.blocks
  few_images = omega (arith, few_rising new.images 0 new.blocks good.rising (omega arith))

  epoch_is : long_at (base_of new 165) 8 ≡ new.epoch
  epoch_is = from_le_bytes-to_le_bytes_8 new.epoch good.fits

  pub blocks_are : word_at (base_of new 165) 24 ≡ new.blocks
  blocks_are = from_le_bytes-to_le_bytes_4 new.blocks (omega (arith, good.few))

  pub images_are : word_at (base_of new 165) 28 ≡ length new.images
  images_are = from_le_bytes-to_le_bytes_4 (length new.images) (omega (arith, good.few, few_images))

  form_is : form_in (base_of new 165) ≡ 2
  form_is = refl

  zeros_are : has_zeros (base_of new 165) ≡ true
  zeros_are = refl

  open_is : is_open (base_of new 165) ≡ true
  open_is =
      let long = base_long new 165 in
      let a : nat_le 40 (length (base_of new 165)) ≡ true = grind (arith, nat_tests) in
      rw a refl

  parity_is : new.epoch % 2 ≡ parity_of (area_of new.epoch)
  parity_is = by (new.epoch % 2) (omega arith)
    where
      by : (r : ℕ) → r < 2 → r ≡ parity_of (if r == 1 then Log0 else Log1)
      by zero less = refl
      by (suc zero) less = refl
      by (suc (suc r)) less = absurd (omega (arith, less))

  named_is : named_head (parity_of (area_of new.epoch)) (base_of new 165) ≡ Ok (head_in (base_of new 165))
  named_is = named_by (form_in (base_of new 165)) (long_at (base_of new 165) 8) (parity_of (area_of new.epoch)) (head_in (base_of new 165))
      form_is (omega (arith, epoch_is, good.some)) (ap (λ (n : ℕ). n % 2) epoch_is ∙ parity_is)

  size_is : bad_size (base_of new 165) ≡ None
  size_is = sized_by (word_at (base_of new 165) 24) (word_at (base_of new 165) 28) (has_zeros (base_of new 165))
      (omega (arith, blocks_are, good.block)) (omega (arith, blocks_are, good.few)) (omega (arith, blocks_are, images_are, few_images)) zeros_are

  pub new_named : IsNamedBase new.epoch (base_of new 165)
  new_named =
      let o = open_is in
      let n = named_is in
      let s = size_is in record {
        whole = base_long new 165;
        front = cc;
        number = epoch_is;
      }

-- the first bytes of an area tell its front
pub base_front : (parity : ℕ) (base area : List ℕ) → 40 ≤ length base → take (length base) area ≡ base
    → (40 ≤ length area) × (front_at parity area ≡ front_at parity base)
base_front parity base area long is =
    let reach : 40 ≤ length area = omega (arith, long, ap length is, length-take (length base) area) in
    let same : take 40 area ≡ take 40 base = sym (take-take 40 (length base) area long) ∙ ap (λ (l : List ℕ). take 40 l) is in
    (reach, sym (front_same parity area reach) ∙ ap (λ (l : List ℕ). front_at parity l) same ∙ front_same parity base long)

-- ---- what it holds

pub no_batches : (base : List ℕ) → LeadsTo base base [] 0
no_batches base = record {
  begins = λ rest. take_at base rest (length base) refl;
  batches = [];
  events = refl;
  goes_on = λ rest more tail are. are;
}

pub new_holds : (new : NewEpoch) (bytes : List ℕ) → IsUnder new 165 bytes → IsBetween (base_of new 165) [] [] bytes
new_holds new bytes under = (
  0,
  omega arith,
  subst (λ (l : List ℕ). Holds (base_of new 165) [] l) (sym under.same)
      (holds_settled (base_of new 165) (base_of new 165) [] 0 0 under.rest (no_batches (base_of new 165)) (omega arith)),
)

pub new_sealed : (new : NewEpoch) (bytes : List ℕ) → IsUnder new 165 bytes → IsSealed (base_of new 165) false [] bytes
new_sealed new bytes under = record { seal = 0; rest = under.rest; split = under.same; behind = omega arith }

-- what was written part by part
pub under_from : (new : NewEpoch) (head : List ℕ) (seal : ℕ) (seen bytes : List ℕ) → head ≡ title_of new
    → take (length ((head ++ (seal ∷ spelled_images new.images)) ++ 0 ∷ [])) seen ≡ (head ++ (seal ∷ spelled_images new.images)) ++ 0 ∷ []
    → bytes ≡ seen → IsUnder new seal bytes
under_from new head seal seen bytes title begins is =
    let front = (head ++ (seal ∷ spelled_images new.images)) ++ 0 ∷ [] in
    let rest = drop (length front) seen in record {
      rest = rest;
      same = is ∙ sym (take-append-drop (length front) seen) ∙ ap (λ (l : List ℕ). l ++ rest) begins
          ∙ append_assoc (head ++ (seal ∷ spelled_images new.images)) (0 ∷ []) rest
          ∙ ap (λ (l : List ℕ). (l ++ (seal ∷ spelled_images new.images)) ++ (0 ∷ rest)) title;
    }

-- a write of the seal of an epoch that stands
pub under_kept : (new : NewEpoch) (area : Area) (old after : Disk) → IsWritten area 39 1 old after → LeavesOnly old after (IsTornImage area 39 1 old)
    → Keeps (IsUnderSome new) area old after
under_kept new area old after written moments =
    keeps_torn (IsUnderSome new) area 39 1 old after written moments (λ was bytes left is torn. under_torn new was bytes is torn)
