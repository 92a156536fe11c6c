-- A new index on disks: what every image reads as, while it is written.
use Rattle.std.proofs.Common.{◌≡◌, ◌<◌, ◌+◌, ◌*◌, ℕ, zero, suc, List, [], ◌∷◌, ◌++◌, length, slice_get, get_or, Option, Some, inl, inr, refl, sym, ap, subst, ◌∙◌, arith}
use Rattle.std.specs.Prelude.{All, Contains}
use Rattle.std.proofs.lemmas.List.Elements.{Contains-push, Contains-append_left, Contains-push_cases}
use Rattle.std.proofs.lemmas.Option.{get_or_from_slice_get, slice_get-get_or}
use Rattle.vec_recover.proofs.Marking.{below_next, rising_more}
use Rattle.vec_outside.specs.Disk.{Disk, Image, IsImage, LeavesOnly}
use Rattle.vec_outside.specs.declared.disks.Area.TheVariants.{Log0, Log1}
use Rattle.vec_outside.proofs.Moments.{joined, started, weakened}
use Rattle.page_bytes.specs.Content.{Content}
use Rattle.page_log.specs.Aside.{AreAll, IsAside, IsUnderShut, IsUnderSome, Keeps}
use Rattle.page_log.specs.BothLogs.{IsStanding, alone, begun, begun_log}
use Rattle.page_log.specs.NewEpochs.{IsNewEpoch, IsUnder, base_of, images_of, with_page}
use Rattle.page_log.specs.Opening.{RisesBelow, parity_of}
use Rattle.page_log.specs.declared.limits.TheConstants.{OPEN}
use Rattle.page_log.proofs.BothAreas.{first_reads, first_stands, none_counts}
use Rattle.page_log.proofs.Keeping.{both}
use Rattle.page_log.proofs.HeldEpochs.{new_images}
use Rattle.page_log.proofs.NewBases.{images_are}
use Rattle.vec_recover.proofs.PagesBefore.{within}
use Rattle.vec_recover.specs.Creating.{AreAllBlocks, AreShut, IsNoneOrNew, each_block, first_epoch}

-- ---- pairs of blocks

pub pairs_more : (k block : ℕ) → each_block k block ++ (block + k, block + k) ∷ [] ≡ each_block (suc k) block
pairs_more zero block =
    let same : block + 0 ≡ block = omega arith in
    ap (λ (n : ℕ). (n, n) ∷ []) same
pairs_more (suc k) block =
    let next : block + suc k ≡ suc block + k = omega arith in
    ap (λ (l : List (ℕ × ℕ)). (block, block) ∷ l)
    (ap (λ (n : ℕ). each_block k (suc block) ++ (n, n) ∷ []) next ∙ pairs_more k (suc block))

pub pairs_next : (k : ℕ) (pairs more : List (ℕ × ℕ)) → pairs ≡ each_block k 0 → more ≡ pairs ++ (k, k) ∷ [] → more ≡ each_block (k + 1) 0
pairs_next k pairs more is next =
    let at : 0 + k ≡ k = omega arith in
    let long : suc k ≡ k + 1 = omega arith in
    next ∙ ap (λ (l : List (ℕ × ℕ)). l ++ (k, k) ∷ []) is ∙ ap (λ (n : ℕ). each_block k 0 ++ (n, n) ∷ []) (sym at) ∙ pairs_more k 0
    ∙ ap (λ (n : ℕ). each_block n 0) long

here_pair : (n block k : ℕ) (d : ℕ × ℕ) → k < length (each_block n block) → (get_or (each_block n block) k d).1 < block + n
here_pair zero block k d low = absurd (omega (arith, low))
here_pair (suc n) block zero d low = omega arith
here_pair (suc n) block (suc k) d low =
    let rest = here_pair n (suc block) k d (omega (arith, low)) in
    omega (arith, rest)

pub places_there : (n : ℕ) (pairs : List (ℕ × ℕ)) → pairs ≡ each_block n 0 → All (λ (pair : ℕ × ℕ). pair.1 < n) pairs
places_there n pairs is = subst (All (λ (pair : ℕ × ℕ). pair.1 < n)) (sym is) (λ k d low.
    let below = here_pair n 0 k d low in
    omega (arith, below))

pub image_next : (pages : List Content) (k block : ℕ) (page : Content) → slice_get pages block ≡ Some page
    → images_of pages (each_block (suc k) block) ≡ (block, page) ∷ images_of pages (each_block k (suc block))
image_next pages k block page there = ap (λ (o : Option Content). with_page block o (images_of pages (each_block k (suc block)))) there

rising_from : (pages : List Content) (k block : ℕ) → block + k ≡ length pages → RisesBelow block (length pages) (images_of pages (each_block k block))
rising_from pages zero block long = tt
rising_from pages (suc k) block long =
    let page = within pages block (omega (arith, long)) in
    let rest = rising_from pages k (suc block) (omega (arith, long)) in
    let next : suc block ≡ block + 1 = omega arith in
    subst (RisesBelow block (length pages)) (sym (image_next pages k block page.0 page.1))
    (omega arith, omega (arith, long), subst (λ (n : ℕ). RisesBelow n (length pages) (images_of pages (each_block k (suc block)))) next rest)

pub rising_all : (pages : List Content) (pairs : List (ℕ × ℕ)) → pairs ≡ each_block (length pages) 0 → RisesBelow 0 (length pages) (images_of pages pairs)
rising_all pages pairs is =
    subst (λ (l : List (ℕ × ℕ)). RisesBelow 0 (length pages) (images_of pages l)) (sym is) (rising_from pages (length pages) 0 (omega arith))

-- ---- moments

module _ (pages : List Content) (old mid new : Disk) (shut : AreShut old) where
  -- while it is written, no image has an open area
  pub none_yet : Keeps (IsAside (parity_of Log0) 0) Log0 old mid → LeavesOnly old mid (IsNoneOrNew pages)
  none_yet k = weakened old mid _ _ (both old mid _ _ (k.moments shut.first) k.others.moments)
      (λ image x. inl (none_counts image x.0 (shut.other (image Log1) (x.1 Log1 (λ same. absurd cc)))))

  other_stays : Keeps (IsAside (parity_of Log0) 0) Log0 old mid → AreAll (IsAside (parity_of Log1) 0) Log1 mid
  other_stays k = λ bytes left. shut.other bytes (k.others.leaves Log1 bytes (λ same. absurd cc) left)

  module _ (first : Keeps (IsAside (parity_of Log0) 0) Log0 old mid) (good : IsNewEpoch (first_epoch pages))
      (written : AreAll (IsUnderShut (first_epoch pages)) Log0 mid) (second : Keeps (IsUnderSome (first_epoch pages)) Log0 mid new) where
    pub under : AreAll (IsUnderSome (first_epoch pages)) Log0 mid
    under bytes left =
        let u = written bytes left in
        (u.0, u.2)

    pub none_or_new : LeavesOnly old new (IsNoneOrNew pages)
    none_or_new = joined old mid new (IsNoneOrNew pages) _ (none_yet first)
        (both mid new _ _ (second.moments under) second.others.moments)
        (λ image x. first_reads (first_epoch pages) image good x.0 (other_stays first (image Log1) (x.1 Log1 (λ same. absurd cc))))

    pub stands_new : AreAll (IsUnder (first_epoch pages) OPEN) Log0 new → IsStanding (alone (begun_log (first_epoch pages))) new (begun (first_epoch pages))
    stands_new all = first_stands (first_epoch pages) new good all
        (λ bytes left. other_stays first bytes (second.others.leaves Log1 bytes (λ same. absurd cc) left))

-- ---- all blocks

pub blocks_none : AreAllBlocks 0 []
blocks_none = record {
  rising = λ k within. absurd (omega (arith, within));
  there = λ k d low. absurd (omega (arith, low));
  each = λ b. (λ there. absurd (omega (arith, there.1)), λ low. absurd (omega (arith, low)));
}

pub blocks_more : (block : ℕ) (list more : List ℕ) → more ≡ list ++ block ∷ [] → AreAllBlocks block list → AreAllBlocks (block + 1) more
blocks_more block list more is a = subst (AreAllBlocks (block + 1)) (sym is) (record {
  rising = rising_more list block a.rising (λ b there. (a.each b).0 there);
  there = λ k d low.
      let x = get_or (list ++ block ∷ []) k d in
      to x (k, low, get_or_from_slice_get (list ++ block ∷ []) k x x (slice_get-get_or (list ++ block ∷ []) k d low));
  each = λ b. (to b, from b);
}) where
  to : (b : ℕ) → Contains (list ++ block ∷ []) b → b < block + 1
  to b there = elim (Contains-push_cases list block b there) as (λ _. b < block + 1) [
    | inl before ↦ omega (arith, (a.each b).0 before)
    | inr last ↦ omega (arith, last)
  ]

  from : (b : ℕ) → b < block + 1 → Contains (list ++ block ∷ []) b
  from b low = elim (below_next b block low) as (λ _. Contains (list ++ block ∷ []) b) [
    | inl below ↦ Contains-append_left list (block ∷ []) b ((a.each b).1 below)
    | inr same ↦ subst (Contains (list ++ block ∷ [])) (sym same) (Contains-push list block)
  ]

-- ---- before and after

-- nothing was done
pub none_began : (pages : List Content) (disk : Disk) → AreShut disk → ((image : Image) → disk.left_since disk.moment image → IsImage disk image)
    → LeavesOnly disk disk (IsNoneOrNew pages)
none_began pages disk shut only_now =
    started disk (IsNoneOrNew pages) only_now (λ image is. inl (none_counts image (shut.first (image Log0) (is Log0)) (shut.other (image Log1) (is Log1))))

images_long : (pages : List Content) (k block : ℕ) → block + k ≡ length pages → length (images_of pages (each_block k block)) ≡ k
images_long pages zero block long = refl
images_long pages (suc k) block long =
    let page = within pages block (omega (arith, long)) in
    ap (λ (l : List (ℕ × Content)). length l) (image_next pages k block page.0 page.1) ∙ ap suc (images_long pages k (suc block) (omega (arith, long)))

-- where its first batch will stand
pub new_end : (pages : List Content) → IsNewEpoch (first_epoch pages) → 40 + 8196 * length pages ≡ length (base_of (first_epoch pages) OPEN)
new_end pages good =
    let all : 0 + length pages ≡ length pages = omega arith in
    let images = images_are (first_epoch pages) good ∙ images_long pages (length pages) 0 all in
    sym ((new_images (first_epoch pages) good).end_is ∙ ap (λ (n : ℕ). 40 + 8196 * n) images)
