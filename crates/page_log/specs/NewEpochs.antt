-- The bytes of a new epoch: its header up to the seal, the seal, its base images, and a closed seal where the first batch will stand.
use Rattle.std.specs.Prelude.{◌≡◌, ℕ, ◌^◌, ◌<◌, ◌≤◌, List, [], ◌∷◌, ◌++◌, length, codes, replicate, slice_get, Option, Some, None, ⊤}
use Rattle.std.specs.Int.{w32, w64, to_le_bytes}
use Rattle.index_sizes.specs.declared.limits.TheConstants.{MOST_BLOCKS}
use Rattle.page_bytes.specs.Content.{Content, IsPage}
use Rattle.page_bytes.specs.Spelling.{spelling}
use Rattle.page_log.specs.Opening.{RisesBelow}

-- an epoch to be written: its number, how many lasting events were before it, the blocks of the index, and its base images
pub record NewEpoch : Type 0 where
  pub epoch : ℕ
  pub before : ℕ
  pub blocks : ℕ
  pub images : List (ℕ × Content)

abbrev pub ArePages : List (ℕ × Content) → Type 0
ArePages [] = ⊤
ArePages (image ∷ images) = IsPage image.1 × ArePages images

-- its numbers fit the header, and its images are pages of blocks that rise below the number of blocks
pub record IsNewEpoch (new : NewEpoch) : Type 0 where
  pub some : 1 ≤ new.epoch
  pub fits : new.epoch < 2 ^ 64
  pub before : new.before < 2 ^ 64
  pub block : 1 ≤ new.blocks
  pub few : new.blocks ≤ MOST_BLOCKS
  pub rising : RisesBelow 0 new.blocks new.images
  pub pages : ArePages new.images

-- the 39 bytes of a header before its seal, in form 2: the epoch's number, the events before it, blocks and images
abbrev pub title : ℕ → ℕ → ℕ → ℕ → List ℕ
title epoch before blocks images =
    codes "VECBITS2" ++ (to_le_bytes w64 epoch ++ (to_le_bytes w64 before
    ++ (to_le_bytes w32 blocks ++ (to_le_bytes w32 images ++ replicate 7 0))))

abbrev pub title_of : NewEpoch → List ℕ
title_of new = title new.epoch new.before new.blocks (length new.images)

-- images one after the other, each a block's number and its page
abbrev pub spelled_images : List (ℕ × Content) → List ℕ
spelled_images [] = []
spelled_images (image ∷ images) = to_le_bytes w32 image.0 ++ (spelling image.1 ++ spelled_images images)

-- the header, with this byte as its seal, and the images
abbrev pub base_of : NewEpoch → ℕ → List ℕ
base_of new seal = title_of new ++ (seal ∷ spelled_images new.images)

-- an area has the epoch under this seal, and behind its images a closed one
pub record IsUnder (new : NewEpoch) (seal : ℕ) (area : List ℕ) : Type 0 where
  pub rest : List ℕ
  pub same : area ≡ base_of new seal ++ (0 ∷ rest)

-- ---- which pages are its images. A pair is a block and the place of its page in a list

abbrev pub with_page : ℕ → Option Content → List (ℕ × Content) → List (ℕ × Content)
with_page block None images = images
with_page block (Some page) images = (block, page) ∷ images

abbrev pub images_of : List Content → List (ℕ × ℕ) → List (ℕ × Content)
images_of pages [] = []
images_of pages (pair ∷ pairs) = with_page pair.0 (slice_get pages pair.1) (images_of pages pairs)

abbrev pub epoch_from : ℕ → ℕ → ℕ → List Content → List (ℕ × ℕ) → NewEpoch
epoch_from epoch before blocks pages pairs = record { epoch = epoch; before = before; blocks = blocks; images = images_of pages pairs }
