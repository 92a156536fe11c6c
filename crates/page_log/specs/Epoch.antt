-- The front of a log area: the header of its epoch, and then the base images.
use Rattle.std.specs.Prelude.{◌≡◌, ℕ, zero, suc, ◌+◌, ◌%◌, ◌<◌, ◌≤◌, Bool, ◌&&◌, nat_le, ◌==◌, if◌then◌else◌, List, [], ◌∷◌, length, take, drop, slice_index, codes, Option, Some, None, Result, Ok, Err, ⊤}
use Rattle.std.specs.Int.{w32, w64, from_le_bytes}
use Rattle.std.specs.List.{list_all}
use Rattle.index_sizes.specs.declared.limits.TheConstants.{MOST_BLOCKS, PAGE_SIZE}
use Rattle.page_bytes.specs.Content.{Content}
use Rattle.page_bytes.specs.Decoding.{Spells}
use Rattle.page_log.specs.declared.limits.TheConstants.{OPEN, HEAD, IMAGE}
use Rattle.page_log.specs.declared.head.Head.{Head}

-- the numbers of 4 and 8 bytes at a place
abbrev pub word_at : List ℕ → ℕ → ℕ
word_at area at = from_le_bytes w32 (take 4 (drop at area))

abbrev pub long_at : List ℕ → ℕ → ℕ
long_at area at = from_le_bytes w64 (take 8 (drop at area))

-- ---- the header

-- an area has an epoch where it has a whole header whose last byte, the epoch's seal, is open
abbrev pub is_open : List ℕ → Bool
is_open area = nat_le HEAD (length area) && slice_index area 39 == OPEN

-- the form that the magic tells, 0 where it is none
abbrev pub form_in : List ℕ → ℕ
form_in area =
    if long_at area 0 == from_le_bytes w64 (codes "VECBITS1") then 1
    else (if long_at area 0 == from_le_bytes w64 (codes "VECBITS2") then 2 else 0)

abbrev pub head_in : List ℕ → Head
head_in area = record {
  form = form_in area;
  epoch = long_at area 8;
  before = long_at area 16;
  blocks = word_at area 24;
  images = word_at area 28;
}

-- Of any area that is open: the header, or the place of what is wrong with its magic or its epoch, which is at least 1 and odd
-- in the first area alone.
abbrev pub named_head : ℕ → List ℕ → Result Head ℕ
named_head parity area =
    if form_in area == 0 then Err 0 else (if nat_le 1 (long_at area 8) && long_at area 8 % 2 == parity then Ok (head_in area) else Err 8)

-- the seven zeros before the seal
abbrev pub has_zeros : List ℕ → Bool
has_zeros area = list_all (λ b. b == 0) (take 7 (drop 32 area))

-- Of the area that is read: the place of what is wrong with its sizes, 1 to 32,768 blocks and no more images than blocks, or
-- with the zeros.
abbrev pub bad_size : List ℕ → Option ℕ
bad_size area =
    if nat_le 1 (word_at area 24) && nat_le (word_at area 24) MOST_BLOCKS
    then (if nat_le (word_at area 28) (word_at area 24) then (if has_zeros area then None else Some 32) else Some 28)
    else Some 24

-- ---- the base images. Each is a block's number (4 bytes) and its page

pub record IsImageAt (area : List ℕ) (blocks least at : ℕ) (image : ℕ × Content) : Type 0 where
  pub number : image.0 ≡ word_at area at
  pub from : least ≤ image.0
  pub below : image.0 < blocks
  pub page : Spells (take PAGE_SIZE (drop (at + 4) area)) image.1

-- So many images from a place on, the first of a block from a least one on: all of them, or those before the place at which none
-- stands.
abbrev pub AreImages : List ℕ → ℕ → ℕ → ℕ → ℕ → List (ℕ × Content) → Option ℕ → Type 0
AreImages area blocks zero least at [] None = ⊤
AreImages area blocks zero least at [] (Some place) = ⊥
AreImages area blocks zero least at (image ∷ images) bad = ⊥
AreImages area blocks (suc count) least at [] None = ⊥
AreImages area blocks (suc count) least at [] (Some place) = (place ≡ at) × ((image : ℕ × Content) → ¬ IsImageAt area blocks least at image)
AreImages area blocks (suc count) least at (image ∷ images) bad =
    IsImageAt area blocks least at image × AreImages area blocks count (image.0 + 1) (at + IMAGE) images bad
