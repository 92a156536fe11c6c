-- A page's bytes from left to right: which byte may stand at each place, after the ones before it.
use Rattle.std.specs.Prelude.{◌≡◌, ◌<◌, ◌≤◌, Result, Ok, Err, ℕ, zero, suc, ◌+◌, ◌-◌, ◌*◌, ◌/◌, ◌%◌, ◌^◌, Bool, ◌&&◌, ◌==◌, nat_lt, nat_le, List, [], ◌∷◌, drop, if◌then◌else◌}
use Rattle.index_sizes.specs.declared.limits.TheConstants.{PAGE_END}
use Rattle.page_bytes.specs.Content.{round8}
use Rattle.page_bytes.specs.Spelling.{zeros}
use Rattle.page_bytes.specs.Decoding.{half_at, word_at}

-- which bytes may come next, and what comes after each
pub data Format : Type 0 where
  Done : Format
  Byte : (ℕ → Bool) → (ℕ → Format) → Format

-- how many bytes stand before the first one that may not
unfoldable pub first_bad : Format → List ℕ → ℕ
first_bad Done bytes = 0
first_bad (Byte allowed next) [] = 0
first_bad (Byte allowed next) (b ∷ bytes) = if allowed b then suc (first_bad (next b) bytes) else 0

-- its place, where the format stands for what comes from a place on
abbrev pub bad_place : Format → List ℕ → ℕ → ℕ
bad_place format bytes at = at + first_bad format (drop at bytes)

-- ---- parts

-- some bytes, whatever they are
unfoldable pub free : ℕ → Format → Format
free zero next = next
free (suc n) next = Byte (λ b. nat_lt b 256) (λ _. free n next)

-- these very bytes
unfoldable pub fixed : List ℕ → Format → Format
fixed [] next = next
fixed (x ∷ xs) next = Byte (λ b. b == x) (λ _. fixed xs next)

-- A half word that is a multiple of a step, from low to high. Its first byte may be that of one of them.
unfoldable pub begins_half : ℕ → ℕ → ℕ → ℕ → Bool
begins_half low high step b =
    nat_lt b 256 && (b % step == 0 && nat_le (low + (b + 256 - low % 256) % 256) high)

unfoldable pub is_half : ℕ → ℕ → ℕ → ℕ → Bool
is_half low high step n = nat_le low n && (nat_le n high && n % step == 0)

unfoldable pub half : ℕ → ℕ → ℕ → (ℕ → Format) → Format
half low high step next =
    Byte (begins_half low high step) (λ a. Byte (λ b. is_half low high step (a + b * 2 ^ 8)) (λ b. next (a + b * 2 ^ 8)))

-- the line pointer of an item that lies right below a top, at a place from least to most
unfoldable pub pointer : ℕ → ℕ → ℕ → (ℕ → ℕ → Format) → Format
pointer least most top next =
    half (least + 2 ^ 15) (most + 2 ^ 15) 8 (λ low.
    let place = low - 2 ^ 15 in half (2 * (top - place) - 14) (2 * (top - place)) 2 (λ high. next place (high / 2)))

-- ---- a page, from its end to its front

-- only a page of kind 4 has a next block, which is what 0xFFFFFFFF is not
unfoldable pub kinds : ℕ → ℕ → Format
kinds low high =
    fixed (zeros 2) (half (if low + high * 2 ^ 16 == 0xFFFFFFFF then 1 else 4) 4 1 (λ _. Done))

unfoldable pub ending : Format
ending = half 0 0xFFFF 1 (λ low. half 0 0xFFFF 1 (λ high. kinds low high))

-- items of these lengths, the last one first, each with zeros up to a multiple of 8
unfoldable pub stack : List ℕ → Format
stack [] = ending
stack (len ∷ lens) = free len (fixed (zeros (round8 len - len)) (stack lens))

-- So many line pointers, below which items lie from upper to top: the last of them lies at upper, and each before it
-- leaves 8 bytes at least for each that follows. The lengths of those before are known, the last one first.
unfoldable pub pointers : ℕ → ℕ → ℕ → ℕ → List ℕ → Format
pointers zero gap upper top lens = fixed (zeros gap) (stack lens)
pointers (suc left) gap upper top lens =
    pointer (upper + 8 * left) (if left == 0 then upper else top - 8) top (λ place len. pointers left gap upper place (len ∷ lens))

-- pd_special, pd_pagesize_version and pd_prune_xid, and then the line pointers, whose number pd_lower tells
unfoldable pub behind_upper : ℕ → ℕ → Format
behind_upper lower upper =
    fixed (0xF8 ∷ 0x1F ∷ 0x04 ∷ 0x20 ∷ 0 ∷ 0 ∷ 0 ∷ 0 ∷ []) (pointers ((lower - 24) / 4) (upper - lower) upper PAGE_END [])

-- each item takes 8 bytes at least, and a line pointer of 4
abbrev pub least_upper : ℕ → ℕ
least_upper lower = if lower == 24 then PAGE_END else lower

abbrev pub most_upper : ℕ → ℕ
most_upper lower = PAGE_END - 2 * (lower - 24)

unfoldable pub behind_lower : ℕ → Format
behind_lower lower = half (least_upper lower) (most_upper lower) 8 (behind_upper lower)

unfoldable pub page : Format
page = free 8 (fixed (zeros 4) (half 24 2744 4 behind_lower))

-- the lengths that the first line pointers tell, the last one first
unfoldable pub lens_at : List ℕ → ℕ → List ℕ
lens_at bytes zero = []
lens_at bytes (suc n) = word_at bytes (24 + 4 * n) / 2 ^ 17 ∷ lens_at bytes n

-- the bytes that items of these lengths take
unfoldable pub room_of : List ℕ → ℕ
room_of [] = 0
room_of (len ∷ lens) = round8 len + room_of lens

-- ---- what the parts mean

pub record InHalf (low high step n : ℕ) : Type 0 where
  pub least : low ≤ n
  pub most : n ≤ high
  pub even : n % step ≡ 0

-- what a line pointer may say: where its item lies, and how long it is
pub record InPointer (least most top place len : ℕ) : Type 0 where
  pub from : least ≤ place
  pub upto : place ≤ most
  pub even : place % 8 ≡ 0
  pub room : place + round8 len ≡ top
  pub some : 0 < len

-- where a line pointer may be
pub record Allows (least most top : ℕ) : Type 0 where
  pub order : least ≤ most
  pub below : most + 8 ≤ top
  pub within : top ≤ PAGE_END
  pub most_even : most % 8 ≡ 0
  pub top_even : top % 8 ≡ 0

-- what holds before so many line pointers
pub record Room (left upper top : ℕ) : Type 0 where
  pub upper_whole : upper % 8 ≡ 0
  pub top_whole : top % 8 ≡ 0
  pub within : top ≤ PAGE_END
  pub enough : upper + 8 * left ≤ top
  pub full : left ≡ 0 → upper ≡ top

-- ---- what a reader found

-- that the bad place is that of what comes after, or the bad place
abbrev pub Passes : Format → Format → List ℕ → ℕ → ℕ → Result (Unit {0}) ℕ → Type 0
Passes format after bytes at end (Ok done) = bad_place format bytes at ≡ bad_place after bytes end
Passes format after bytes at end (Err bad) = bad_place format bytes at ≡ bad

-- a half word, with what it says
abbrev pub FindsHalf : ℕ → ℕ → ℕ → List ℕ → ℕ → Result ℕ ℕ → Type 0
FindsHalf low high step bytes at (Ok n) =
    (n ≡ half_at bytes at) × InHalf low high step n
    × ((next : ℕ → Format) → bad_place (half low high step next) bytes at ≡ bad_place (next n) bytes (at + 2))
FindsHalf low high step bytes at (Err bad) = (next : ℕ → Format) → bad_place (half low high step next) bytes at ≡ bad

-- the place of an item, which a line pointer tells with the item's length
abbrev pub FindsPlace : ℕ → ℕ → ℕ → List ℕ → ℕ → Result ℕ ℕ → Type 0
FindsPlace least most top bytes at (Ok place) =
    let len = word_at bytes at / 2 ^ 17 in InPointer least most top place len
    × ((next : ℕ → ℕ → Format) → bad_place (pointer least most top next) bytes at ≡ bad_place (next place len) bytes (at + 4))
FindsPlace least most top bytes at (Err bad) = (next : ℕ → ℕ → Format) → bad_place (pointer least most top next) bytes at ≡ bad

-- line pointers, after which the lengths are known that they tell, and so where the items end
abbrev pub PassesPointers : ℕ → ℕ → List ℕ → Result (Unit {0}) ℕ → Type 0
PassesPointers count upper bytes (Ok done) =
    (upper + room_of (lens_at bytes count) ≡ PAGE_END)
    × ((gap : ℕ) → bad_place (pointers count gap upper PAGE_END []) bytes 24
    ≡ bad_place (fixed (zeros gap) (stack (lens_at bytes count))) bytes (24 + 4 * count))
PassesPointers count upper bytes (Err bad) = (gap : ℕ) → bad_place (pointers count gap upper PAGE_END []) bytes 24 ≡ bad

-- a header, with where the line pointers end and where the items begin
abbrev pub FindsEnds : List ℕ → Result (ℕ × ℕ) ℕ → Type 0
FindsEnds bytes (Ok ends) =
    let lower = ends.0 in
    let upper = ends.1 in InHalf 24 2744 4 lower × InHalf (least_upper lower) (most_upper lower) 8 upper
    × (first_bad page bytes ≡ bad_place (pointers ((lower - 24) / 4) (upper - lower) upper PAGE_END []) bytes 24)
FindsEnds bytes (Err bad) = first_bad page bytes ≡ bad
