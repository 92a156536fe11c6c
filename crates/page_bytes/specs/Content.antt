-- What a page holds, and which contents have a page.
use Rattle.std.specs.Prelude.{◌≡◌, ℕ, zero, suc, ◌+◌, ◌-◌, ◌*◌, ◌/◌, ◌^◌, ◌<◌, ◌≤◌, List, [], ◌∷◌, length, Option, Some, None, All, slice_get, if◌then◌else◌, ◌==◌}
use Rattle.std.specs.List.{list_any}
use Rattle.index_sizes.specs.declared.limits.TheConstants.{PAGE_END, PAGE_ROOM}
use Rattle.page_bytes.specs.declared.kind.PageKind.{PageKind}
use Rattle.page_bytes.specs.declared.kind.PageKind.TheVariants.{IvfEntries}

-- A page as its users see it. A next block is a block number, and number counts lasting events.
pub record Content : Type 0 where
  pub kind : PageKind
  pub next : Option ℕ
  pub number : ℕ
  pub items : List (List ℕ)

-- the least multiple of 8 that is at least n
unfoldable pub round8 : ℕ → ℕ
round8 n = (n + 7) / 8 * 8

-- the bytes that the items take, each its length rounded up
unfoldable pub taken : List (List ℕ) → ℕ
taken [] = 0
taken (x ∷ xs) = round8 (length x) + taken xs

-- where the line pointers end, and where the items begin: items lie against the special space at 8,184
abbrev pub lower_of : List (List ℕ) → ℕ
lower_of items = 24 + 4 * length items

abbrev pub upper_of : List (List ℕ) → ℕ
upper_of items = PAGE_END - taken items

-- the room between them
abbrev pub free_of : Content → ℕ
free_of p = upper_of p.items - lower_of p.items

-- bytes, at least one
pub record IsItem (x : List ℕ) : Type 0 where
  pub some : 0 < length x
  pub bytes : All (λ b. b < 256) x

-- only pages of IVF entries have a next block
abbrev pub IsNext : PageKind → Option ℕ → Type 0
IsNext kind None = Unit {0}
IsNext kind (Some block) = (kind ≡ IvfEntries) × (block < 0xFFFFFFFF)

-- what has a page: each item takes its length, rounded up, and a line pointer of 4 bytes
pub record IsPage (p : Content) : Type 0 where
  pub next : IsNext p.kind p.next
  pub number : p.number < 2 ^ 64
  pub items : All IsItem p.items
  pub room : taken p.items + 4 * length p.items ≤ PAGE_ROOM

-- the item at an offset, the first of which is 1
abbrev pub item_at : List (List ℕ) → ℕ → Option (List ℕ)
item_at items zero = None
item_at items (suc i) = slice_get items i

-- the items whose offset is not among gone, in order, where the first item has this offset
abbrev pub others : List ℕ → ℕ → List (List ℕ) → List (List ℕ)
others gone offset [] = []
others gone offset (x ∷ xs) =
    let rest = others gone (offset + 1) xs in if list_any (λ g. g == offset) gone then rest else x ∷ rest
