-- The one spelling of each page as 8,192 bytes, laid out as PostgreSQL does. Numbers have their low byte first.
use Rattle.std.specs.Prelude.{ℕ, ◌+◌, ◌-◌, ◌*◌, ◌^◌, List, [], ◌∷◌, ◌++◌, length, Option, Some, None, replicate}
use Rattle.std.specs.Int.{w16, w32, w64, to_le_bytes}
use Rattle.index_sizes.specs.declared.limits.TheConstants.{PAGE_END}
use Rattle.page_bytes.specs.Content.{Content, round8, lower_of, upper_of}
use Rattle.page_bytes.specs.declared.kind.PageKind.{PageKind}
use Rattle.page_bytes.specs.declared.kind.PageKind.TheVariants.{Meta, Hnsw, IvfLists, IvfEntries}

abbrev pub zeros : ℕ → List ℕ
zeros n = replicate n 0

-- pd_lsn, pd_checksum, pd_flags, pd_lower, pd_upper, pd_special, pd_pagesize_version and pd_prune_xid
unfoldable pub header : ℕ → ℕ → ℕ → List ℕ
header number lower upper =
    to_le_bytes w64 number ++ (to_le_bytes w16 0 ++ (to_le_bytes w16 0 ++ (to_le_bytes w16 lower
    ++ (to_le_bytes w16 upper ++ (to_le_bytes w16 PAGE_END ++ (to_le_bytes w16 0x2004 ++ to_le_bytes w32 0))))))

-- an item's place in bits 0 to 14, the flags 1 in bits 15 and 16, and its length in bits 17 to 31
unfoldable pub line_pointer : ℕ → ℕ → List ℕ
line_pointer place len = to_le_bytes w32 (place + 2 ^ 15 + len * 2 ^ 17)

-- the line pointers of items that lie, the first one highest, below a place
unfoldable pub line_pointers : ℕ → List (List ℕ) → List ℕ
line_pointers top [] = []
line_pointers top (x ∷ xs) = let place = top - round8 (length x) in line_pointer place (length x) ++ line_pointers place xs

-- an item, and zeros up to a multiple of 8 bytes
unfoldable pub padded : List ℕ → List ℕ
padded x = x ++ zeros (round8 (length x) - length x)

-- the items as they lie, the first one highest
unfoldable pub stacked : List (List ℕ) → List ℕ
stacked [] = []
stacked (x ∷ xs) = stacked xs ++ padded x

abbrev pub next_word : Option ℕ → ℕ
next_word None = 0xFFFFFFFF
next_word (Some block) = block

abbrev pub kind_word : PageKind → ℕ
kind_word Meta = 1
kind_word Hnsw = 2
kind_word IvfLists = 3
kind_word IvfEntries = 4

-- the special space: the next block, 2 unused bytes and the kind
unfoldable pub special : Option ℕ → PageKind → List ℕ
special next kind = to_le_bytes w32 (next_word next) ++ (to_le_bytes w16 0 ++ to_le_bytes w16 (kind_word kind))

unfoldable pub spelling : Content → List ℕ
spelling p =
    let lower = lower_of p.items in
    let upper = upper_of p.items in
    header p.number lower upper ++ (line_pointers PAGE_END p.items ++ (zeros (upper - lower) ++ (stacked p.items ++ special p.next p.kind)))
