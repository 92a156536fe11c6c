-- Which events fit the pages of an index.
use Rattle.std.specs.Prelude.{◌≡◌, ℕ, ◌+◌, ◌≤◌, ◌==◌, List, length, slice_get, Some}
use Rattle.index_sizes.specs.Sizes.{item_need, element_size, links_size}
use Rattle.vec_names.specs.declared.tid.Tid.{Tid}
use Rattle.page_bytes.specs.Content.{Content, free_of}
use Rattle.vec_graph.specs.Places.{one_if}

-- The place is the next on its page, which has room for an item of this length, once so many more items stand there, which
-- take so many bytes.
abbrev pub IsNextPlace : List Content → Tid → ℕ → ℕ → ℕ → Type 0
IsNextPlace pages at more used long =
    (c : Content) × (slice_get pages at.block ≡ Some c) × (at.off ≡ length c.items + more + 1) × (used + item_need long ≤ free_of c)

-- The places of an element and then of its list, which are the next on their pages, or both on one page.
abbrev pub AreNextPlaces : List Content → Tid → Tid → ℕ → ℕ → Type 0
AreNextPlaces pages at list_at bits slots =
    let same = at.block == list_at.block in
    IsNextPlace pages at 0 0 (element_size bits)
    × IsNextPlace pages list_at (one_if same 1) (one_if same (item_need (element_size bits))) (links_size slots)
