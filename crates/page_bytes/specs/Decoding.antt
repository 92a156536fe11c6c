-- What bytes show, whether they are a page or not.
use Rattle.std.specs.Prelude.{◌≡◌, ℕ, zero, suc, ◌+◌, ◌-◌, ◌*◌, ◌/◌, ◌%◌, ◌^◌, List, [], ◌∷◌, Option, Some, None, take, drop, slice_index, if◌then◌else◌, ◌==◌}
use Rattle.index_sizes.specs.declared.limits.TheConstants.{PAGE_END}
use Rattle.page_bytes.specs.Content.{Content, IsPage}
use Rattle.page_bytes.specs.Spelling.{spelling}
use Rattle.page_bytes.specs.declared.kind.PageKind.{PageKind}
use Rattle.page_bytes.specs.declared.kind.PageKind.TheVariants.{Meta, Hnsw, IvfLists, IvfEntries}

-- the numbers of 2, 4 and 8 bytes at a place
unfoldable pub half_at : List ℕ → ℕ → ℕ
half_at bytes at = slice_index bytes at + slice_index bytes (at + 1) * 2 ^ 8

unfoldable pub word_at : List ℕ → ℕ → ℕ
word_at bytes at = half_at bytes at + half_at bytes (at + 2) * 2 ^ 16

unfoldable pub long_at : List ℕ → ℕ → ℕ
long_at bytes at = word_at bytes at + word_at bytes (at + 4) * 2 ^ 32

-- the item that a line pointer names
unfoldable pub named_by : List ℕ → ℕ → List ℕ
named_by bytes pointer = take (pointer / 2 ^ 17) (drop (pointer % 2 ^ 15) bytes)

-- the items of some line pointers from a place on
unfoldable pub items_at : List ℕ → ℕ → ℕ → List (List ℕ)
items_at bytes at zero = []
items_at bytes at (suc n) = named_by bytes (word_at bytes at) ∷ items_at bytes (at + 4) n

abbrev pub next_from : ℕ → Option ℕ
next_from word = if word == 0xFFFFFFFF then None else Some word

abbrev pub kind_from : ℕ → PageKind
kind_from word = if word == 1 then Meta else (if word == 2 then Hnsw else (if word == 3 then IvfLists else IvfEntries))

unfoldable pub content : List ℕ → Content
content bytes = record {
  kind = kind_from (half_at bytes 8190);
  next = next_from (word_at bytes PAGE_END);
  number = long_at bytes 0;
  items = items_at bytes 24 ((half_at bytes 12 - 24) / 4);
}

-- the bytes are the spelling of this content, which has a page
pub record Spells (bytes : List ℕ) (p : Content) : Type 0 where
  pub page : IsPage p
  pub same : bytes ≡ spelling p

-- the bytes are a page
abbrev pub IsSpelled : List ℕ → Type 0
IsSpelled bytes = Spells bytes (content bytes)
