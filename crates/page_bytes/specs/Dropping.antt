-- The bytes of a page in the midst of a drop.
use Rattle.std.specs.Prelude.{◌≡◌, ℕ, ◌+◌, ◌-◌, ◌*◌, ◌<◌, ◌≤◌, List, ◌++◌, length, All, slice_index}
use Rattle.index_sizes.specs.declared.limits.TheConstants.{PAGE_END}
use Rattle.page_bytes.specs.Content.{Content, IsItem, taken, others, lower_of, upper_of}
use Rattle.page_bytes.specs.Spelling.{zeros, header, line_pointers, stacked, special}

-- Of a page that is seen as p, the items before rest have been looked at. Those that stay lie at the top, with their
-- line pointers at the front. What lies between is left over.
pub record Gathers (p : Content) (gone bytes : List ℕ) (off at top : ℕ) (rest : List (List ℕ)) : Type 0 where
  pub kept : List (List ℕ)
  pub old_pointers : List ℕ
  pub old_bytes : List ℕ
  pub all : kept ++ others gone off rest ≡ others gone 1 p.items
  pub fit : All IsItem kept
  pub count_is : off + length rest ≡ length p.items + 1
  pub at_is : 24 + 4 * length kept ≡ at
  pub top_is : top + taken kept ≡ PAGE_END
  pub pointers_are : at + length old_pointers ≡ 20 + 4 * off
  pub bytes_are : upper_of p.items + taken rest + length old_bytes ≡ top
  pub same : bytes
      ≡ header p.number (lower_of p.items) (upper_of p.items)
      ++ (line_pointers PAGE_END kept ++ (old_pointers ++ (line_pointers (upper_of p.items + taken rest) rest
      ++ (zeros (upper_of p.items - lower_of p.items)
      ++ (stacked rest ++ (old_bytes ++ (stacked kept ++ special p.next p.kind)))))))

-- the offsets before `next` have been met, and the others have not
pub record Meets (gone : List ℕ) (next off : ℕ) : Type 0 where
  pub few : next < off
  pub before : (k : ℕ) → k < next → slice_index gone k < off
  pub from : next < length gone → off ≤ slice_index gone next
