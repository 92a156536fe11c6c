-- The index of lists: chains of blocks, the rows of a block, and the room of a page.
use Rattle.std.specs.Prelude.{◌<◌, nat_eq, map, ◌≡◌, ℕ, ◌+◌, ◌-◌, ◌≤◌, ◌==◌, Bool, List, All, Any, find, length, slice_get, sum_by, Option}
use Rattle.std.specs.List.{flat_map, IsDistinct}
use Rattle.std.specs.Option.{option_map}
use Rattle.index_sizes.specs.declared.limits.TheConstants.{PAGE_ROOM}
use Rattle.index_sizes.specs.Sizes.{item_need, entry_size}
use Rattle.vec_names.specs.declared.heap_id.HeapId.{HeapId}
use Rattle.ivf_graph.specs.declared.graph.IvfGraph.{IvfGraph}

-- ---- chains

-- a row of the table with its value
abbrev pub Row : Type 0
Row = HeapId × List Bool

-- one block of a chain: its number, and its rows
abbrev pub Part : Type 0
Part = ℕ × List Row

-- the blocks of all chains, list by list
abbrev pub parts : IvfGraph → List Part
parts g = flat_map (λ l. l.chain) g.lists

-- the block is one of the chain
abbrev pub IsOfChain : List Part → ℕ → Type 0
IsOfChain chain block = Any (λ p. p.0 ≡ block) chain

-- the block that ends a chain
abbrev pub last_block : List Part → Option ℕ
last_block chain = option_map (λ p. p.0) (slice_get chain (length chain - 1))

-- the rows of a block, if it stands in a chain
abbrev pub rows_on : IvfGraph → ℕ → Option (List Row)
rows_on g block = option_map (λ p. p.1) (find (λ p. p.0 == block) (parts g))

-- the rows of all chains. Compared as a bag
abbrev pub rows : IvfGraph → List Row
rows g = flat_map (λ p. p.1) (parts g)

-- the numbers of the blocks of all chains
abbrev pub block_numbers : IvfGraph → List ℕ
block_numbers g = map (λ p. p.0) (parts g)

-- each block stands once in the chains
abbrev pub AreBlocksApart : IvfGraph → Type 0
AreBlocksApart g = IsDistinct nat_eq (block_numbers g)

-- each block of a chain is one of the index's, and stands once
pub record AreBlocksOwn (g : IvfGraph) : Type 0 where
  pub apart : AreBlocksApart g
  pub within : All (λ b. b < g.blocks) (block_numbers g)

-- ---- bytes

-- what the row of a value of so many places takes of a page
abbrev pub row_need : ℕ → ℕ
row_need places = item_need (entry_size places)

-- what a block's rows take of its page
abbrev pub taken : List Row → ℕ
taken rows = sum_by (λ r. row_need (length r.1)) rows

-- a row with a value of so many places fits beside these
abbrev pub HasRoom : List Row → ℕ → Type 0
HasRoom rows places = taken rows + row_need places ≤ PAGE_ROOM

-- ---- values

-- the centres of the lists
abbrev pub centres : IvfGraph → List (List Bool)
centres g = map (λ l. l.centre) g.lists

-- the value has the length of every centre
abbrev pub IsAsLong : IvfGraph → List Bool → Type 0
IsAsLong g bits = All (λ l. length l.centre ≡ length bits) g.lists
