-- What a look at a page of the lists tells.
use Rattle.std.specs.Prelude.{ℕ, ◌+◌, ◌-◌, ◌*◌, ◌==◌, ◌&&◌, nat_le, if◌then◌else◌, Bool, List, [], ◌∷◌, find, length, map, slice_get, take, drop, Option, Some, None}
use Rattle.std.specs.List.{flat_map, enumerate_from}
use Rattle.std.specs.Option.{option_map, option_and_then}
use Rattle.std.specs.Int.{div_ceil}
use Rattle.index_sizes.specs.Sizes.{centres_on_page}
use Rattle.vec_names.specs.declared.heap_id.HeapId.{HeapId}
use Rattle.ivf_graph.specs.declared.list.IvfList.{IvfList}
use Rattle.ivf_graph.specs.declared.graph.IvfGraph.{IvfGraph}
use Rattle.ivf_graph.specs.Graph.{Row, Part, rows_on}

-- ---- chains

-- the block that begins a chain
abbrev pub first_block : List Part → Option ℕ
first_block chain = option_map (λ p. p.0) (slice_get chain 0)

-- each block of a chain, with the block behind it
abbrev pub links : List Part → List (ℕ × Option ℕ)
links [] = []
links (p ∷ chain) = (p.0, first_block chain) ∷ links chain

abbrev pub all_links : IvfGraph → List (ℕ × Option ℕ)
all_links g = flat_map (λ l. links l.chain) g.lists

-- the block behind a block in its chain, if there is one
abbrev pub next_on : IvfGraph → ℕ → Option ℕ
next_on g block = option_and_then (λ e. e.1) (find (λ e. e.0 == block) (all_links g))

-- ---- centres

-- of a list: its number, its centre, its aim, and the block that begins its chain
pub record Centre : Type 0 where
  pub list : ℕ
  pub bits : List Bool
  pub aim : ℕ
  pub first : Option ℕ

abbrev pub centre_of : (ℕ × IvfList) → Centre
centre_of e = record { list = e.0; bits = e.1.centre; aim = e.1.aim; first = first_block e.1.chain }

-- the centres of so many lists, from that of a number on
abbrev pub centres_on : ℕ → ℕ → IvfGraph → List Centre
centres_on count from g = map centre_of (take count (drop from (enumerate_from 0 g.lists)))

-- on how many pages the centres of so many lists stand
abbrev pub centre_pages : ℕ → ℕ → ℕ
centre_pages places lists = div_ceil lists (centres_on_page places)

-- the block has centres, which have so many places: these blocks are the first behind block 0
abbrev pub is_of_centres : ℕ → IvfGraph → ℕ → Bool
is_of_centres places g block = nat_le 1 block && nat_le block (centre_pages places (length g.lists))

-- the centres on such a block: each block before it is full
abbrev pub centres_of_block : ℕ → ℕ → IvfGraph → List Centre
centres_of_block places block g = centres_on (centres_on_page places) ((block - 1) * centres_on_page places) g

-- ---- rows

-- a row with the offset where it stands
pub record RowSeen : Type 0 where
  pub offset : ℕ
  pub id : HeapId
  pub bits : List Bool

-- the rows of a block, of which the first has this offset
abbrev pub seen_from : ℕ → List Row → List RowSeen
seen_from offset [] = []
seen_from offset (r ∷ rows) = record { offset = offset; id = r.0; bits = r.1 } ∷ seen_from (offset + 1) rows

-- ---- looks and answers

-- a look at a block of centres, and at a block of rows
pub data Look : Type 0 where
  AtCentres : (block : ℕ) → Look
  AtRows : (block : ℕ) → Look

-- the centres by their lists; the rows by their offsets, and the block behind this one in its chain
pub data Answer : Type 0 where
  OfCentres : (centres : List Centre) → Answer
  OfRows : (rows : List RowSeen) (next : Option ℕ) → Answer

-- what the look is told in this state, where the centres have so many places: nothing where the block is not such a one
abbrev pub told_of : ℕ → IvfGraph → Look → Option Answer
told_of places g (Look.AtCentres block) =
    if is_of_centres places g block then Some (Answer.OfCentres (centres_of_block places block g)) else None
told_of places g (Look.AtRows block) = option_map (λ rows. Answer.OfRows (seen_from 1 rows) (next_on g block)) (rows_on g block)
