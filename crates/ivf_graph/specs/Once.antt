-- A row that stands in a probed list while a search reads is found once.
use Rattle.std.specs.Prelude.{◌≡◌, ℕ, ◌+◌, ◌-◌, ◌≤◌, Bool, List, map, take, drop, slice_get, Contains, Some}
use Rattle.bit_dist.specs.Distances.{hamming_of}
use Rattle.vec_history.specs.declared.event.Act.{Act}
use Rattle.ivf_graph.specs.declared.list.IvfList.{IvfList}
use Rattle.ivf_graph.specs.declared.graph.IvfGraph.{IvfGraph}
use Rattle.ivf_graph.specs.Graph.{Row}
use Rattle.ivf_graph.specs.Effect.{state_after}
use Rattle.ivf_graph.specs.Answer.{Found, by_nearness}
use Rattle.ivf_graph.specs.Lasting.{numbers, place_later, StandsAt}

-- the list of this number is one of the nearest ones that are probed
abbrev pub IsProbed : IvfGraph → List Bool → ℕ → ℕ → Type 0
IsProbed g query probes list = Contains (map (λ e. e.0) (take probes (by_nearness g query))) list

-- the row at a place of a block, from 0, as a search finds it
abbrev pub found_row : List Bool → ℕ → ℕ → Row → Found
found_row query block place row = record { distance = hamming_of row.1 query; id = row.0; block = block; offset = place + 1 }

-- From the position `low` to `high` the row stands on a block of the list: at first at this place, and it is not cut.
pub record StandsIn (base : IvfGraph) (acts : List Act) (low high list block place : ℕ) (row : Row) : Type 0 where
  pub of_list : IvfList
  pub is_list : slice_get (state_after base acts low).lists list ≡ Some of_list
  pub in_chain : Contains (numbers of_list) block
  pub stands : StandsAt (state_after base acts low) block place row
  pub last : ℕ
  pub not_cut : place_later (take (high - low) (drop low acts)) block place ≡ Some last

-- Of the rows found just one is this row: it stood there at a position of the reads, and no other row found is of its block and offset.
pub record IsFoundOnce (base : IvfGraph) (acts : List Act) (low high : ℕ) (query : List Bool) (block place : ℕ) (row : Row)
    (found : List Found) : Type 0 where
  pub position : ℕ
  pub from_low : low ≤ position
  pub to_high : position ≤ high
  pub now : ℕ
  pub moved : place_later (take (position - low) (drop low acts)) block place ≡ Some now
  pub number : ℕ
  pub is : slice_get found number ≡ Some (found_row query block now row)
  pub only : (k : ℕ) (f : Found) → slice_get found k ≡ Some f → f.block ≡ block → f.offset ≡ now + 1 → k ≡ number
