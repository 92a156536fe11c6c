-- What a search of the lists answers.
use Rattle.std.specs.Prelude.{ℕ, ◌+◌, Bool, List, [], ◌∷◌, map, take}
use Rattle.std.specs.List.{flat_map, enumerate_from}
use Rattle.std.specs.declared.cmp.Ordering.{Ordering}
use Rattle.std.specs.Ordering.{nat_cmp, ordering_then, is_lt}
use Rattle.vec_names.specs.declared.heap_id.HeapId.{HeapId}
use Rattle.vec_names.specs.Order.{heap_id_cmp}
use Rattle.bit_dist.specs.declared.dist.Dist.{Dist}
use Rattle.bit_dist.specs.Distances.{hamming_of, dist_cmp}
use Rattle.bit_dist.specs.Hits.{Hit}
use Rattle.list_values.specs.Ranking.{ranked}
use Rattle.ivf_graph.specs.declared.list.IvfList.{IvfList}
use Rattle.ivf_graph.specs.declared.graph.IvfGraph.{IvfGraph}
use Rattle.ivf_graph.specs.Graph.{Row, Part}
use Rattle.ivf_graph.specs.Looks.{RowSeen}

-- ---- which lists are probed

-- the distance of a list's centre to the query, and the list's number
abbrev pub Near : Type 0
Near = Dist × ℕ

abbrev pub near_cmp : Near → Near → Ordering
near_cmp a b = ordering_then (dist_cmp a.0 b.0) (nat_cmp a.1 b.1)

abbrev pub nearness : List Bool → (ℕ × IvfList) → Near
nearness query e = (hamming_of e.1.centre query, e.0)

abbrev pub is_nearer : List Bool → (ℕ × IvfList) → (ℕ × IvfList) → Bool
is_nearer query a b = is_lt (near_cmp (nearness query a) (nearness query b))

-- the lists with their numbers, the nearest first, and of two as near the one of the lower number
abbrev pub by_nearness : IvfGraph → List Bool → List (ℕ × IvfList)
by_nearness g query = ranked (is_nearer query) (enumerate_from 0 g.lists)

-- the lists that a search probes, nearest first: all of them where there are fewer
abbrev pub probed : IvfGraph → List Bool → ℕ → List IvfList
probed g query probes = map (λ e. e.1) (take probes (by_nearness g query))

-- ---- the rows read

-- a row as read: its distance to the query, its name in the table, and the block and the offset where it stands
pub record Found : Type 0 where
  pub distance : Dist
  pub id : HeapId
  pub block : ℕ
  pub offset : ℕ

-- the rows of a block, of which the first has this offset
abbrev pub found_from : List Bool → ℕ → ℕ → List Row → List Found
found_from query block offset [] = []
found_from query block offset (r ∷ rows) =
    record { distance = hamming_of r.1 query; id = r.0; block = block; offset = offset } ∷ found_from query block (offset + 1) rows

abbrev pub found_on : List Bool → Part → List Found
found_on query p = found_from query p.0 1 p.1

-- the row that a look at a block saw
abbrev pub found_by : List Bool → ℕ → RowSeen → Found
found_by query block r = record { distance = hamming_of r.bits query; id = r.id; block = block; offset = r.offset }

-- the rows of the probed lists, along their chains
abbrev pub found : IvfGraph → List Bool → ℕ → List Found
found g query probes = flat_map (λ l. flat_map (found_on query) l.chain) (probed g query probes)

-- ---- the answer

-- by distance, then by name, then by the place in the index
abbrev pub found_cmp : Found → Found → Ordering
found_cmp a b = ordering_then (dist_cmp a.distance b.distance)
    (ordering_then (heap_id_cmp a.id b.id) (ordering_then (nat_cmp a.block b.block) (nat_cmp a.offset b.offset)))

abbrev pub hit_of : Found → Hit
hit_of f = (f.distance, f.id)

abbrev pub hit_of_row : List Bool → Row → Hit
hit_of_row query r = (hamming_of r.1 query, r.0)

-- the rows found, in order
abbrev pub answer_of : List Found → List Hit
answer_of fs = map hit_of (ranked (λ a b. is_lt (found_cmp a b)) fs)

-- the rows of the lists that are probed for a query, in order
abbrev pub ivf_answer : IvfGraph → List Bool → ℕ → List Hit
ivf_answer g query probes = answer_of (found g query probes)
