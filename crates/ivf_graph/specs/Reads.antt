-- What a search of the lists answers where each of its reads has a position of its own: first the pages of the centres,
-- rising, and then the blocks of each probed chain, nearest list first.
use Rattle.std.specs.Prelude.{◌≡◌, ℕ, ◌+◌, ◌≤◌, Bool, List, [], ◌∷◌, ◌++◌, length, map, take, drop, Option, Some, None}
use Rattle.vec_history.specs.Acts.{IsRising}
use Rattle.std.specs.List.{filter_map}
use Rattle.std.specs.Ordering.{is_lt}
use Rattle.bit_dist.specs.Distances.{hamming_of}
use Rattle.bit_dist.specs.Hits.{Hit}
use Rattle.list_values.specs.Ranking.{ranked}
use Rattle.vec_history.specs.declared.event.Act.{Act}
use Rattle.ivf_graph.specs.declared.graph.IvfGraph.{IvfGraph}
use Rattle.ivf_graph.specs.Graph.{Row, rows_on}
use Rattle.ivf_graph.specs.Effect.{state_after}
use Rattle.ivf_graph.specs.Looks.{next_on, Centre, centre_pages, centres_of_block}
use Rattle.ivf_graph.specs.Answer.{near_cmp, Found, found_on, answer_of}

-- ---- the pages of the centres

-- the centres told by a read of each page, from that on a block on, rising, each in a state of its own
abbrev pub centres_read : ℕ → ℕ → List IvfGraph → List Centre
centres_read places block [] = []
centres_read places block (g ∷ states) = centres_of_block places block g ++ centres_read places (block + 1) states

-- ---- the chains

abbrev pub is_centre_nearer : List Bool → Centre → Centre → Bool
is_centre_nearer query a b = is_lt (near_cmp (hamming_of a.bits query, a.list) (hamming_of b.bits query, b.list))

-- where the chains begin that are probed, nearest list first
abbrev pub firsts : List Bool → ℕ → List Centre → List ℕ
firsts query probes centres = filter_map (λ c. c.first) (take probes (ranked (is_centre_nearer query) centres))

-- The rows found in states, one for each read, where a chain goes on at a block or has ended, and then the chains of
-- these first blocks come.
pub data Walks (query : List Bool) : List IvfGraph → Option ℕ → List ℕ → List Found → Type 0 where
  done : Walks query [] None [] []
  begins : (states : List IvfGraph) (first : ℕ) (others : List ℕ) (fs : List Found)
      → Walks query states (Some first) others fs → Walks query states None (first ∷ others) fs
  reads : (g : IvfGraph) (states : List IvfGraph) (block : ℕ) (rows : List Row) (others : List ℕ) (fs : List Found)
      → rows_on g block ≡ Some rows → Walks query states (next_on g block) others fs
      → Walks query (g ∷ states) (Some block) others (found_on query (block, rows) ++ fs)

-- ---- the answer

-- the answer of a search that made one read in each of these states, and no more
pub record IsAnswerFrom (states : List IvfGraph) (lists : ℕ) (query : List Bool) (probes : ℕ) (answer : List Hit) : Type 0 where
  pub enough : centre_pages (length query) lists ≤ length states
  pub found : List Found
  pub walked : Walks query (drop (centre_pages (length query) lists) states) None
      (firsts query probes (centres_read (length query) 1 (take (centre_pages (length query) lists) states))) found
  pub in_order : answer ≡ answer_of found

-- the answer of a search whose reads had these positions, which the history reaches, one after the other
pub record IsAnswerAt (base : IvfGraph) (acts : List Act) (positions : List ℕ) (query : List Bool) (probes : ℕ)
    (answer : List Hit) : Type 0 where
  pub rising : IsRising 0 positions (length acts)
  pub answers : IsAnswerFrom (map (state_after base acts) positions) (length base.lists) query probes answer
