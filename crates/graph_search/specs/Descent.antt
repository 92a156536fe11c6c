-- From the entry point down to a layer: the HNSW paper's Algorithm 5 above its lowest layer, and Algorithm 1 above the new node's level.
use Rattle.std.specs.Prelude.{◌≡◌, ℕ, zero, suc, ◌+◌, ◌-◌, Bool, List, [], ◌∷◌, ◌++◌, Option, Some, None}
use Rattle.vec_names.specs.declared.tid.Tid.{Tid}
use Rattle.vec_names.specs.declared.params.Ops.{Ops}
use Rattle.neighbour_pick.specs.declared.found.Found.{Found}
use Rattle.graph_search.specs.Reads.{Look, AtMeta, AtNode, Answer, OfMeta}
use Rattle.graph_search.specs.Search.{Start, element_of, LayerSearch}

-- what a search of one layer found is where the next begins; where it found nothing, that begins where this one did
abbrev pub or_from : List Found → List Found → List Found
or_from [] from = from
or_from (e ∷ es) from = e ∷ es

abbrev pub start_at : Ops → List Bool → List Found → ℕ → Start
start_at ops query from layer = record { ops = ops; query = query; from = from; layer = layer }

-- one search with ef 1 for each of so many layers, this one the lowest but so many
pub record LayersDown (deeper : List Found → List (Look × Answer) → Type 0) (s : Start) (reads : List (Look × Answer)) : Type 0 where
  pub first : List (Look × Answer)
  pub found : List Found
  pub search : LayerSearch s 1 first found
  pub later : List (Look × Answer)
  pub deeper_is : deeper (or_from found s.from) later
  pub reads_are : reads ≡ first ++ later

-- so many layers above the layer `to` are searched, the highest first; `result` is where the search of `to` begins
abbrev pub IsLowered : Ops → List Bool → ℕ → ℕ → List Found → List (Look × Answer) → List Found → Type 0
IsLowered ops query to zero from reads result = (reads ≡ []) × (result ≡ from)
IsLowered ops query to (suc k) from reads result =
    LayersDown (λ next later. IsLowered ops query to k next later result) (start_at ops query from (to + suc k)) reads

-- The descent to layer `to`: the meta tuple, then the entry point at its level, and then the layers above. `top` is the
-- entry point's level. Without an entry point, or where it is gone, there is none, and nothing to begin from.
pub data Descent (ops : Ops) (query : List Bool) (to : ℕ) : List (Look × Answer) → Option ℕ → List Found → Type 0 where
  no_entry : (level hint blocks : ℕ) → Descent ops query to ((AtMeta, OfMeta None level hint blocks) ∷ []) None []
  entry_gone : (at : Tid) (level hint blocks : ℕ) (told : Answer) → element_of ops query at told ≡ []
      → Descent ops query to ((AtMeta, OfMeta (Some at) level hint blocks) ∷ (AtNode at level None, told) ∷ []) None []
  lowered : (at : Tid) (level hint blocks : ℕ) (told : Answer) (e : Found) (reads : List (Look × Answer)) (from : List Found)
      → element_of ops query at told ≡ e ∷ [] → IsLowered ops query to (level - to) (e ∷ []) reads from
      → Descent ops query to ((AtMeta, OfMeta (Some at) level hint blocks) ∷ (AtNode at level None, told) ∷ reads) (Some level) from
