-- What a call reads of the centres, and which lists are nearest by that.
use Rattle.std.specs.Prelude.{◌≡◌, ℕ, ◌+◌, Bool, List, [], ◌∷◌, length, map, take}
use Rattle.std.specs.List.{flat_map}
use Rattle.list_values.specs.Ranking.{ranked}
use Rattle.vec_history.specs.declared.event.Act.{Act}
use Rattle.ivf_graph.specs.Looks.Look.{AtCentres}
use Rattle.ivf_graph.specs.Looks.Answer.{OfCentres}
use Rattle.vec_steps.specs.declared.seen.Centre.{Centre}
use Rattle.vec_steps.specs.Telling.{centre_told}
use Rattle.vec_steps.specs.Index.{Index}
use Rattle.vec_steps.specs.Desks.{Desk}
use Rattle.ivf_ops.specs.declared.near.Near.{Near}
use Rattle.ivf_ops.specs.Nearness.{is_nearer, near_of}
use Rattle.ivf_ops.specs.Viewing.{View, MadeViews}

-- the looks at blocks of centres, from this one on, each of which told these
abbrev pub page_views : ℕ → List (List Centre) → List View
page_views block [] = []
page_views block (cs ∷ pages) = (AtCentres block, OfCentres (map centre_told cs)) ∷ page_views (block + 1) pages

-- all centres that were told, in their order
abbrev pub all_told : List (List Centre) → List Centre
all_told pages = flat_map (λ cs. cs) pages

-- A call looked at so many blocks of centres, from block 1 on, and at nothing else: it knows how near to the query each list is.
pub record ReadsCentres (over : Index → Type 0) (d : Desk) (old new : List Act) (before now : List ℕ) (query : List Bool) (count : ℕ)
    (nears : List Near) : Type 0 where
  pub pages : List (List Centre)
  pub count_is : length pages ≡ count
  pub made : MadeViews over d old new before now (page_views 1 pages)
  pub nears_are : nears ≡ map (near_of query) (all_told pages)

-- the nearest lists, so many, or all where there are fewer
abbrev pub nearest_lists : ℕ → List Near → List Near
nearest_lists probes nears = take probes (ranked is_nearer nears)
