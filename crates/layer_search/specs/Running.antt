-- What the parts of a layer's search do.
use Rattle.std.specs.Prelude.{◌≡◌, ℕ, Bool, min, List, [], ◌∷◌, map, Option, Some, None}
use Rattle.vec_names.specs.declared.tid.Tid.{Tid}
use Rattle.vec_names.specs.declared.params.Ops.{Ops}
use Rattle.vec_history.specs.declared.event.Act.{Act}
use Rattle.neighbour_pick.specs.declared.found.Found.{Found}
use Rattle.graph_search.specs.Reads.{Answer, AtList, AtMeta, AtNode, Look, OfMeta}
use Rattle.graph_search.specs.Search.{LayerSearch, Start, Turn, course_reads, element_of, elements_of, named_in, turn_reads}
use Rattle.graph_search.specs.Descent.{Descent, IsLowered}
use Rattle.graph_search.specs.Scan.{Held, after_turn}
use Rattle.graph_search.specs.ByHolding.{AreTurnsOf, HoldTheSame, after_turns, unnamed}
use Rattle.search_sets.specs.declared.spot.Spot.{Spot}
use Rattle.search_sets.specs.Standing.{with_elements}
use Rattle.vec_steps.specs.Index.{Index}
use Rattle.vec_steps.specs.Desks.{Desk}
use Rattle.layer_search.specs.Waiting.{AreLong}
use Rattle.layer_search.specs.Looking.{MadeLooks}

-- a look at one layer of the list of the element that stands here
abbrev pub list_look : Spot → ℕ → Look
list_look s layer = AtList s.at s.list_at s.level s.version layer

-- looks at nodes that reach a layer, of any version
abbrev pub node_reads : ℕ → List (Tid × Answer) → List (Look × Answer)
node_reads layer nodes = map (λ n. (AtNode n.0 layer None, n.1)) nodes

-- The nodes at these places were looked at, in their order. The elements that this told became known, with values of so many places.
pub record LooksAll (over : Index → Type 0) (d : Desk) (old new : List Act) (before now : List ℕ) (s : Start) (long : ℕ) (g h : Held)
    (places : List Tid) : Type 0 where
  pub nodes : List (Tid × Answer)
  pub places_are : map (λ n. n.0) nodes ≡ places
  pub left : HoldTheSame h (with_elements (elements_of s.ops s.query nodes) g)
  pub made : MadeLooks over d old new before now (node_reads s.layer nodes)
  pub are_long : AreLong long (elements_of s.ops s.query nodes)

-- One turn was made: of the least that waited, with looks at just the places that were not named.
pub record Expands (over : Index → Type 0) (d : Desk) (old new : List Act) (before now : List ℕ) (s : Start) (g h : Held) : Type 0 where
  pub turn : Turn
  pub rest : List Found
  pub least : g.unexpanded ≡ turn.element ∷ rest
  pub looks : map (λ n. n.0) turn.nodes ≡ unnamed g.is_named (named_in turn.list)
  pub left : HoldTheSame h (after_turn s turn g)
  pub made : MadeLooks over d old new before now (turn_reads s.layer turn)

-- So many turns were made, as the search is defined, and their looks.
pub record GoesOnSo (over : Index → Type 0) (d : Desk) (old new : List Act) (before now : List ℕ) (s : Start) (ef : ℕ) (most : Option ℕ)
    (g h : Held) : Type 0 where
  pub turns : List Turn
  pub are_turns : AreTurnsOf s ef most g turns
  pub left : HoldTheSame h (after_turns s turns g)
  pub made : MadeLooks over d old new before now (course_reads s.layer turns)

-- A call searched a layer: its looks are those of the search, in their order, and this is what the search finds.
pub record SearchesLayer (over : Index → Type 0) (d : Desk) (old new : List Act) (before now : List ℕ) (s : Start) (ef : ℕ)
    (result : List Found) : Type 0 where
  pub reads : List (Look × Answer)
  pub made : MadeLooks over d old new before now reads
  pub search : LayerSearch s ef reads result

-- ---- from the entry point down

-- the layer that is searched next after a descent to a layer: this one, or the entry point's level where that is lower
abbrev pub next_layer : ℕ → Option ℕ → ℕ
next_layer to None = to
next_layer to (Some top) = min to top

-- So many layers were searched, each from what the one above found, down to where the next search begins.
pub record Lowers (over : Index → Type 0) (d : Desk) (old new : List Act) (before now : List ℕ) (ops : Ops) (query : List Bool)
    (to layers : ℕ) (first result : List Found) : Type 0 where
  pub reads : List (Look × Answer)
  pub made : MadeLooks over d old new before now reads
  pub lowered : IsLowered ops query to layers first reads result

-- The look at the meta tuple, and then the look at the entry point, at its level. Where there is one, it is where the descent begins.
pub data IsEntered (ops : Ops) (query : List Bool) : List (Look × Answer) → Option ℕ → List Found → Type 0 where
  no_entry : (level hint blocks : ℕ) → IsEntered ops query ((AtMeta, OfMeta None level hint blocks) ∷ []) None []
  entry_gone : (at : Tid) (level hint blocks : ℕ) (told : Answer) → element_of ops query at told ≡ []
      → IsEntered ops query ((AtMeta, OfMeta (Some at) level hint blocks) ∷ (AtNode at level None, told) ∷ []) None []
  there : (at : Tid) (level hint blocks : ℕ) (told : Answer) (e : Found) → element_of ops query at told ≡ e ∷ []
      → IsEntered ops query ((AtMeta, OfMeta (Some at) level hint blocks) ∷ (AtNode at level None, told) ∷ []) (Some level) (e ∷ [])

-- A call looked for the entry point, and found this.
pub record Enters (over : Index → Type 0) (d : Desk) (old new : List Act) (before now : List ℕ) (ops : Ops) (query : List Bool)
    (top : Option ℕ) (from : List Found) : Type 0 where
  pub reads : List (Look × Answer)
  pub made : MadeLooks over d old new before now reads
  pub entered : IsEntered ops query reads top from

-- the entry point's level, 0 where there is none
abbrev pub level_of : Option ℕ → ℕ
level_of None = 0
level_of (Some top) = top

-- A call descended to a layer: its looks are those of the descent, and it leads to these elements.
pub record Descends (over : Index → Type 0) (d : Desk) (old new : List Act) (before now : List ℕ) (ops : Ops) (query : List Bool) (to : ℕ)
    (top : Option ℕ) (from : List Found) : Type 0 where
  pub reads : List (Look × Answer)
  pub made : MadeLooks over d old new before now reads
  pub descent : Descent ops query to reads top from
