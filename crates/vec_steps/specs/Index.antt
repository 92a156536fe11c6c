-- An index of either method, as the base of a history.
use Rattle.std.specs.Prelude.{◌≡◌, List, All, length}
use Rattle.vec_names.specs.declared.params.Params.{Params}
use Rattle.vec_names.specs.Params.{IsInRange}
use Rattle.vec_names.specs.declared.params.Kind.TheVariants.{Hnsw, Ivf}
use Rattle.vec_history.specs.declared.event.Act.{Act}
use Rattle.vec_graph.specs.declared.graph.Graph.{Graph}
use Rattle.vec_graph.specs.Shaped as nodes
use Rattle.vec_graph.specs.Legal as nodes_history
use Rattle.ivf_graph.specs.declared.graph.IvfGraph.{IvfGraph}
use Rattle.ivf_graph.specs.Graph as lists
use Rattle.ivf_graph.specs.Legal as lists_history

pub data Index : Type 0 where
  OfNodes : (graph : Graph) → Index
  OfLists : (graph : IvfGraph) → Index

-- pages can hold it: in a graph of nodes each stands as it must; in an index of lists each block stands once
abbrev pub IsShaped : Index → Type 0
IsShaped (OfNodes g) = nodes.IsShaped g
IsShaped (OfLists g) = lists.AreBlocksOwn g

-- each act is allowed after the acts before it
abbrev pub IsLegal : Index → List Act → Type 0
IsLegal (OfNodes g) acts = nodes_history.IsLegal g acts
IsLegal (OfLists g) acts = lists_history.IsLegal g acts

-- a graph has these parameters; an index of lists has so many lists, with centres of so many places
abbrev pub HasParams : Index → Params → Type 0
HasParams (OfNodes g) p = (p.kind ≡ Hnsw) × (g.params ≡ p)
HasParams (OfLists g) p = (p.kind ≡ Ivf) × (length g.lists ≡ p.lists) × All (λ l. length l.centre ≡ p.bits) g.lists

-- these are the index's parameters, each in its range
pub record IsOfParams (p : Params) (base : Index) : Type 0 where
  pub in_range : IsInRange p
  pub has : HasParams base p
