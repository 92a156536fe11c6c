-- What the first pass of a vacuum does: rows that the test calls dead are taken out of the nodes that pages tell.
use Rattle.std.specs.Prelude.{◌≡◌, ◌+◌, ⊤, ℕ, zero, suc, Bool, true, false, List, [], ◌∷◌, ◌++◌, Some}
use Rattle.std.specs.List.{AllByRecursion}
use Rattle.vec_names.specs.declared.tid.Tid.{Tid}
use Rattle.vec_names.specs.declared.heap_id.HeapId.{HeapId}
use Rattle.vec_history.specs.declared.event.Act.{Act}
use Rattle.vec_history.specs.declared.stage.Stage.TheVariants.{Remove}
use Rattle.vec_history.specs.Phases.{IsInPhase}
use Rattle.vec_graph.specs.declared.node.Node.{Node}
use Rattle.vec_graph.specs.declared.graph.Graph.{Graph}
use Rattle.vec_graph.specs.Graph.{node_at}
use Rattle.vec_graph.specs.Effect.{after}
use Rattle.vec_graph.specs.Rules.{IsThere}
use Rattle.graph_search.specs.Reads.{Seen}
use Rattle.vec_steps.specs.declared.fault.OpFault.{OpFault}
use Rattle.vec_steps.specs.Index.{Index, OfNodes, OfLists}
use Rattle.vec_steps.specs.Doing.{Step, cleaned, faulted, Cleaned, Drops, Left, Outdated}
use Rattle.vec_steps.specs.Desks.{Desk}
use Rattle.hnsw_vacuum.specs.Masks.{AreJudged, AreNamed, dead_in, mask_of}
use Rattle.hnsw_vacuum.specs.declared.tally.Tally.{Tally}
use Rattle.hnsw_vacuum.specs.Courses.{Makes, StopsBy}
use Rattle.hnsw_vacuum.specs.Tallies.{ChangesOnce, InTurn, IsIdle, one_less}

-- ---- nodes as pages told them

-- a node stands there of this version, not deleted, with these ids and perhaps more behind them
pub record StandsSeen (g : Graph) (at : Tid) (version : ℕ) (ids : List HeapId) : Type 0 where
  pub node : Node
  pub there : IsThere g at version node
  pub more : List HeapId
  pub front : node.ids ≡ ids ++ more

-- a node that a page told stands so, unless it was deleted
abbrev pub StandsTold : Graph → Seen → Type 0
StandsTold g s = s.deleted ≡ false → StandsSeen g s.at s.version s.ids

-- the desk's phase Remove stands, and the node stands as it was told
pub record MayDrop (base : Graph) (acts : List Act) (desk : ℕ) (s : Seen) : Type 0 where
  pub phase : IsInPhase acts desk Remove
  pub stands : StandsTold (after base acts) s

-- no two of them stand at one place
abbrev pub AreSeenApart : List Seen → Type 0
AreSeenApart [] = ⊤
AreSeenApart (s ∷ seen) = AllByRecursion (λ (t : Seen). t.at ≡ s.at → ⊥) seen × AreSeenApart seen

-- the desk's phase Remove stands, and each of the nodes stands as it was told, each at a place of its own
pub record MayDropAll (base : Graph) (acts : List Act) (desk : ℕ) (seen : List Seen) : Type 0 where
  pub phase : IsInPhase acts desk Remove
  pub stand : AllByRecursion (StandsTold (after base acts)) seen
  pub apart : AreSeenApart seen

-- ---- only the dead

-- each id of the node that the mask names was called dead
pub record NamesDead (Judged : HeapId → Bool → Type 0) (g : Graph) (at : Tid) (gone : ℕ) : Type 0 where
  pub node : Node
  pub stands : node_at g at ≡ Some node
  pub dead : AreNamed (λ id. Judged id true) gone node.ids

-- a Drop is never stale, and takes only ids that were called dead
abbrev pub IsDeadDrop : (HeapId → Bool → Type 0) → Graph → Step → Type 0
IsDeadDrop Judged g (cleaned (Drops at version gone) (Left ids)) = NamesDead Judged g at gone
IsDeadDrop Judged g (cleaned (Drops at version gone) _) = ⊥
IsDeadDrop Judged g _ = ⊤

abbrev pub TakesDead : (HeapId → Bool → Type 0) → Index → List Act → Step → Type 0
TakesDead Judged (OfNodes g) acts s = IsDeadDrop Judged (after g acts) s
TakesDead Judged (OfLists g) acts s = ⊤

-- a Drop, a fault of the disks
abbrev pub IsOfDrops : Step → Type 0
IsOfDrops (cleaned (Drops at version gone) (Left ids)) = ⊤
IsOfDrops (cleaned (Drops at version gone) Outdated) = ⊤
IsOfDrops (faulted count) = ⊤
IsOfDrops _ = ⊥

-- The Drops of a call, which looks nowhere, and only what was called dead is dropped.
abbrev pub MakesDrops : (HeapId → Bool → Type 0) → (Index → Type 0) → Desk → List Act → List Act → (List Step → Type 0) → Type 0
MakesDrops Judged over d old new P = Makes IsOfDrops (TakesDead Judged) over d old new [] [] P

-- A fault ended such a call: also until then only what was called dead was dropped.
abbrev pub StopsDrops : (HeapId → Bool → Type 0) → (Index → Type 0) → Desk → List Act → List Act → OpFault → Type 0
StopsDrops Judged over d old new fault = StopsBy IsOfDrops (TakesDead Judged) over d old new fault

-- ---- all of the dead

-- the ids of a node that the test is asked about
abbrev pub ids_asked : Bool → List HeapId → List HeapId
ids_asked true ids = []
ids_asked false ids = ids

-- a Drop is counted where it was done: so many rows more are out, and one change less is left
abbrev pub counts_drop : ℕ → Cleaned → Tally → Tally
counts_drop dead (Left ids) t = record t { removed = t.removed + dead; left = one_less t.left }
counts_drop dead _ t = t

-- nothing is asked where no id is dead
abbrev pub DropsNamed : Seen → ℕ → ℕ → Tally → Tally → List Step → Type 0
DropsNamed s zero dead before now steps = IsIdle before now steps
DropsNamed s (suc k) dead before now steps = ChangesOnce (Drops s.at s.version (suc k)) (counts_drop dead) before now steps

-- Each id of the node was judged, and one Drop is asked for that names just those called dead, if there are any.
pub record DropsNode (Judged : HeapId → Bool → Type 0) (s : Seen) (before now : Tally) (steps : List Step) : Type 0 where
  pub answers : List Bool
  pub judged : AreJudged Judged (ids_asked s.deleted s.ids) answers
  pub drops : DropsNamed s (mask_of answers) (dead_in answers) before now steps

-- the nodes of a page in their order
abbrev pub DropsNodes : (HeapId → Bool → Type 0) → List Seen → Tally → Tally → List Step → Type 0
DropsNodes Judged [] before now steps = IsIdle before now steps
DropsNodes Judged (s ∷ seen) before now steps = InTurn (DropsNode Judged s) (DropsNodes Judged seen) before now steps
