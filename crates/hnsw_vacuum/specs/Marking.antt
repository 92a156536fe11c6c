-- The last pass of a vacuum: the nodes without rows are deleted.
use Rattle.std.specs.Prelude.{◌≡◌, ℕ, ◌+◌, ◌≤◌, ⊤, List, [], ◌∷◌, length}
use Rattle.std.specs.List.{AllByRecursion}
use Rattle.vec_history.specs.declared.event.Event.TheVariants as event
use Rattle.vec_history.specs.declared.event.Act.{Act}
use Rattle.vec_history.specs.declared.stage.Stage.TheVariants.{Mark}
use Rattle.vec_history.specs.Acts.{IsActAt}
use Rattle.vec_history.specs.Phases.{IsInPhase}
use Rattle.vec_graph.specs.declared.node.Node.{Node}
use Rattle.vec_graph.specs.declared.graph.Graph.{Graph}
use Rattle.vec_graph.specs.Graph.{IsDoomed, IsDoomedAt}
use Rattle.vec_graph.specs.Effect.{after}
use Rattle.vec_graph.specs.Rules.{IsThere}
use Rattle.vec_steps.specs.declared.fault.OpFault.{OpFault}
use Rattle.vec_steps.specs.Index.{Index, OfNodes, OfLists}
use Rattle.vec_steps.specs.Doing.{Step, cleaned, faulted, Cleaned, Cleared, Outdated, Marks}
use Rattle.vec_steps.specs.Desks.{Desk}
use Rattle.hnsw_vacuum.specs.declared.marking.Doomed.{Doomed}
use Rattle.hnsw_vacuum.specs.declared.tally.Tally.{Tally}
use Rattle.hnsw_vacuum.specs.Courses.{Makes, StopsBy}
use Rattle.hnsw_vacuum.specs.Tallies.{ChangesOnce, InTurn, IsIdle, one_less}

-- ---- bases

-- a node without rows stands there, not deleted, of this version and with its list there
pub record StandsDoomed (g : Graph) (s : Doomed) : Type 0 where
  pub node : Node
  pub there : IsThere g s.at s.version node
  pub listed : node.list_at ≡ s.list_at
  pub doomed : IsDoomed node

-- the desk's phase Mark stands, and the node stands without rows
pub record MayMark (base : Graph) (acts : List Act) (desk : ℕ) (s : Doomed) : Type 0 where
  pub phase : IsInPhase acts desk Mark
  pub stands : StandsDoomed (after base acts) s

-- no two of them stand at one place
abbrev pub AreDoomedApart : List Doomed → Type 0
AreDoomedApart [] = ⊤
AreDoomedApart (s ∷ nodes) = AllByRecursion (λ (t : Doomed). t.at ≡ s.at → ⊥) nodes × AreDoomedApart nodes

pub record MayMarkAll (base : Graph) (acts : List Act) (desk : ℕ) (nodes : List Doomed) : Type 0 where
  pub phase : IsInPhase acts desk Mark
  pub stand : AllByRecursion (StandsDoomed (after base acts)) nodes
  pub apart : AreDoomedApart nodes

-- ---- steps

-- a Mark is never stale, and deletes a node without rows
abbrev pub IsDueMark : Graph → Step → Type 0
IsDueMark g (cleaned (Marks at list_at version) Cleared) = IsDoomedAt g at
IsDueMark g (cleaned (Marks at list_at version) _) = ⊥
IsDueMark g _ = ⊤

abbrev pub DeletesDoomed : Index → List Act → Step → Type 0
DeletesDoomed (OfNodes g) acts s = IsDueMark (after g acts) s
DeletesDoomed (OfLists g) acts s = ⊤

-- a Mark, a fault of the disks
abbrev pub IsOfMarks : Step → Type 0
IsOfMarks (cleaned (Marks at list_at version) Cleared) = ⊤
IsOfMarks (cleaned (Marks at list_at version) Outdated) = ⊤
IsOfMarks (faulted count) = ⊤
IsOfMarks _ = ⊥

-- The Marks of a call, which looks nowhere, and only nodes without rows are deleted.
abbrev pub MakesMarks : (Index → Type 0) → Desk → List Act → List Act → (List Step → Type 0) → Type 0
MakesMarks over d old new P = Makes IsOfMarks DeletesDoomed over d old new [] [] P

-- A fault ended such a call: also until then only nodes without rows were deleted.
abbrev pub StopsMarks : (Index → Type 0) → Desk → List Act → List Act → OpFault → Type 0
StopsMarks over d old new fault = StopsBy IsOfMarks DeletesDoomed over d old new fault

-- ---- all of the nodes

-- a Mark is counted where it was done: one node more is deleted, and one change less is left
abbrev pub counts_mark : Cleaned → Tally → Tally
counts_mark Cleared t = record t { marked = t.marked + 1; left = one_less t.left }
counts_mark _ t = t

abbrev pub MarksNode : Doomed → Tally → Tally → List Step → Type 0
MarksNode s before now steps = ChangesOnce (Marks s.at s.list_at s.version) counts_mark before now steps

-- each of them once, in their order, and no other
abbrev pub MarksNodes : List Doomed → Tally → Tally → List Step → Type 0
MarksNodes [] before now steps = IsIdle before now steps
MarksNodes (s ∷ nodes) before now steps = InTurn (MarksNode s) (MarksNodes nodes) before now steps

-- an act of the desk deleted the node
pub record IsDeletedBy (old new : List Act) (desk : ℕ) (s : Doomed) : Type 0 where
  pub position : ℕ
  pub since : length old ≤ position
  pub made : IsActAt new position desk (event.Mark s.at s.list_at s.version)
