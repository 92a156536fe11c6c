-- The first pass of a vacuum: what is dead is dropped of the nodes of each page.
use Rattle.std.specs.Prelude.{◌≡◌, ℕ, ◌-◌, ◌≤◌, ⊤, zero, suc, Bool, Option, List, [], ◌∷◌, ◌++◌}
use Rattle.vec_names.specs.declared.tid.Tid.{Tid}
use Rattle.vec_names.specs.declared.heap_id.HeapId.{HeapId}
use Rattle.vec_history.specs.declared.event.Act.{Act}
use Rattle.vec_history.specs.declared.stage.Stage.TheVariants.{Remove}
use Rattle.vec_history.specs.Phases.{IsInPhase}
use Rattle.vec_graph.specs.declared.graph.Graph.{Graph}
use Rattle.vec_graph.specs.Effect.{after}
use Rattle.graph_search.specs.Reads.{Look, Answer, Seen, AtMeta, AtPage, OfMeta, OfPage}
use Rattle.graph_search.specs.Deeds.{looked}
use Rattle.vec_steps.specs.declared.fault.OpFault.{OpFault}
use Rattle.vec_steps.specs.Index.{Index}
use Rattle.vec_steps.specs.Doing.{Step, did, cleaned, faulted, Drops, Left, Outdated}
use Rattle.vec_steps.specs.Desks.{Desk}
use Rattle.vec_steps.specs.Calls.{Does}
use Rattle.hnsw_vacuum.specs.declared.tally.Tally.{Tally}
use Rattle.hnsw_vacuum.specs.Courses.{Makes, StopsBy}
use Rattle.hnsw_vacuum.specs.Tallies.{InTurn, IsIdle}
use Rattle.hnsw_vacuum.specs.Dropping.{DropsNodes, TakesDead}

-- ---- bases

-- the desk's phase Remove stands, and there are so many blocks
pub record MayRemove (base : Graph) (acts : List Act) (desk count : ℕ) : Type 0 where
  pub phase : IsInPhase acts desk Remove
  pub there : count ≤ (after base acts).blocks

-- there are so many blocks
abbrev pub HasBlocks : List Act → ℕ → Graph → Type 0
HasBlocks acts count base = (after base acts).blocks ≡ count

-- ---- steps

-- a look, a fault of the disks
abbrev pub IsOfLooks : Step → Type 0
IsOfLooks (did (looked look told)) = ⊤
IsOfLooks (faulted count) = ⊤
IsOfLooks _ = ⊥

-- nothing is said of a step beside what it is
abbrev pub SaysNoMore : Index → List Act → Step → Type 0
SaysNoMore base acts s = ⊤

-- a look, a Drop, a fault of the disks
abbrev pub IsOfRemove : Step → Type 0
IsOfRemove (did (looked look told)) = ⊤
IsOfRemove (cleaned (Drops at version gone) (Left ids)) = ⊤
IsOfRemove (cleaned (Drops at version gone) Outdated) = ⊤
IsOfRemove (faulted count) = ⊤
IsOfRemove _ = ⊥

-- one look, whose position came to a trace
pub record LooksOnce (over : Index → Type 0) (d : Desk) (old new : List Act) (before now : List ℕ) (look : Look) (told : Answer)
    : Type 0 where
  pub at : ℕ
  pub does : Does over d old new ((at, did (looked look told)) ∷ [])
  pub traced : now ≡ before ++ at ∷ []

-- Looks and Drops of a call, and only what was called dead is dropped.
abbrev pub MakesRemoves : (HeapId → Bool → Type 0) → (Index → Type 0) → Desk → List Act → List Act → List ℕ → List ℕ → (List Step → Type 0)
    → Type 0
MakesRemoves Judged over d old new before now P = Makes IsOfRemove (TakesDead Judged) over d old new before now P

-- A fault ended such a call: also until then only what was called dead was dropped.
abbrev pub StopsRemoves : (HeapId → Bool → Type 0) → (Index → Type 0) → Desk → List Act → List Act → OpFault → Type 0
StopsRemoves Judged over d old new fault = StopsBy IsOfRemove (TakesDead Judged) over d old new fault

-- ---- pages

-- a page was looked at, and what is dead of its nodes dropped
pub record DropsPage (Judged : HeapId → Bool → Type 0) (block : ℕ) (before now : Tally) (steps : List Step) : Type 0 where
  pub nodes : List Seen
  pub drops : List Step
  pub is : DropsNodes Judged nodes before now drops
  pub steps_are : steps ≡ did (looked (AtPage block) (OfPage nodes)) ∷ drops

-- so many pages, from this block on
abbrev pub DropsPages : (HeapId → Bool → Type 0) → ℕ → ℕ → Tally → Tally → List Step → Type 0
DropsPages Judged block zero before now steps = IsIdle before now steps
DropsPages Judged block (suc k) before now steps = InTurn (DropsPage Judged block) (DropsPages Judged (suc block) k) before now steps

-- The whole pass: the meta tuple tells how many blocks there are, and each page from block 1 on is seen to.
pub record RemovesDead (Judged : HeapId → Bool → Type 0) (before now : Tally) (steps : List Step) : Type 0 where
  pub entry : Option Tid
  pub level : ℕ
  pub hint : ℕ
  pub blocks : ℕ
  pub pages : List Step
  pub are : DropsPages Judged 1 (blocks - 1) before now pages
  pub steps_are : steps ≡ did (looked AtMeta (OfMeta entry level hint blocks)) ∷ pages
