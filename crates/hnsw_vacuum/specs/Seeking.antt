-- The nodes without rows, each found once by looks at all pages.
use Rattle.std.specs.Prelude.{◌≡◌, ℕ, ◌<◌, ◌≤◌, ◌⊎◌, ⊤, false, List, [], ◌∷◌, ◌++◌, map, Option, Some, None}
use Rattle.std.specs.List.{AllByRecursion}
use Rattle.std.specs.declared.cmp.Ordering.TheVariants.{Less}
use Rattle.vec_names.specs.declared.tid.Tid.{Tid}
use Rattle.vec_names.specs.Order.{tid_cmp}
use Rattle.vec_history.specs.declared.event.Act.{Act}
use Rattle.vec_history.specs.declared.stage.Stage.TheVariants.{Repair}
use Rattle.vec_history.specs.Phases.{IsInPhase}
use Rattle.vec_graph.specs.declared.graph.Graph.{Graph}
use Rattle.vec_graph.specs.Graph.{IsDoomedAt}
use Rattle.vec_graph.specs.Effect.{after}
use Rattle.graph_search.specs.Reads.{Answer, AtNode, OfNode, Seen}
use Rattle.vec_steps.specs.Index.{Index}
use Rattle.vec_steps.specs.Desks.{Desk}
use Rattle.hnsw_vacuum.specs.declared.marking.Doomed.{Doomed}
use Rattle.hnsw_vacuum.specs.Courses.{Makes}
use Rattle.hnsw_vacuum.specs.Removing.{IsOfLooks, LooksOnce, SaysNoMore}
use Rattle.hnsw_vacuum.specs.Marking.{AreDoomedApart, StandsDoomed}

-- ---- what is found

abbrev pub places_of : List Doomed → List Tid
places_of found = map (λ (d : Doomed). d.at) found

-- each place is before all those behind it
abbrev pub AreRising : List Tid → Type 0
AreRising [] = ⊤
AreRising (at ∷ places) = AllByRecursion (λ (to : Tid). tid_cmp at to ≡ Less) places × AreRising places

abbrev pub IsFoundAt : Tid → List Doomed → Type 0
IsFoundAt at [] = ⊥
IsFoundAt at (d ∷ found) = (d.at ≡ at) ⊎ IsFoundAt at found

-- These are all the nodes of a graph that stand without rows, by their places, and no other.
pub record AreAllDoomed (g : Graph) (found : List Doomed) : Type 0 where
  pub stand : AllByRecursion (StandsDoomed g) found
  pub rising : AreRising (places_of found)
  pub apart : AreDoomedApart found
  pub all : (at : Tid) → IsDoomedAt g at → IsFoundAt at found

-- A call that only looks; the positions of its looks came to a trace.
abbrev pub MakesLooks : (Index → Type 0) → Desk → List Act → List Act → List ℕ → List ℕ → Type 0
MakesLooks over d old new before now = Makes IsOfLooks SaysNoMore over d old new before now (λ steps. ⊤)

-- ---- on the way

-- the node that a look told, where it is not deleted and no row has its value
abbrev pub doomed_told : Tid → Answer → Option Doomed
doomed_told at (OfNode level version list_at [] bits) = Some (record { at = at; list_at = list_at; version = version })
doomed_told at _ = None

-- the page told the node at this place without rows
pub record IsBare (at : Tid) (s : Seen) : Type 0 where
  pub same : s.at ≡ at
  pub not_deleted : s.deleted ≡ false
  pub no_ids : s.ids ≡ []

abbrev pub IsBareAt : Tid → List Seen → Type 0
IsBareAt at [] = ⊥
IsBareAt at (s ∷ left) = IsBare at s ⊎ IsBareAt at left

abbrev pub places_seen : List Seen → List Tid
places_seen left = map (λ (s : Seen). s.at) left

-- the block is there
abbrev pub HasBlock : List Act → ℕ → Graph → Type 0
HasBlock acts block base = block < (after base acts).blocks

-- The desk's phase Repair stands. Of the blocks below `bound` each node without rows is found, or is among those told that are left to
-- be looked at; none stands on block `count` or behind it.
pub record Seeks (base : Graph) (acts : List Act) (desk bound count : ℕ) (left : List Seen) (found : List Doomed) : Type 0 where
  pub phase : IsInPhase acts desk Repair
  pub there : count ≤ (after base acts).blocks
  pub stand : AllByRecursion (StandsDoomed (after base acts)) found
  pub rising : AreRising (places_of found ++ places_seen left)
  pub below : AllByRecursion (λ (at : Tid). at.block < bound) (places_of found ++ places_seen left)
  pub within : (at : Tid) → IsDoomedAt (after base acts) at → at.block < count
  pub all : (at : Tid) → at.block < bound → IsDoomedAt (after base acts) at → IsFoundAt at found ⊎ IsBareAt at left

-- ---- one look

-- One look at the node of a place, of any version, and what it told of a node without rows.
pub record LooksForDoomed (over : Index → Type 0) (d : Desk) (old new : List Act) (before now : List ℕ) (at : Tid) (node : Option Doomed)
    : Type 0 where
  pub told : Answer
  pub looks : LooksOnce over d old new before now (AtNode at 0 None) told
  pub is : node ≡ doomed_told at told

-- It is the node at this place, which stands without rows; and where there is none, no such node stands there.
abbrev pub TellsDoomed : Graph → Tid → Option Doomed → Type 0
TellsDoomed g at (Some d) = (d.at ≡ at) × StandsDoomed g d
TellsDoomed g at None = IsDoomedAt g at → ⊥
