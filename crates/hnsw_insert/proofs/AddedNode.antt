-- A new node is put and linked, call after call.
use Rattle.std.proofs.Common.{◌≡◌, ℕ, Bool, List, Option, ap}
use Rattle.vec_names.specs.declared.tid.Tid.{Tid}
use Rattle.vec_names.specs.declared.heap_id.HeapId.{HeapId}
use Rattle.vec_history.specs.declared.event.Act.{Act}
use Rattle.vec_history.specs.declared.gate.Gate.TheVariants.{Update}
use Rattle.vec_history.specs.Gates.{Holds}
use Rattle.vec_graph.specs.declared.place.Place.{Place}
use Rattle.neighbour_pick.specs.declared.found.Found.{Found}
use Rattle.vec_steps.specs.declared.ask.NewNode.{NewNode}
use Rattle.vec_steps.specs.Telling as telling
use Rattle.vec_steps.specs.Index.{Index, IsLegal, IsShaped}
use Rattle.vec_steps.specs.Desks.{Desk}
use Rattle.hnsw_insert.specs.Over.{MayAdd, MayFinish, OverGraphs, OverNodes}
use Rattle.hnsw_insert.specs.Courses.{Did}
use Rattle.hnsw_insert.specs.Parts.{PlacesNode}
use Rattle.hnsw_insert.proofs.Made.{did_over}
use Rattle.hnsw_insert.proofs.Lasts.{nodes_on}
use Rattle.hnsw_insert.proofs.Puts.{Placing}
use Rattle.hnsw_insert.proofs.Under.{add_on, added_on, place_on}

abbrev pub Adding : (Index → Type 0) → List Act → ℕ → ℕ → ℕ → ℕ → List Bool → List (Option Tid) → List (ℕ × Found) → Index → Type 0
Adding stands acts desk hint blocks level bits lists picks = OverGraphs stands (λ g. MayAdd g acts desk hint blocks level bits lists picks)

pub plain : {stands : Index → Type 0} {A : _} (base : Index) → OverGraphs stands A base → OverNodes stands base
plain base o = nodes_on base o.stood o

module _ {stands later : Index → Type 0} {d e : Desk} {old mid : List Act} (hint blocks level : ℕ) (bits : List Bool) (lists : List (Option Tid)) (picks : List (ℕ × Found))
    (same : e ≡ d) (shaped : (base : Index) → later base → IsShaped base) (legal : (base : Index) → later base → IsLegal base mid) where
  -- after a call that asks nothing of a base
  pub after_quiet : {before now : List ℕ} {ds : _} → ((base : Index) → OverNodes stands base → later base) → Did (OverNodes stands) d old mid before now ds → (base : Index)
      → Adding stands old d.number hint blocks level bits lists picks base → Adding later mid e.number hint blocks level bits lists picks base
  after_quiet still m base o =
      let st = still base (plain base o) in
      add_on same m base st (shaped base st) (legal base st) hint blocks level bits lists picks o

  -- after the Put
  pub after_put : {place : Place} (node : NewNode) (id : HeapId) → node ≡ record { level = level; id = id; bits = bits; lists = lists } → Holds old d.number Update
      → ((base : Index) → Placing stands old d.number hint blocks node base → later base)
      → PlacesNode (Placing stands old d.number hint blocks node) d old mid (telling.node_of node) hint blocks place → (base : Index)
      → Adding stands old d.number hint blocks level bits lists picks base → OverGraphs later (λ g. MayFinish g mid e.number level place picks) base
  after_put node id is held still p base o =
      let may = place_on hint blocks node level id bits lists picks is base o in
      let st = still base may in
      added_on level bits lists picks same (ap (λ (n : NewNode). n.level) is) held p base st (shaped base st) (legal base st) may o

pub places_over : {more fewer : Index → Type 0} {d : Desk} {old new : List Act} {n : _} {hint blocks : ℕ} {place : Place} → ((base : Index) → fewer base → more base)
    → PlacesNode more d old new n hint blocks place → PlacesNode fewer d old new n hint blocks place
places_over on p = record { deeds = p.deeds; made = λ trace. did_over on (p.made trace); placed = p.placed }
