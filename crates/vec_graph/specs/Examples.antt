-- Histories as an index has them: the first insert, and a vacuum.
use Rattle.std.specs.Prelude.{ℕ, Bool, List, [], ◌∷◌, Some, None}
use Rattle.vec_names.specs.declared.tid.Tid.{Tid}
use Rattle.vec_names.specs.declared.heap_id.HeapId.{HeapId}
use Rattle.vec_history.specs.declared.event.Event.TheVariants as event
use Rattle.vec_history.specs.declared.event.Act.{Act}
use Rattle.vec_history.specs.declared.gate.Gate.TheVariants.{Update, Scan, Vacuum}
use Rattle.vec_history.specs.declared.gate.Hold.TheVariants.{Alone}
use Rattle.vec_history.specs.declared.stage.Stage.TheVariants.{Remove, Repair, Mark}
use Rattle.vec_history.specs.Acts.{act_of}

-- what a desk does to put the first node, of level 0, where m is 2
abbrev pub first_insert : ℕ → Tid → Tid → HeapId → List Bool → List Act
first_insert desk at list_at id bits =
    act_of desk (event.Gate Update Alone)
    ∷ act_of desk (event.Put at list_at 1 0 id bits (None ∷ None ∷ None ∷ None ∷ []))
    ∷ act_of desk (event.Entry (Some at) 0)
    ∷ act_of desk (event.Ungate Update)
    ∷ []

-- what a desk does in a vacuum of an index that has no node
abbrev pub idle_vacuum : ℕ → List Act
idle_vacuum desk =
    act_of desk (event.Gate Vacuum Alone)
    ∷ act_of desk (event.Phase Remove)
    ∷ act_of desk (event.Gate Update Alone)
    ∷ act_of desk (event.Ungate Update)
    ∷ act_of desk (event.Phase Repair)
    ∷ act_of desk (event.Gate Scan Alone)
    ∷ act_of desk (event.Ungate Scan)
    ∷ act_of desk (event.Phase Mark)
    ∷ act_of desk event.VacuumEnd
    ∷ act_of desk (event.Ungate Vacuum)
    ∷ []
