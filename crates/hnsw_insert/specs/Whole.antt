-- The insert theorem: what a whole insert does, and how a fault ends it.
use Rattle.std.specs.Prelude.{◌≡◌, ◌≢◌, ◌-◌, ℕ, ◌⊎◌, Bool, List, [], ◌∷◌, ◌++◌, true, false, filter}
use Rattle.vec_names.specs.declared.heap_id.HeapId.{HeapId}
use Rattle.vec_names.specs.Levels.{level_of}
use Rattle.vec_history.specs.declared.event.Event.{Event}
use Rattle.vec_history.specs.declared.event.Event.TheVariants as event
use Rattle.vec_history.specs.declared.event.Act.{Act}
use Rattle.vec_history.specs.declared.gate.Gate.{Gate}
use Rattle.vec_history.specs.declared.gate.Gate.TheVariants.{Update}
use Rattle.vec_history.specs.Gates.{Holds}
use Rattle.graph_search.specs.Deeds.{Deed, Done, Releases, asked, is_of_row, own_events}
use Rattle.graph_search.specs.Insert.{InsertCourse, MetaTold, Newcomer, Opens, Outcome, WholeInsert}
use Rattle.vec_steps.specs.declared.fault.OpFault.{OpFault}
use Rattle.vec_steps.specs.declared.fault.OpFault.TheVariants as op
use Rattle.vec_steps.specs.Index.{Index}
use Rattle.vec_steps.specs.Doing.{Step}
use Rattle.vec_steps.specs.Desks.{Desk}
use Rattle.vec_steps.specs.Calls.{AreDeeds}
use Rattle.hnsw_insert.specs.declared.landing.Landing.{Landing}
use Rattle.hnsw_insert.specs.declared.landing.Inserted.{Inserted}
use Rattle.hnsw_insert.specs.Courses.{IsOfInsert, KeepsGate, StopsBy, Went}
use Rattle.hnsw_insert.specs.Parts.{IsFullFor, landed}

abbrev pub landing_of : Inserted → Landing
landing_of i = record { at = i.at; version = i.version; level = i.level; joined = i.joined }

-- A call inserted the newcomer with this id, from gate to gate.
pub record InsertsOnce (over : Index → Type 0) (d : Desk) (old new : List Act) (before now : List ℕ) (n : Newcomer) (id : HeapId)
    (landing : Landing) : Type 0 where
  pub outcome : Outcome
  pub landing_is : landing ≡ landed n.level outcome
  pub told : MetaTold
  pub front : List Deed
  pub opens : Opens n.level told front
  pub under : List Deed
  pub course : InsertCourse n id told.hint told.blocks outcome under
  pub made : Went over d old new before now ((front ++ under) ++ asked (Releases Update) Done ∷ [])

-- An insert was made of a row with this id and value, by this word: its own acts are those of these deeds, each at its own position,
-- and it tells where the row came to stand and where it looked.
pub record Inserts (over : Index → Type 0) (d : Desk) (old new : List Act) (id : HeapId) (bits : List Bool) (word : ℕ)
    (inserted : Inserted) : Type 0 where
  pub outcome : Outcome
  pub landing_is : landing_of inserted ≡ landed (level_of word d.params.m) outcome
  pub deeds : List Deed
  pub whole : WholeInsert d.params id bits word outcome deeds
  pub made : Went over d old new [] inserted.trace.reads deeds

-- An event that gives the index the row of an insert: a Join of its id by the node that is told, or the Put of that node.
abbrev pub IsRowOf : HeapId → List Bool → ℕ → Inserted → Event → Type 0
IsRowOf id bits level i (event.Join at version other) = (at ≡ i.at) × (version ≡ i.version) × (other ≡ id) × (i.joined ≡ true)
IsRowOf id bits level i (event.Put at list_at version high other value lists) =
    (at ≡ i.at) × (version ≡ i.version) × (high ≡ level) × (i.level ≡ level) × (other ≡ id) × (value ≡ bits) × (i.joined ≡ false)
IsRowOf id bits level i _ = ⊥

-- Of the desk's own acts that came to the history one gives the index a row: this row, at this level if it is a new node's.
pub record HasOneRow (desk : ℕ) (old new : List Act) (id : HeapId) (bits : List Bool) (level : ℕ) (inserted : Inserted) : Type 0 where
  pub more : List Act
  pub all : new ≡ old ++ more
  pub one : Event
  pub only : filter is_of_row (own_events desk more) ≡ one ∷ []
  pub is : IsRowOf id bits level inserted one

-- No block is left for a node of this level: after the gate was taken, each block from the hint to the last as the meta tuple
-- told had no room, and then the index had as many blocks as it may.
pub record IsFull (level : ℕ) (course : List (ℕ × Step)) (blocks need : ℕ) : Type 0 where
  pub told : MetaTold
  pub front : List Deed
  pub opens : Opens level told front
  pub opening : List (ℕ × Step)
  pub opening_is : AreDeeds opening front
  pub rest : List (ℕ × Step)
  pub full : IsFullFor level (told.blocks - told.hint) told.hint rest blocks need
  pub behind : List (ℕ × Step)
  pub course_is : course ≡ (opening ++ rest) ++ behind

-- the desk holds the gate no more; or to release it failed
abbrev pub GivesGate : (Index → Type 0) → Desk → List Act → Type 0
GivesGate over d new = (Holds new d.number Update → ⊥) ⊎ KeepsGate over d new

-- Of the gates but Update the desk holds just those that it held.
abbrev pub KeepsOtherGates : ℕ → List Act → List Act → Type 0
KeepsOtherGates desk old new = (gate : Gate) → (gate ≡ Update → ⊥)
    → (Holds old desk gate → Holds new desk gate) × (Holds new desk gate → Holds old desk gate)

-- How a fault ends an insert of a value of so many places, of a row with this level. `Dimensions` comes just where the index's values have
-- another number of places, and then nothing was done.
abbrev pub FailsSo : (Index → Type 0) → Desk → List Act → List Act → ℕ → ℕ → OpFault → Type 0
FailsSo over d old new long level (op.Dimensions got want) = (got ≡ long) × (want ≡ d.params.bits) × (got ≢ want) × (new ≡ old)
FailsSo over d old new long level fault =
    (long ≡ d.params.bits) × StopsBy IsOfInsert (IsFull level) over d old new fault × GivesGate over d new
