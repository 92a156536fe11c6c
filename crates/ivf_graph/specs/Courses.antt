-- The courses of an insert and of a vacuum: what each asks in turn, and by which answers it goes on.
use Rattle.std.specs.Prelude.{◌≡◌, ◌≢◌, ◌⊎◌, ℕ, ◌+◌, ◌==◌, if◌then◌else◌, ⊤, Bool, List, [], ◌∷◌, ◌++◌, length, map, slice_get, Option, Some, None}
use Rattle.std.specs.List.{filter_map}
use Rattle.std.specs.Option.{option_or}
use Rattle.list_values.specs.Ranking.{ranked}
use Rattle.vec_names.specs.declared.heap_id.HeapId.{HeapId}
use Rattle.vec_history.specs.declared.event.Event.{Event}
use Rattle.vec_history.specs.declared.event.Event.TheVariants as event
use Rattle.vec_history.specs.declared.event.Act.{Act}
use Rattle.vec_history.specs.declared.gate.Gate.TheVariants.{Vacuum}
use Rattle.vec_history.specs.declared.gate.Hold.TheVariants.{Alone}
use Rattle.vec_history.specs.Acts.{IsActAt, IsRising}
use Rattle.ivf_graph.specs.declared.graph.IvfGraph.{IvfGraph}
use Rattle.ivf_graph.specs.Graph.{Row, rows_on, HasRoom}
use Rattle.ivf_graph.specs.Effect.{state_after}
use Rattle.ivf_graph.specs.Looks.{next_on, Centre, centre_pages}
use Rattle.ivf_graph.specs.Reads.{centres_read, is_centre_nearer}
use Rattle.ivf_graph.specs.Asking.{IsRoomOn, IsLast}

-- ---- turns

-- one turn: the state that answers, and the event that is made then, if there is one
abbrev pub Turn : Type 0
Turn = IvfGraph × Option Event

abbrev pub events_of : List Turn → List Event
events_of turns = filter_map (λ t. t.1) turns

abbrev pub IsMade : List Act → ℕ → ℕ → Option Event → Type 0
IsMade acts desk n None = ⊤
IsMade acts desk n (Some e) = IsActAt acts n desk e

-- each turn was answered at its position, and its event is the desk's act there
abbrev pub AreMadeAt : IvfGraph → List Act → ℕ → List ℕ → List Turn → Type 0
AreMadeAt base acts desk [] [] = ⊤
AreMadeAt base acts desk [] (t ∷ turns) = ⊥
AreMadeAt base acts desk (n ∷ positions) [] = ⊥
AreMadeAt base acts desk (n ∷ positions) (t ∷ turns) =
    (t.0 ≡ state_after base acts n) × IsMade acts desk n t.1 × AreMadeAt base acts desk positions turns

-- ---- inserts

-- the rows on the block leave no room for one of so many places
pub record IsFull (g : IvfGraph) (block places : ℕ) : Type 0 where
  pub rows : List Row
  pub stands : rows_on g block ≡ Some rows
  pub no_room : HasRoom rows places → ⊥

-- The row is offered to a block of the list, and, where that is full, to the one behind it. Where there is none behind
-- it the list grows; or it has grown since, and then the new block comes next. The last number is the block where the row came.
pub data Places (list : ℕ) (id : HeapId) (bits : List Bool) : ℕ → List Turn → ℕ → Type 0 where
  adds : (g : IvfGraph) (block : ℕ) → IsRoomOn g block (length bits)
      → Places list id bits block ((g, Some (event.IvfAdd block id bits)) ∷ []) block
  goes_on : (g : IvfGraph) (block next : ℕ) (turns : List Turn) (end : ℕ) → IsFull g block (length bits) → next_on g block ≡ Some next
      → Places list id bits next turns end → Places list id bits block ((g, None) ∷ turns) end
  grows : (g h : IvfGraph) (block new : ℕ) → IsFull g block (length bits) → next_on g block ≡ None → IsLast h block new
      → Places list id bits block ((g, None) ∷ (h, Some (event.IvfGrow list block new id bits)) ∷ []) new
  has_grown : (g h : IvfGraph) (block next : ℕ) (turns : List Turn) (end : ℕ) → IsFull g block (length bits) → next_on g block ≡ None
      → next_on h block ≡ Some next → Places list id bits next turns end → Places list id bits block ((g, None) ∷ (h, None) ∷ turns) end

-- the list comes to aim at the block where the row came, if that is not the aim already
abbrev pub aims_at : ℕ → ℕ → ℕ → List Event
aims_at aim list block = if block == aim then [] else event.IvfHint list block ∷ []

-- the event puts the row on the block, in room that is there or as the list's new one
abbrev pub IsPlacing : ℕ → ℕ → HeapId → List Bool → Event → Type 0
IsPlacing list block id bits e = (e ≡ event.IvfAdd block id bits) ⊎ ((last : ℕ) × (e ≡ event.IvfGrow list last block id bits))

-- an insert that read the pages of the centres in these states, and then had these turns: the row came on a block of the nearest list
pub record IsInsertFrom (states : List IvfGraph) (lists : ℕ) (id : HeapId) (bits : List Bool) (turns : List Turn)
    (list block : ℕ) : Type 0 where
  pub enough : length states ≡ centre_pages (length bits) lists
  pub nearest : Centre
  pub is_nearest : slice_get (ranked (is_centre_nearer bits) (centres_read (length bits) 1 states)) 0 ≡ Some nearest
  pub of_list : list ≡ nearest.list
  pub tries : List Turn
  pub places : Places list id bits nearest.aim tries block
  pub last : List Turn
  pub aims : map (λ t. t.1) last ≡ map (λ e. Some e) (aims_at nearest.aim list block)
  pub whole : turns ≡ tries ++ last

-- the same of a history, where the reads of the centres and the turns had these positions
pub record IsInsertedAt (base : IvfGraph) (acts : List Act) (desk : ℕ) (reads positions : List ℕ) (id : HeapId) (bits : List Bool)
    (list block : ℕ) : Type 0 where
  pub rising : IsRising 0 (reads ++ positions) (length acts)
  pub turns : List Turn
  pub made : AreMadeAt base acts desk positions turns
  pub course : IsInsertFrom (map (state_after base acts) reads) (length base.lists) id bits turns list block

-- ---- vacuums

-- the offsets of the rows that are called dead, where the first row has this offset
abbrev pub dead_from : (HeapId → Bool) → ℕ → List Row → List ℕ
dead_from dead offset [] = []
dead_from dead offset (r ∷ rows) =
    let rest = dead_from dead (offset + 1) rows in if dead r.0 then offset ∷ rest else rest

-- From a block of the list on, each block is read, and what is dead there is cut. At the end the list comes to aim at
-- the first block that was cut, if there is one, even where that is the aim already.
pub data Clears (dead : HeapId → Bool) (list : ℕ) : Option ℕ → Option ℕ → List Turn → Type 0 where
  ends : Clears dead list None None []
  aims : (g : IvfGraph) (first : ℕ) → Clears dead list None (Some first) ((g, Some (event.IvfHint list first)) ∷ [])
  keeps : (g : IvfGraph) (block : ℕ) (rows : List Row) (first : Option ℕ) (turns : List Turn) → rows_on g block ≡ Some rows
      → dead_from dead 1 rows ≡ [] → Clears dead list (next_on g block) first turns
      → Clears dead list (Some block) first ((g, None) ∷ turns)
  cuts : (g h : IvfGraph) (block : ℕ) (rows : List Row) (first : Option ℕ) (turns : List Turn) → rows_on g block ≡ Some rows
      → dead_from dead 1 rows ≢ [] → Clears dead list (next_on g block) (option_or first (Some block)) turns
      → Clears dead list (Some block) first ((g, None) ∷ (h, Some (event.IvfDrop block (dead_from dead 1 rows))) ∷ turns)

-- list by list
pub data ClearsAll (dead : HeapId → Bool) : List Centre → List Turn → Type 0 where
  none_left : ClearsAll dead [] []
  clears : (c : Centre) (centres : List Centre) (turns later : List Turn) → Clears dead c.list c.first None turns
      → ClearsAll dead centres later
      → ClearsAll dead (c ∷ centres) (turns ++ later)

-- A vacuum of an index whose centres have so many places: it takes the gate of vacuums alone by the act of number `began`,
-- reads the pages of the centres, clears each list, and gives the gate back by the act of number `ended`.
pub record IsVacuumedAt (base : IvfGraph) (acts : List Act) (desk places : ℕ) (dead : HeapId → Bool) (began ended : ℕ)
    (reads positions : List ℕ) : Type 0 where
  pub taken : IsActAt acts began desk (event.Gate Vacuum Alone)
  pub rising : IsRising (began + 1) (reads ++ positions) ended
  pub enough : length reads ≡ centre_pages places (length base.lists)
  pub turns : List Turn
  pub made : AreMadeAt base acts desk positions turns
  pub course : ClearsAll dead (centres_read places 1 (map (state_after base acts) reads)) turns
  pub given : IsActAt acts ended desk (event.Ungate Vacuum)
