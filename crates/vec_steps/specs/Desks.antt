-- A desk, the room of its log, and what it may ask.
use Rattle.std.specs.Prelude.{◌≡◌, ℕ, ◌+◌, ◌-◌, ◌<◌, ◌≤◌, ⊤, true, max, if◌then◌else◌, List, drop, length, sum_by, Some}
use Rattle.vec_names.specs.declared.tid.Tid.{Tid}
use Rattle.vec_names.specs.declared.params.Params.{Params}
use Rattle.vec_event.specs.Spelling.{spelling}
use Rattle.vec_history.specs.declared.event.Event.{Event}
use Rattle.vec_history.specs.declared.event.Event.TheVariants as event
use Rattle.vec_history.specs.declared.event.Act.{Act}
use Rattle.vec_history.specs.declared.gate.Gate.TheVariants.{Update}
use Rattle.vec_history.specs.declared.stage.Stage.{Stage}
use Rattle.vec_history.specs.Gates.{Holds}
use Rattle.vec_history.specs.Phases.{IsInPhase}
use Rattle.vec_history.specs.Settling.{is_lasting}
use Rattle.vec_graph.specs.declared.graph.Graph.{Graph}
use Rattle.vec_graph.specs.Effect as nodes
use Rattle.vec_graph.specs.Knowing.{Knows}
use Rattle.vec_graph.specs.Asking as nodes_asking
use Rattle.ivf_graph.specs.declared.graph.IvfGraph.{IvfGraph}
use Rattle.ivf_graph.specs.Graph.{Row, rows_on}
use Rattle.ivf_graph.specs.Looks.{is_of_centres}
use Rattle.ivf_graph.specs.Effect as lists
use Rattle.ivf_graph.specs.Asking as lists_asking
use Rattle.graph_search.specs.Insert.{most_in}
use Rattle.vec_steps.specs.declared.ask.NewNode.{NewNode}
use Rattle.vec_steps.specs.declared.ask.Ask.{Ask}
use Rattle.vec_steps.specs.declared.ask.Ask.TheVariants as ask
use Rattle.vec_steps.specs.Index.{Index, OfNodes, OfLists}

-- ---- the room of the log

-- so many bytes of the epoch were used when the acts of number `since` and later began to count
pub record Room : Type 0 where
  pub used : ℕ
  pub since : ℕ

-- what an event takes of the epoch: a lasting one its bytes and five more, and a passing one none
abbrev pub taken_by : Event → ℕ
taken_by e = if is_lasting e then length (spelling e) + 5 else 0

-- what is used after these acts
abbrev pub used_after : Room → List Act → ℕ
used_after room acts = room.used + sum_by (λ a. taken_by a.event) (drop room.since acts)

-- the position from which acts are counted is one of this history
abbrev pub IsCountedIn : Room → List Act → Type 0
IsCountedIn room acts = (count : ℕ) × (length acts ≡ room.since + count)

-- ---- desks

-- What no call over steps changes of a desk: its number, by which its acts are known; how often it was split; the index's parameters;
-- and from where the room of the log is counted.
pub record Desk : Type 0 where
  pub number : ℕ
  pub depth : ℕ
  pub params : Params
  pub room : Room

-- ---- the room that a desk has in reserve

-- each own act takes one of it, while there is any; where it was asked for, there is so much at least
abbrev pub spare_after : Ask → ℕ → ℕ → ℕ
spare_after (ask.Reserve events) spare made = max events spare
spare_after _ spare made = spare - made

-- Which asks may want memory. Looks at one tuple, the release of a gate and the end of a vacuum never do; a change on blocks that are
-- there does not while the desk has spare room.
abbrev pub WantsMemory : ℕ → Ask → Type 0
WantsMemory spare ask.Spent = ⊥
WantsMemory spare ask.Meta = ⊥
WantsMemory spare (ask.Node at layer version) = ⊥
WantsMemory spare (ask.List at list_at level version layer) = ⊥
WantsMemory spare (ask.Release gate) = ⊥
WantsMemory spare ask.EndVacuum = ⊥
WantsMemory spare (ask.Reserve events) = ⊤
WantsMemory spare (ask.Page block) = ⊤
WantsMemory spare (ask.PutNew node) = ⊤
WantsMemory spare (ask.Centres block) = ⊤
WantsMemory spare (ask.Rows block) = ⊤
WantsMemory spare (ask.Extend list last id bits) = ⊤
WantsMemory spare _ = spare ≡ 0

-- ---- what a desk may ask

-- the block is there and can hold nodes, and the node is one that the rules take
pub record MayPut (base : Graph) (acts : List Act) (desk block : ℕ) (node : NewNode) : Type 0 where
  pub from_1 : 1 ≤ block
  pub there : block < (nodes.after base acts).blocks
  pub asked : nodes_asking.IsPutAsked base acts desk node.level node.bits node.lists

-- the desk holds Update, the node stands as it was told, the slot is one of the layer, and the desk knows what it is to name
pub record MayLink (base : Graph) (acts : List Act) (desk : ℕ) (at list_at : Tid) (level layer slot : ℕ) (to : Tid) : Type 0 where
  pub update : Holds acts desk Update
  pub owner : nodes_asking.StandsSo (nodes.after base acts) at list_at level
  pub reaches : layer ≤ level
  pub slot_is : slot < most_in base.params.m layer
  pub known : Knows base acts desk to layer

-- A desk of a graph of nodes. Nothing is asked of a look at a place: none need stand there.
abbrev pub MayAskNodes : Graph → List Act → ℕ → Ask → Type 0
MayAskNodes base acts desk ask.Spent = ⊤
MayAskNodes base acts desk (ask.Reserve events) = ⊤
MayAskNodes base acts desk ask.Meta = ⊤
MayAskNodes base acts desk (ask.Node at layer version) = ⊤
MayAskNodes base acts desk (ask.List at list_at level version layer) =
    nodes_asking.StandsSo (nodes.after base acts) at list_at level × layer ≤ level
MayAskNodes base acts desk (ask.Page block) = block < (nodes.after base acts).blocks
MayAskNodes base acts desk (ask.Put block node) = MayPut base acts desk block node
MayAskNodes base acts desk (ask.PutNew node) = nodes_asking.IsPutAsked base acts desk node.level node.bits node.lists
MayAskNodes base acts desk (ask.Join at version id) = nodes_asking.IsAsked base acts desk (event.Join at version id)
MayAskNodes base acts desk (ask.Link at list_at level version layer slot held to) = MayLink base acts desk at list_at level layer slot to
MayAskNodes base acts desk (ask.Relist at list_at version lists) =
    nodes_asking.IsAsked base acts desk (event.Relist at list_at version lists)
MayAskNodes base acts desk (ask.Drop at version gone) = nodes_asking.IsAsked base acts desk (event.Drop at version gone)
MayAskNodes base acts desk (ask.Mark at list_at version) = nodes_asking.IsAsked base acts desk (event.Mark at list_at version)
MayAskNodes base acts desk (ask.Entry to level) = nodes_asking.IsAsked base acts desk (event.Entry to level)
MayAskNodes base acts desk (ask.Hint block) = nodes_asking.IsAsked base acts desk (event.Hint block)
MayAskNodes base acts desk (ask.Take gate hold) = nodes_asking.IsAsked base acts desk (event.Gate gate hold)
MayAskNodes base acts desk (ask.Release gate) = nodes_asking.IsAsked base acts desk (event.Ungate gate)
MayAskNodes base acts desk (ask.Phase stage) = nodes_asking.IsAsked base acts desk (event.Phase stage)
MayAskNodes base acts desk ask.EndVacuum = (stage : Stage) × IsInPhase acts desk stage
MayAskNodes base acts desk _ = ⊥

-- A desk of an index of lists whose centres have so many places.
abbrev pub MayAskLists : ℕ → IvfGraph → List Act → ℕ → Ask → Type 0
MayAskLists places base acts desk ask.Spent = ⊤
MayAskLists places base acts desk (ask.Reserve events) = ⊤
MayAskLists places base acts desk (ask.Take gate hold) = lists_asking.IsAsked base acts desk (event.Gate gate hold)
MayAskLists places base acts desk (ask.Release gate) = lists_asking.IsAsked base acts desk (event.Ungate gate)
MayAskLists places base acts desk (ask.Centres block) = is_of_centres places (lists.after base acts) block ≡ true
MayAskLists places base acts desk (ask.Rows block) = (rows : List Row) × (rows_on (lists.after base acts) block ≡ Some rows)
MayAskLists places base acts desk (ask.Add block id bits) = lists_asking.IsAsked base acts desk (event.IvfAdd block id bits)
MayAskLists places base acts desk (ask.Extend list last id bits) = lists_asking.IsGrowAsked (lists.after base acts) list last bits
MayAskLists places base acts desk (ask.Cut block gone) = lists_asking.IsAsked base acts desk (event.IvfDrop block gone)
MayAskLists places base acts desk (ask.Aim list block) = lists_asking.IsAsked base acts desk (event.IvfHint list block)
MayAskLists places base acts desk _ = ⊥

-- over one base
abbrev pub MayAsk : Desk → Index → List Act → Ask → Type 0
MayAsk d (OfNodes base) acts ask = MayAskNodes base acts d.number ask
MayAsk d (OfLists base) acts ask = MayAskLists d.params.bits base acts d.number ask

-- The bases on which a desk stands and over which it may ask this, after the acts that it has seen. They are a premise of what a step
-- says, for each base by itself.
pub record Asks (stands : Index → Type 0) (d : Desk) (seen : List Act) (ask : Ask) (base : Index) : Type 0 where
  pub stood : stands base
  pub may : MayAsk d base seen ask
