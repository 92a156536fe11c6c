-- What becomes of a change that is asked for, as the pages say.
use Rattle.std.specs.Prelude.{◌≡◌, ℕ, ◌+◌, ◌<◌, ◌≤◌, ◌==◌, ◌||◌, not, nat_le, if◌then◌else◌, ⊤, List, [], ◌∷◌, slice_get, Option, Some, None}
use Rattle.vec_names.specs.declared.tid.Tid.{Tid}
use Rattle.vec_names.specs.declared.params.Params.{Params}
use Rattle.vec_history.specs.declared.event.Event.{Event}
use Rattle.vec_history.specs.declared.event.Event.TheVariants as event
use Rattle.std.specs.Option.{option_map}
use Rattle.page_bytes.specs.Content.{Content, free_of}
use Rattle.vec_tuples.specs.declared.element.ElementHead.{ElementHead}
use Rattle.vec_tuples.specs.declared.links.Links.{Links}
use Rattle.vec_tuples.specs.Spelling.{head_of_element}
use Rattle.vec_tuples.specs.Reading.{element}
use Rattle.vec_graph.specs.declared.place.Place.{Place}
use Rattle.vec_graph.specs.declared.node.Node.{Node}
use Rattle.vec_graph.specs.declared.graph.Graph.{Graph}
use Rattle.vec_graph.specs.Asking.{StandsSo}
use Rattle.graph_search.specs.Deeds.{Reply, is_still, slot_in, put_event}
use Rattle.graph_search.specs.Deeds as deed
use Rattle.graph_search.specs.Insert.{most_in}
use Rattle.ivf_graph.specs.declared.graph.IvfGraph.{IvfGraph}
use Rattle.ivf_graph.specs.Graph.{Row, rows_on, row_need}
use Rattle.vec_steps.specs.declared.ask.Ask.{Ask}
use Rattle.vec_steps.specs.declared.ask.Ask.TheVariants as ask
use Rattle.vec_steps.specs.declared.told.Word.{Word}
use Rattle.vec_steps.specs.declared.told.Word.TheVariants as word
use Rattle.vec_steps.specs.Index.{Index}
use Rattle.vec_steps.specs.Doing.{Step, Cleaned, Cleared, Outdated, Placed, Came, HasNoRoom, Says}
use Rattle.vec_steps.specs.Telling.{node_of}
use Rattle.page_sets.specs.Telling.{read_on}
use Rattle.page_words.specs.declared.making.Making.{Making}
use Rattle.page_words.specs.declared.making.Making.TheVariants as making

-- ---- events

-- the event that an ask makes, where this became of it, and none where nothing did
abbrev pub events_of : Ask → Making → List Event
events_of (ask.Put block node) (making.At place) = put_event (node_of node) place ∷ []
events_of (ask.PutNew node) (making.At place) = put_event (node_of node) place ∷ []
events_of (ask.Join at version id) making.Asked = event.Join at version id ∷ []
events_of (ask.Link at list_at level version layer slot held to) (making.Slot number) = event.Link at list_at version number to ∷ []
events_of (ask.Relist at list_at version lists) making.Asked = event.Relist at list_at version lists ∷ []
events_of (ask.Drop at version gone) making.Asked = event.Drop at version gone ∷ []
events_of (ask.Mark at list_at version) making.Asked = event.Mark at list_at version ∷ []
events_of (ask.Entry to level) making.Asked = event.Entry to level ∷ []
events_of (ask.Hint block) making.Asked = event.Hint block ∷ []
events_of (ask.Add block id bits) making.Asked = event.IvfAdd block id bits ∷ []
events_of (ask.Extend list last id bits) (making.Behind block) = event.IvfGrow list last block id bits ∷ []
events_of (ask.Cut block gone) making.Asked = event.IvfDrop block gone ∷ []
events_of (ask.Aim list block) making.Asked = event.IvfHint list block ∷ []
events_of _ _ = []

-- ---- what is asked of the pages

-- the blocks whose pages tell whether a change can be made
abbrev pub asked_of : Ask → List ℕ
asked_of (ask.Put block node) = block ∷ (block + 1) ∷ []
asked_of (ask.Join at version id) = at.block ∷ []
asked_of (ask.Link at list_at level version layer slot held to) = list_at.block ∷ []
asked_of (ask.Relist at list_at version lists) = list_at.block ∷ []
asked_of (ask.Drop at version gone) = at.block ∷ []
asked_of (ask.Mark at list_at version) = at.block ∷ []
asked_of (ask.Add block id bits) = block ∷ []
asked_of (ask.Extend list last id bits) = last ∷ []
asked_of _ = []

-- Which changes may be asked of a graph as it is: a slot of the layer, of a node that stands as the desk was told. Nothing else is
-- needed for an answer.
abbrev pub MayChange : Graph → Ask → Type 0
MayChange g (ask.Put block node) = 1 ≤ block × block < g.blocks
MayChange g (ask.Link at list_at level version layer slot held to) =
    StandsSo g at list_at level × layer ≤ level × slot < most_in g.params.m layer
MayChange g (ask.Relist at list_at version lists) = (level : ℕ) × StandsSo g at list_at level
MayChange g _ = ⊤

-- and of lists: a row goes on a block of a chain, or behind one
abbrev pub MayChangeLists : IvfGraph → Ask → Type 0
MayChangeLists g (ask.Add block id bits) = (rows : List Row) × (rows_on g block ≡ Some rows)
MayChangeLists g (ask.Extend list last id bits) = (rows : List Row) × (rows_on g last ≡ Some rows)
MayChangeLists g _ = ⊤

-- which asks are changes of a graph's pages, and of lists'
abbrev pub IsOfNodes : Ask → Type 0
IsOfNodes (ask.Put block node) = ⊤
IsOfNodes (ask.PutNew node) = ⊤
IsOfNodes (ask.Join at version id) = ⊤
IsOfNodes (ask.Link at list_at level version layer slot held to) = ⊤
IsOfNodes (ask.Relist at list_at version lists) = ⊤
IsOfNodes (ask.Drop at version gone) = ⊤
IsOfNodes (ask.Mark at list_at version) = ⊤
IsOfNodes (ask.Entry to level) = ⊤
IsOfNodes (ask.Hint block) = ⊤
IsOfNodes _ = ⊥

abbrev pub IsOfLists : Ask → Type 0
IsOfLists (ask.Add block id bits) = ⊤
IsOfLists (ask.Extend list last id bits) = ⊤
IsOfLists (ask.Cut block gone) = ⊤
IsOfLists (ask.Aim list block) = ⊤
IsOfLists _ = ⊥

-- what an index as it is says to a step
abbrev pub SaysNow : Params → Index → Option Step → Type 0
SaysNow p index None = ⊤
SaysNow p index (Some step) = Says p index [] 0 step

-- ---- one page

-- an element's head, as a node whose value and slots are not looked at
abbrev pub head_node : ElementHead → Node
head_node h = record {
  level = h.level;
  version = h.version;
  deleted = h.deleted;
  bits = [];
  ids = h.ids.items;
  list_at = h.list_at;
  slots = [];
}

-- the head of the element at an offset of a page, if one stands there
abbrev pub head_read : Params → Option Content → ℕ → Option ElementHead
head_read p page off = option_map head_of_element (read_on (element p) page off)

-- the neighbour tuple of a node, as it says whether the node is as it was read
abbrev pub links_clear : Option Links → ℕ → Cleaned
links_clear None version = Outdated
links_clear (Some l) version = if l.deleted || not (l.version == version) then Outdated else Cleared

abbrev pub links_link : ℕ → Option Links → ℕ → ℕ → ℕ → ℕ → Option Tid → Reply
links_link m None level version layer slot held = deed.Stale
links_link m (Some l) level version layer slot held =
    if l.deleted || not (l.version == version) then deed.Stale
    else if is_still (slice_get l.tids (slot_in m level layer slot)) held then deed.Done else deed.Changed

-- the event is made just where the word is Done
abbrev pub made_by_word : Word → Making
made_by_word word.Done = making.Asked
made_by_word _ = making.Nothing

-- and for a slot of this number
abbrev pub made_slot : Word → ℕ → Making
made_slot word.Done number = making.Slot number
made_slot _ number = making.Nothing

-- what a page says to a row of a value of so many places
abbrev pub page_add : Option Content → ℕ → Placed
page_add None places = HasNoRoom None
page_add (Some c) places = if nat_le (row_need places) (free_of c) then Came else HasNoRoom c.next

-- a node is put just where there is a place
abbrev pub made_at : Option Place → Making
made_at None = making.Nothing
made_at (Some place) = making.At place
