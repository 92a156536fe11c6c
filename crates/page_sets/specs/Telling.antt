-- What a look at pages tells, and which pages it looks at.
use Rattle.std.specs.Prelude.{◌≡◌, ℕ, ◌+◌, ◌<◌, ◌≤◌, ◌==◌, ◌||◌, not, nat_lt, if◌then◌else◌, ⊤, true, List, [], ◌∷◌, ◌++◌, map, Option, Some, None}
use Rattle.std.specs.Option.{option_map, option_and_then, option_to_list}
use Rattle.vec_names.specs.declared.tid.Tid.{Tid}
use Rattle.vec_names.specs.declared.params.Params.{Params}
use Rattle.vec_names.specs.Places.{tid_of}
use Rattle.byte_fields.specs.Reading.{Reader}
use Rattle.page_bytes.specs.Content.{Content}
use Rattle.vec_tuples.specs.declared.element.Element.{Element}
use Rattle.vec_tuples.specs.declared.links.Links.{Links}
use Rattle.vec_tuples.specs.declared.entry.EntryRow.{EntryRow}
use Rattle.vec_tuples.specs.declared.centre.CentreTuple.{CentreTuple}
use Rattle.vec_tuples.specs.Reading.{element, entry, centre}
use Rattle.page_redo.specs.PageTuples.{in_whole, read_at}
use Rattle.vec_graph.specs.declared.graph.Graph.{Graph}
use Rattle.vec_graph.specs.Graph.{node_at, layer_slots}
use Rattle.vec_graph.specs.Asking.{StandsSo}
use Rattle.graph_search.specs.Reads.{Answer, Gone, OfNode, OfList, node_answer, list_answer, is_version, nodes_on}
use Rattle.graph_search.specs.Reads as read
use Rattle.ivf_graph.specs.declared.graph.IvfGraph.{IvfGraph}
use Rattle.ivf_graph.specs.Graph.{Row, rows_on}
use Rattle.ivf_graph.specs.Looks.{is_of_centres, told_of}
use Rattle.ivf_graph.specs.Looks as list
use Rattle.ivf_graph.specs.Looks.Look.{AtCentres, AtRows}
use Rattle.ivf_graph.specs.Looks.Answer.{OfCentres, OfRows}
use Rattle.vec_steps.specs.declared.ask.Ask.{Ask}
use Rattle.vec_steps.specs.declared.ask.Ask.TheVariants as ask
use Rattle.vec_steps.specs.declared.told.Told.{Told}
use Rattle.vec_steps.specs.declared.told.Word.TheVariants as word
use Rattle.vec_steps.specs.Telling.{node_told, list_told, seen_told, row_told, centre_told}

-- ---- looks

-- the blocks whose pages a look needs; of a node's slots the page of its list alone
abbrev pub looked_at : Ask → List ℕ
looked_at (ask.Node at layer version) = at.block ∷ []
looked_at (ask.List at list_at level version layer) = list_at.block ∷ []
looked_at (ask.Page block) = block ∷ []
looked_at (ask.Rows block) = block ∷ []
looked_at (ask.Centres block) = block ∷ []
looked_at _ = []

-- Which looks a graph answers: at slots of a node that stands as the desk was told, and at a block that there is. A node need not
-- stand at a place that is looked at.
abbrev pub MayLook : Graph → Ask → Type 0
MayLook g (ask.List at list_at level version layer) = StandsSo g at list_at level × layer ≤ level
MayLook g (ask.Page block) = block < g.blocks
MayLook g _ = ⊤

-- what was told is what this graph says to the look
abbrev pub TellsNodes : Graph → Ask → Told → Type 0
TellsNodes g (ask.Node at layer version) t = node_told t.word t.list_at t ≡ node_answer (node_at g at) layer version
TellsNodes g (ask.List at list_at level version layer) t = list_told t.word t ≡ list_answer g.params.m (node_at g at) version layer
TellsNodes g (ask.Page block) t = (t.word ≡ word.Page) × (map seen_told t.nodes ≡ nodes_on g block)
TellsNodes g _ t = ⊤

-- which looks lists answer: at a block of centres, and at one of a chain
abbrev pub MayLookLists : ℕ → IvfGraph → Ask → Type 0
MayLookLists places g (ask.Centres block) = is_of_centres places g block ≡ true
MayLookLists places g (ask.Rows block) = (rows : List Row) × (rows_on g block ≡ Some rows)
MayLookLists places g _ = ⊤

-- what was told is what these lists say to the look, whose centres have so many places
abbrev pub TellsLists : ℕ → IvfGraph → Ask → Told → Type 0
TellsLists places g (ask.Centres block) t =
    (t.word ≡ word.Centres) × (Some (OfCentres (map centre_told t.centres)) ≡ told_of places g (AtCentres block))
TellsLists places g (ask.Rows block) t =
    (t.word ≡ word.Rows) × (Some (OfRows (map row_told t.rows) t.next) ≡ told_of places g (AtRows block))
TellsLists places g _ t = ⊤

-- ---- one page

-- what an element says to a look
abbrev pub element_answer : Option Element → ℕ → Option ℕ → Answer
element_answer None layer version = Gone
element_answer (Some e) layer version =
    if e.deleted || (nat_lt e.level layer || not (is_version version e.version)) then Gone
    else OfNode e.level e.version e.list_at e.ids.items e.bits

-- what the neighbour tuple of a node of this level says to a look at a layer
abbrev pub slots_answer : ℕ → Option Links → ℕ → ℕ → ℕ → Answer
slots_answer m None level version layer = Gone
slots_answer m (Some l) level version layer =
    if l.deleted || not (l.version == version) then Gone else OfList (layer_slots m level layer l.tids)

-- the element at a place, as a look at its page tells it
abbrev pub element_seen : Element → Tid → read.Seen
element_seen e at = record { at = at; level = e.level; version = e.version; deleted = e.deleted; ids = e.ids.items }

abbrev pub entry_seen : ℕ → EntryRow → list.RowSeen
entry_seen off row = record { offset = off; id = row.id; bits = row.bits }

-- the tuple of the list of this number
abbrev pub centre_seen : ℕ → CentreTuple → list.Centre
centre_seen number l = record { list = number; bits = l.bits; aim = l.aim; first = Some l.first }

-- what an item shows, by its offset or its number: nothing where it does not read so
abbrev pub element_shown : Params → ℕ → ℕ → List ℕ → List read.Seen
element_shown p block off x = option_to_list (option_and_then (λ e. option_map (element_seen e) (tid_of block off)) (in_whole (element p x)))

abbrev pub entry_shown : Params → ℕ → List ℕ → List list.RowSeen
entry_shown p off x = option_to_list (option_map (entry_seen off) (in_whole (entry p x)))

abbrev pub centre_shown : Params → ℕ → List ℕ → List list.Centre
centre_shown p number x = option_to_list (option_map (centre_seen number) (in_whole (centre p x)))

-- what items show, of which the first has this number
abbrev pub all_shown : {B : Type 0} → (ℕ → List ℕ → List B) → ℕ → List (List ℕ) → List B
all_shown show number [] = []
all_shown show number (x ∷ items) = show number x ++ all_shown show (number + 1) items

-- the items of a page, if there is one
abbrev pub items_on : Option Content → List (List ℕ)
items_on None = []
items_on (Some c) = c.items

-- what reads so at an offset of a page, if there is one
abbrev pub read_on : {A : Type 0} → Reader A → Option Content → ℕ → Option A
read_on f page off = option_and_then (λ (c : Content). read_at f c off) page

-- the next block that a page names, if there is one
abbrev pub next_on : Option Content → Option ℕ
next_on None = None
next_on (Some c) = c.next
