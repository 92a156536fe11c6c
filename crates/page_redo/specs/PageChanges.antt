-- The change of one page that an event makes at a place which it names: what the page is then. There is nothing where the
-- page lacks what the event needs.
use Rattle.std.specs.Prelude.{ℕ, ◌+◌, ◌/◌, ◌%◌, ◌^◌, ◌==◌, ◌&&◌, not, nat_le, nat_lt, List, [], ◌∷◌, ◌++◌, length, replicate, slice_set, Bool, true, false, Option, Some, None, if◌then◌else◌}
use Rattle.index_sizes.specs.declared.limits.TheConstants.{MOST_BLOCKS, MOST_SLOTS}
use Rattle.index_sizes.specs.Sizes.{next_version, slots_of_level, centres_on_page}
use Rattle.list_values.specs.Masks.{kept}
use Rattle.vec_names.specs.declared.tid.Tid.{Tid}
use Rattle.vec_names.specs.declared.heap_id.HeapId.{HeapId}
use Rattle.vec_names.specs.declared.params.Params.{Params}
use Rattle.page_bytes.specs.Content.{Content, item_at, others}
use Rattle.vec_tuples.specs.declared.meta.Meta.{Meta}
use Rattle.vec_tuples.specs.declared.element.Element.{Element}
use Rattle.vec_tuples.specs.declared.element.ElementHead.{ElementHead}
use Rattle.vec_tuples.specs.declared.links.Links.{Links}
use Rattle.byte_fields.specs.Levels.{is_level}
use Rattle.vec_tuples.specs.Spelling.{element_bytes, element_with, head_with, links_bytes, links_with, entry_bytes, row_with, centre_with}
use Rattle.page_redo.specs.PageTuples.{element_at, links_at, with_item, added, centre_changed, is_graph, is_meta_page, is_graph_page, is_lists_page, is_entries_page}

abbrev pub PageChange : Type 0
PageChange = Content → Option Content

abbrev pub when : {A : Type 0} → Bool → A → Option A
when test v = if test then Some v else None

abbrev pub if_so : {A : Type 0} → Bool → Option A → Option A
if_so test o = if test then o else None

-- ---- elements and their lists

-- a tuple that is not deleted and has the version that the event names
abbrev pub is_current : Bool → ℕ → ℕ → Bool
is_current deleted found version = not deleted && found == version

-- a place whose tuple is deleted, with the version that the event names
abbrev pub is_old : Bool → ℕ → ℕ → Bool
is_old deleted found version = deleted && found == version

-- an id goes last, of at most ten
abbrev pub joined : ℕ → HeapId → ElementHead → Option ElementHead
joined version id h =
    when (is_current h.deleted h.version version && nat_lt (length h.ids.items) 10)
    (head_with h.level h.deleted h.version (h.ids.items ++ id ∷ []) h.list_at)

-- the ids go that the mask names, whose bits past the ids are 0
abbrev pub dropped : ℕ → ℕ → ElementHead → Option ElementHead
dropped version gone h =
    when (is_current h.deleted h.version version && nat_lt gone (2 ^ length h.ids.items))
    (head_with h.level h.deleted h.version (kept gone h.ids.items) h.list_at)

-- the element is deleted, names no row, and has its next version
abbrev pub marked : ℕ → ℕ → ElementHead → Option ElementHead
marked wrap version h =
    when (is_current h.deleted h.version version) (head_with h.level true (next_version wrap h.version) [] h.list_at)

-- a slot becomes this place
abbrev pub linked : ℕ → ℕ → Tid → Links → Option Links
linked version slot to l =
    when (is_current l.deleted l.version version && nat_lt slot (length l.tids))
    (links_with l.deleted l.version (slice_set l.tids slot (Some to)))

-- as many slots take the place of the slots
abbrev pub relisted : ℕ → List (Option Tid) → Links → Option Links
relisted version tids l =
    when (is_current l.deleted l.version version && length tids == length l.tids) (links_with l.deleted l.version tids)

-- the list is that of a deleted element: no slot names a place
abbrev pub emptied : ℕ → ℕ → Links → Option Links
emptied wrap version l =
    when (is_current l.deleted l.version version) (links_with true (next_version wrap l.version) (replicate (length l.tids) None))

-- a page of a graph, in an index that is one
abbrev pub on_graph : Params → PageChange → PageChange
on_graph p role c = if_so (is_graph p.kind && is_graph_page c.kind) (role c)

-- ---- a new node

-- what a Put brings: a node of one row, with its slots
pub record NewNode : Type 0 where
  pub at : Tid
  pub list_at : Tid
  pub version : ℕ
  pub level : ℕ
  pub id : HeapId
  pub bits : List Bool
  pub slots : List (Option Tid)

abbrev pub new_node : Tid → Tid → ℕ → ℕ → HeapId → List Bool → List (Option Tid) → NewNode
new_node at list_at version level id bits slots = record {
  at = at;
  list_at = list_at;
  version = version;
  level = level;
  id = id;
  bits = bits;
  slots = slots;
}

-- the value is of the index's length, the list is of the level's length, and both have tuples
abbrev pub is_node : Params → NewNode → Bool
is_node p n =
    nat_le 1 n.version
    && (length n.bits == p.bits && (length n.slots == slots_of_level p.m n.level && nat_le (length n.slots) MOST_SLOTS))

abbrev pub new_element : NewNode → Element
new_element n = element_with (head_with n.level false n.version (n.id ∷ []) n.list_at) n.bits

abbrev pub new_links : NewNode → Links
new_links n = links_with false n.version n.slots

abbrev pub is_old_element : ℕ → Option Element → Bool
is_old_element version None = false
is_old_element version (Some e) = is_old e.deleted e.version version

abbrev pub are_old_links : ℕ → Option Links → Bool
are_old_links version None = false
are_old_links version (Some l) = is_old l.deleted l.version version

-- Over an item that is there, if that one may go and is as long; or behind the last one, at the next offset.
abbrev pub put_over : Option (List ℕ) → ℕ → Bool → List ℕ → PageChange
put_over None off may_go x c = if_so (off == length c.items + 1) (added x c)
put_over (Some old) off may_go x c = when (may_go && length old == length x) (with_item c off x)

abbrev pub put : ℕ → Bool → List ℕ → PageChange
put off may_go x c = put_over (item_at c.items off) off may_go x c

-- the element goes to its place, which is new or that of a deleted one
abbrev pub put_element : Params → NewNode → PageChange
put_element p n =
    on_graph p (λ c. if_so (is_node p n)
    (put n.at.off (is_old_element n.version (element_at p c n.at.off)) (element_bytes (new_element n)) c))

-- and so does the list
abbrev pub put_links : Params → NewNode → PageChange
put_links p n =
    on_graph p (λ c. if_so (is_node p n)
    (put n.list_at.off (are_old_links n.version (links_at p c n.list_at.off)) (links_bytes (new_links n)) c))

-- ---- the meta page

-- an entry point, or none with the level 0
abbrev pub entered : Option Tid → ℕ → Meta → Option Meta
entered to level m =
    when (is_graph m.params.kind && is_level to level) (record m { entry = to; level = level })

abbrev pub hinted : ℕ → Meta → Option Meta
hinted block m = when (is_graph m.params.kind && (nat_le 1 block && nat_le block MOST_BLOCKS)) (record m { hint = block })

abbrev pub on_meta : PageChange → PageChange
on_meta role c = if_so (is_meta_page c.kind) (role c)

-- ---- lists

-- a page of entries, in an index of lists
abbrev pub on_entries : Params → PageChange → PageChange
on_entries p role c = if_so (not (is_graph p.kind) && is_entries_page c.kind) (role c)

-- one more entry
abbrev pub entry_added : Params → HeapId → List Bool → PageChange
entry_added p id bits = on_entries p (λ c. if_so (length bits == p.bits) (added (entry_bytes (row_with id bits)) c))

-- a page without items is made fresh, with one entry
abbrev pub grown : Params → HeapId → List Bool → PageChange
grown p id bits =
    on_entries p (λ c. if_so (length c.items == 0 && length bits == p.bits)
    (added (entry_bytes (row_with id bits)) (record c { next = None })))

-- the chain goes on at this block
abbrev pub chained : Params → ℕ → List Bool → PageChange
chained p block bits =
    on_entries p (λ c. when (nat_lt block 0xFFFFFFFF && length bits == p.bits) (record c { next = Some block }))

-- the offsets rise from behind one to another
abbrev pub rises : ℕ → ℕ → List ℕ → Bool
rises low high [] = true
rises low high (off ∷ offs) = nat_lt low off && (nat_le off high && rises off high offs)

abbrev pub entries_dropped : Params → List ℕ → PageChange
entries_dropped p gone = on_entries p (λ c. when (rises 0 (length c.items) gone) (record c { items = others gone 1 c.items }))

-- where the tuple of a list stands
abbrev pub list_block : Params → ℕ → ℕ
list_block p list = 1 + list / centres_on_page p.bits

abbrev pub list_offset : Params → ℕ → ℕ
list_offset p list = 1 + list % centres_on_page p.bits

-- the list looks for room at this block
abbrev pub aimed : Params → ℕ → ℕ → PageChange
aimed p list block c =
    if_so (not (is_graph p.kind) && is_lists_page c.kind) (centre_changed (λ l. centre_with l.first block l.bits) p (list_offset p list) c)
