-- Which pages stand for which graph. Block 0 has the meta tuple, the other blocks have the elements and their neighbour
-- tuples. The numbers of the pages are no part of it.
use Rattle.std.specs.Prelude.{◌≡◌, ℕ, zero, suc, ◌<◌, ◌&&◌, ◌||◌, ◌==◌, nat_le, nat_lt, Bool, true, false, List, length, flat_map, slice_get, Option, Some, None, Result, Ok, Err}
use Rattle.std.specs.Bool.{beq}
use Rattle.std.specs.List.{list_all, count_by}
use Rattle.std.specs.Option.{option_map, option_and_then, option_to_list}
use Rattle.index_sizes.specs.Sizes.{slots_of_level}
use Rattle.vec_names.specs.declared.tid.Tid.{Tid}
use Rattle.vec_names.specs.declared.params.Params.{Params}
use Rattle.page_bytes.specs.Content.{Content, item_at}
use Rattle.vec_tuples.specs.declared.meta.Meta.{Meta}
use Rattle.vec_tuples.specs.declared.element.Element.{Element}
use Rattle.vec_tuples.specs.declared.element.ElementHead.{ElementHead}
use Rattle.vec_tuples.specs.declared.links.Links.{Links}
use Rattle.vec_tuples.specs.Spelling.{head_of_element}
use Rattle.byte_fields.specs.Reading.{Reader}
use Rattle.vec_tuples.specs.Reading.{element, links}
use Rattle.vec_graph.specs.declared.node.Node.{Node}
use Rattle.vec_graph.specs.declared.graph.Graph.{Graph}
use Rattle.vec_graph.specs.Graph.{node_at}
use Rattle.page_redo.specs.declared.graph_fault.GraphFault.{GraphFault}
use Rattle.page_redo.specs.declared.graph_fault.GraphFault.TheVariants.{Memory, Bad}
use Rattle.page_redo.specs.PageTuples.{in_whole, meta_at, is_graph, is_meta_page, is_graph_page}
use Rattle.page_redo.specs.PageChanges.{when, if_so}

-- ---- what stands at a place of the pages

abbrev pub item_in : List Content → Tid → Option (List ℕ)
item_in pages at = option_and_then (λ c. item_at c.items at.off) (slice_get pages at.block)

abbrev pub read_in : {A : Type 0} → Reader A → List Content → Tid → Option A
read_in f pages at = option_and_then (λ x. in_whole (f x)) (item_in pages at)

abbrev pub element_in : Params → List Content → Tid → Option Element
element_in p pages at = read_in (element p) pages at

abbrev pub head_in : Params → List Content → Tid → Option ElementHead
head_in p pages at = option_map head_of_element (element_in p pages at)

abbrev pub links_in : Params → List Content → Tid → Option Links
links_in p pages at = read_in (links p) pages at

-- ---- block 0

abbrev pub of_graph : Meta → Option Meta
of_graph m = when (is_graph m.params.kind) m

-- the meta tuple of a graph, which is the only item of the meta page
abbrev pub root_on : Content → Option Meta
root_on c = if_so (is_meta_page c.kind && length c.items == 1) (option_and_then of_graph (meta_at c))

abbrev pub root : List Content → Option Meta
root pages = option_and_then root_on (slice_get pages 0)

abbrev pub is_of_level : ℕ → Option ElementHead → Bool
is_of_level level None = false
is_of_level level (Some h) = h.level == level

-- where an entry is given, an element of the stated level stands there
abbrev pub is_entry : Params → List Content → Option Tid → ℕ → Bool
is_entry p pages None level = true
is_entry p pages (Some at) level = is_of_level level (head_in p pages at)

abbrev pub is_root : List Content → Meta → Bool
is_root pages m = nat_le m.hint (length pages) && is_entry m.params pages m.entry m.level

-- ---- elements

-- the neighbour tuple has the slots of the element's level, its version and its deleted state
abbrev pub is_list_of : Params → ElementHead → Option Links → Bool
is_list_of p h None = false
is_list_of p h (Some l) = length l.tids == slots_of_level p.m h.level && (l.version == h.version && beq l.deleted h.deleted)

abbrev pub is_element : Params → List Content → Option ElementHead → Bool
is_element p pages None = false
is_element p pages (Some h) = is_list_of p h (links_in p pages h.list_at)

-- ---- neighbour tuples

-- the list pointer of an item, where that is an element
abbrev pub pointer_of : Params → List ℕ → List Tid
pointer_of p x = option_to_list (option_map (λ e. e.list_at) (in_whole (element p x)))

abbrev pub pointers_on : Params → Content → List Tid
pointers_on p c = flat_map (pointer_of p) c.items

-- the list pointers of all elements, as often as they stand
abbrev pub pointers : Params → List Content → List Tid
pointers p pages = flat_map (pointers_on p) pages

abbrev pub is_place : Tid → Tid → Bool
is_place at other = other.block == at.block && other.off == at.off

abbrev pub times_in : Tid → List Tid → ℕ
times_in at places = count_by (is_place at) places

-- a slot names a place on one of so many blocks, or none
abbrev pub is_slot_below : ℕ → Option Tid → Bool
is_slot_below blocks None = true
is_slot_below blocks (Some to) = nat_lt to.block blocks

-- exactly one list pointer names the neighbour tuple at the place, and its slots name places on the blocks that there are
abbrev pub is_list : Params → List Content → Tid → Option Links → Bool
is_list p pages at None = false
is_list p pages at (Some l) = times_in at (pointers p pages) == 1 && list_all (is_slot_below (length pages)) l.tids

-- ---- the other blocks

-- an element with its list, or the list of one element
abbrev pub is_node_item : Params → List Content → Tid → Bool
is_node_item p pages at = is_element p pages (head_in p pages at) || is_list p pages at (links_in p pages at)

pub record IsNodePage (p : Params) (pages : List Content) (block : ℕ) : Type 0 where
  pub kind : (c : Content) → slice_get pages block ≡ Some c → is_graph_page c.kind ≡ true
  pub items : (at : Tid) (x : List ℕ) → at.block ≡ block → item_in pages at ≡ Some x → is_node_item p pages at ≡ true

-- ---- blocks that break a rule

-- All is read under the parameters of block 0: where that has no meta tuple of a graph, no block keeps the rules.
abbrev pub KeepsRulesUnder : Option Meta → List Content → ℕ → Type 0
KeepsRulesUnder None pages block = ⊥
KeepsRulesUnder (Some m) pages zero = is_root pages m ≡ true
KeepsRulesUnder (Some m) pages (suc block) = IsNodePage m.params pages (suc block)

abbrev pub KeepsRules : List Content → ℕ → Type 0
KeepsRules pages block = KeepsRulesUnder (root pages) pages block

-- the block breaks a rule, and no lower one does
pub record IsFirstBroken (pages : List Content) (block : ℕ) : Type 0 where
  pub broken : ¬ KeepsRules pages block
  pub whole_before : (lower : ℕ) → lower < block → KeepsRules pages lower

-- ---- the graph

-- an element and its list
abbrev pub node_with : Element → Links → Node
node_with e l = record {
  level = e.level;
  version = e.version;
  deleted = e.deleted;
  bits = e.bits;
  ids = e.ids.items;
  list_at = e.list_at;
  slots = l.tids;
}

abbrev pub node_in : Params → List Content → Tid → Option Node
node_in p pages at = option_and_then (λ e. option_map (node_with e) (links_in p pages e.list_at)) (element_in p pages at)

-- No block breaks a rule, and the graph is the one that the pages hold.
pub record Stands (pages : List Content) (g : Graph) : Type 0 where
  pub whole : (block : ℕ) → KeepsRules pages block
  pub meta : Meta
  pub read : root pages ≡ Some meta
  pub params : g.params ≡ meta.params
  pub entry : g.entry ≡ meta.entry
  pub level : g.level ≡ meta.level
  pub hint : g.hint ≡ meta.hint
  pub blocks : g.blocks ≡ length pages
  pub nodes : (at : Tid) → node_at g at ≡ node_in meta.params pages at

-- the graph, or the first block that breaks a rule; of want of memory nothing is said
abbrev pub IsGraphOf : List Content → Result Graph GraphFault → Type 0
IsGraphOf pages (Ok g) = Stands pages g
IsGraphOf pages (Err Memory) = Unit {0}
IsGraphOf pages (Err (Bad block)) = IsFirstBroken pages block
