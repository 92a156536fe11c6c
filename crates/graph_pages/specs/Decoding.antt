-- The items of pages as they are decoded, each once, and which places the list pointers name: what the check of the
-- blocks keeps of the pages.
use Rattle.std.specs.Bool.{beq}
use Rattle.index_sizes.specs.Sizes.{slots_of_level}
use Rattle.std.specs.Prelude.{◌≡◌, ℕ, zero, suc, ◌-◌, ◌==◌, ◌&&◌, Bool, false, List, [], ◌∷◌, length, map, slice_get, Option, Some, None}
use Rattle.std.specs.List.{list_all}
use Rattle.std.specs.Option.{option_and_then}
use Rattle.std.specs.FinMap.{FinMap, get}
use Rattle.vec_names.specs.declared.tid.Tid.{Tid}
use Rattle.vec_names.specs.declared.params.Params.{Params}
use Rattle.vec_names.specs.Order.{tid_cmp}
use Rattle.page_bytes.specs.Content.{Content}
use Rattle.vec_tuples.specs.declared.element.Element.{Element as ElementTuple}
use Rattle.vec_tuples.specs.declared.links.Links.{Links}
use Rattle.vec_tuples.specs.Reading.{element, links}
use Rattle.page_redo.specs.PageTuples.{in_whole}
use Rattle.graph_pages.specs.declared.decoded.Item.{Item}
use Rattle.graph_pages.specs.declared.decoded.Item.TheVariants as items
use Rattle.graph_pages.specs.declared.decoded.Item.TheVariants.{Element, Neither}
use Rattle.graph_pages.specs.declared.decoded.ElementItem.{ElementItem}
use Rattle.graph_pages.specs.declared.decoded.ListItem.{ListItem}
use Rattle.graph_pages.specs.declared.list_pointers.Named.{Named}
use Rattle.graph_pages.specs.declared.list_pointers.Named.TheVariants.{Once, Often}
use Rattle.graph_pages.specs.Standing.{is_slot_below, times_in}

-- ---- items

abbrev pub element_item : ElementTuple → ElementItem
element_item e = record { level = e.level; version = e.version; deleted = e.deleted; list_at = e.list_at }

abbrev pub list_item : ℕ → Links → ListItem
list_item blocks l = record {
  version = l.version;
  deleted = l.deleted;
  count = length l.tids;
  below = list_all (is_slot_below blocks) l.tids;
}

-- an element, or else a neighbour tuple, or else neither
abbrev pub decoded : ℕ → Option ElementTuple → Option Links → Item
decoded blocks (Some e) o = Element (element_item e)
decoded blocks None (Some l) = items.List (list_item blocks l)
decoded blocks None None = Neither

abbrev pub item_of : Params → ℕ → List ℕ → Item
item_of p blocks x = decoded blocks (in_whole (element p x)) (in_whole (links p x))

abbrev pub items_on : Params → ℕ → Content → List Item
items_on p blocks c = map (item_of p blocks) c.items

abbrev pub items_of : Params → List Content → List (List Item)
items_of p pages = map (items_on p (length pages)) pages

abbrev pub found : List (List Item) → Tid → Option Item
found items at = option_and_then (λ on_block. slice_get on_block (at.off - 1)) (slice_get items at.block)

-- the item is a neighbour tuple that has the slots of the element's level, its version and its deleted state
abbrev pub is_list_item_of : ℕ → ElementItem → Option Item → Bool
is_list_item_of m e (Some (items.List l)) = l.count == slots_of_level m e.level && (l.version == e.version && beq l.deleted e.deleted)
is_list_item_of m e _ = false

-- ---- list pointers

abbrev pub pointer_of : Item → List Tid
pointer_of (Element e) = e.list_at ∷ []
pointer_of _ = []

-- what is kept of a place that is named so often
abbrev pub naming : ℕ → Option Named
naming zero = None
naming (suc zero) = Some Once
naming (suc (suc n)) = Some Often

-- what is kept once it is named again
abbrev pub so_often : Option Named → Named
so_often None = Once
so_often (Some named) = Often

-- the map tells this of every place
abbrev pub Tells : FinMap tid_cmp Named → List Tid → Type 0
Tells named places = (at : Tid) → get named at ≡ naming (times_in at places)
