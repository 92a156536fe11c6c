-- What stands at an offset of a page, and pages with another item there.
use Rattle.std.specs.Prelude.{ℕ, ◌+◌, ◌-◌, nat_le, List, [], ◌∷◌, ◌++◌, length, slice_set, Bool, true, false, Option, Some, None, if◌then◌else◌}
use Rattle.std.specs.Option.{option_map, option_and_then}
use Rattle.vec_names.specs.declared.params.Kind.{Kind}
use Rattle.vec_names.specs.declared.params.Kind.TheVariants.{Hnsw, Ivf}
use Rattle.vec_names.specs.declared.params.Params.{Params}
use Rattle.page_bytes.specs.declared.kind.PageKind.{PageKind}
use Rattle.page_bytes.specs.declared.kind.PageKind.TheVariants as pages
use Rattle.page_bytes.specs.Content.{Content, item_at, round8, free_of}
use Rattle.vec_tuples.specs.declared.meta.Meta.{Meta}
use Rattle.vec_tuples.specs.declared.element.Element.{Element}
use Rattle.vec_tuples.specs.declared.element.ElementHead.{ElementHead}
use Rattle.vec_tuples.specs.declared.links.Links.{Links}
use Rattle.vec_tuples.specs.declared.centre.CentreTuple.{CentreTuple}
use Rattle.vec_tuples.specs.Spelling.{element_bytes, element_with, beside, head_of_element, links_bytes, meta_bytes, centre_bytes}
use Rattle.page_redo.specs.declared.items.LinksHead.{LinksHead}
use Rattle.byte_fields.specs.Reading.{Read, Got, Bad, Short, Reader}
use Rattle.vec_tuples.specs.Reading.{element, links, meta, centre}

-- ---- what stands there

-- what was read, where nothing is left behind it
abbrev pub in_whole : {A : Type 0} → Read A → Option A
in_whole (Got v []) = Some v
in_whole (Got v (b ∷ bs)) = None
in_whole (Bad left) = None
in_whole (Short left) = None

-- the item at an offset as a whole, where it reads so
abbrev pub read_at : {A : Type 0} → Reader A → Content → ℕ → Option A
read_at f c off = option_and_then (λ x. in_whole (f x)) (item_at c.items off)

abbrev pub element_at : Params → Content → ℕ → Option Element
element_at p c off = read_at (element p) c off

abbrev pub links_at : Params → Content → ℕ → Option Links
links_at p c off = read_at (links p) c off

-- what stands before the slots of a list
abbrev pub links_head : Links → LinksHead
links_head l = record { deleted = l.deleted; version = l.version; count = length l.tids }

abbrev pub centre_at : Params → Content → ℕ → Option CentreTuple
centre_at p c off = read_at (centre p) c off

-- the meta tuple is the first item
abbrev pub meta_at : Content → Option Meta
meta_at c = read_at meta c 1

-- ---- another item there

abbrev pub with_item : Content → ℕ → List ℕ → Content
with_item c off x = record c { items = slice_set c.items (off - 1) x }

-- an item behind the last one, where its bytes, rounded up, and a line pointer have room
abbrev pub added : List ℕ → Content → Option Content
added x c = if nat_le (round8 (length x) + 4) (free_of c) then Some (record c { items = c.items ++ x ∷ [] }) else None

-- the element with another head; where it is deleted no place of its value is set
abbrev pub with_head : ElementHead → Element → Element
with_head h e = element_with h (beside h.deleted e.bits)

-- The page on which a tuple is changed. There is none where no such tuple stands at the offset, or where it can't be
-- changed so.
abbrev pub head_changed : (ElementHead → Option ElementHead) → Params → ℕ → Content → Option Content
head_changed change p off c =
    option_and_then (λ e. option_map (λ h. with_item c off (element_bytes (with_head h e))) (change (head_of_element e)))
    (element_at p c off)

abbrev pub links_changed : (Links → Option Links) → Params → ℕ → Content → Option Content
links_changed change p off c =
    option_and_then (λ l. option_map (λ changed. with_item c off (links_bytes changed)) (change l)) (links_at p c off)

abbrev pub centre_changed : (CentreTuple → CentreTuple) → Params → ℕ → Content → Option Content
centre_changed change p off c =
    option_map (λ l. with_item c off (centre_bytes (change l))) (centre_at p c off)

abbrev pub meta_changed : (Meta → Option Meta) → Content → Option Content
meta_changed change c =
    option_and_then (λ m. option_map (λ changed. with_item c 1 (meta_bytes changed)) (change m)) (meta_at c)

-- ---- kinds

abbrev pub is_graph : Kind → Bool
is_graph Hnsw = true
is_graph Ivf = false

abbrev pub is_meta_page : PageKind → Bool
is_meta_page pages.Meta = true
is_meta_page _ = false

abbrev pub is_graph_page : PageKind → Bool
is_graph_page pages.Hnsw = true
is_graph_page _ = false

abbrev pub is_lists_page : PageKind → Bool
is_lists_page pages.IvfLists = true
is_lists_page _ = false

abbrev pub is_entries_page : PageKind → Bool
is_entries_page pages.IvfEntries = true
is_entries_page _ = false
