-- Where a new node can be put, as the pages say.
use Rattle.std.specs.Prelude.{ℕ, ◌+◌, ◌==◌, ◌&&◌, nat_le, if◌then◌else◌, List, [], ◌∷◌, length, Option, Some, None}
use Rattle.std.specs.Option.{option_map, option_and_then, option_or}
use Rattle.index_sizes.specs.declared.limits.TheConstants.{PAGE_ROOM}
use Rattle.index_sizes.specs.Sizes.{item_need, element_size, links_size, slots_of_level}
use Rattle.vec_names.specs.declared.tid.Tid.{Tid}
use Rattle.vec_names.specs.declared.params.Params.{Params}
use Rattle.vec_names.specs.Places.{tid_of}
use Rattle.page_bytes.specs.Content.{Content, free_of}
use Rattle.vec_tuples.specs.declared.element.ElementHead.{ElementHead}
use Rattle.vec_tuples.specs.Spelling.{head_of_element}
use Rattle.vec_tuples.specs.Reading.{element}
use Rattle.page_redo.specs.PageTuples.{in_whole}
use Rattle.vec_graph.specs.declared.place.Place.{Place}
use Rattle.vec_graph.specs.Places.{fresh_at}

-- what the element and the neighbour tuple of a node of this level take of a page
abbrev pub need_of_element : Params → ℕ
need_of_element p = item_need (element_size p.bits)

abbrev pub need_of_list : Params → ℕ → ℕ
need_of_list p level = item_need (links_size (slots_of_level p.m level))

-- the places and the version of an element that is deleted and of this level
abbrev pub reused_head : ℕ → Option Tid → ElementHead → Option Place
reused_head level at h =
    if h.deleted && h.level == level then option_map (λ (t : Tid). record { at = t; list_at = h.list_at; version = h.version }) at else None

abbrev pub reused_item : Params → ℕ → ℕ → ℕ → List ℕ → Option Place
reused_item p block level off x = option_and_then (reused_head level (tid_of block off)) (option_map head_of_element (in_whole (element p x)))

-- those of the first such element among items of a block, of which the first has this offset
abbrev pub reused_from : Params → ℕ → ℕ → ℕ → List (List ℕ) → Option Place
reused_from p block level off [] = None
reused_from p block level off (x ∷ items) = option_or (reused_item p block level off x) (reused_from p block level (off + 1) items)

-- the next two offsets of the page of a block
abbrev pub fresh_together : Params → ℕ → ℕ → Content → Option Place
fresh_together p block level c =
    if nat_le (need_of_element p + need_of_list p level) (free_of c)
    then fresh_at block (length c.items + 1) block (length c.items + 2) else None

-- the next offset of the page, and that of the page behind it
abbrev pub fresh_apart : Params → ℕ → ℕ → Content → Option Content → Option Place
fresh_apart p block level c None = None
fresh_apart p block level c (Some d) =
    if nat_le (need_of_element p) (free_of c) && nat_le (need_of_list p level) (free_of d)
    then fresh_at block (length c.items + 1) (block + 1) (length d.items + 1) else None

-- the place for a node of this level on a block with this page, where that behind it has that one
abbrev pub place_with : Params → ℕ → ℕ → Content → Option Content → Option Place
place_with p block level c behind =
    option_or (reused_from p block level 1 c.items)
    (if nat_le (need_of_element p + need_of_list p level) PAGE_ROOM
    then fresh_together p block level c else fresh_apart p block level c behind)
