-- The tests by which it is told whether an event follows.
use Rattle.std.specs.Prelude.{ℕ, ◌+◌, ◌==◌, ◌&&◌, ◌||◌, nat_le, Bool, true, false, List, length, Option, Some, None}
use Rattle.vec_names.specs.declared.tid.Tid.{Tid}
use Rattle.vec_names.specs.declared.params.Params.{Params}
use Rattle.page_bytes.specs.Content.{Content}
use Rattle.vec_tuples.specs.declared.element.ElementHead.{ElementHead}
use Rattle.graph_pages.specs.Standing.{item_in, head_in, is_place}

-- the list pointer of an element, if one is given, is this place
abbrev pub names_list : Tid → Option ElementHead → Bool
names_list list_at None = false
names_list list_at (Some h) = is_place list_at h.list_at

abbrev pub is_nothing : Option (List ℕ) → Bool
is_nothing None = true
is_nothing (Some x) = false

abbrev pub are_next : ℕ → ℕ → ℕ → Bool
are_next count a b = (nat_le a count && nat_le b count) || ((a == count && b == a + 1) || (b == count && a == b + 1))

abbrev pub are_new : List Content → Tid → Tid → Bool
are_new pages at list_at =
    is_nothing (item_in pages at) && (is_nothing (item_in pages list_at) && are_next (length pages) at.block list_at.block)

abbrev pub may_put : Params → List Content → Tid → Tid → Bool
may_put p pages at list_at = names_list list_at (head_in p pages at) || are_new pages at list_at
