-- Words of the parts of redo: what each of them decides, and what it is given.
use Rattle.std.specs.Prelude.{◌≡◌, ℕ, ◌+◌, ◌==◌, ◌&&◌, nat_le, List, length, Bool, Option, Some, None}
use Rattle.page_bytes.specs.Content.{Content, round8}
use Rattle.vec_tuples.specs.declared.element.ElementHead.{ElementHead}
use Rattle.vec_names.specs.declared.params.Params.{Params}
use Rattle.page_redo.specs.declared.head_changes.HeadChange.{HeadChange}
use Rattle.page_redo.specs.declared.head_changes.HeadChange.TheVariants.{MoreIds, FewerIds, Deleted}
use Rattle.page_redo.specs.declared.new_node.NewNode.{NewNode as Brought}
use Rattle.page_redo.specs.declared.in_place.Deletion.{Deletion}
use Rattle.page_redo.specs.PageTuples.{head_changed, links_changed}
use Rattle.page_redo.specs.PageChanges.{PageChange, NewNode, on_graph, joined, dropped, marked, emptied}

-- The page became what is given; where nothing is given it stayed.
abbrev pub IsMade : Option Content → Content → Content → Option (Unit {0}) → Type 0
IsMade after old new (Some done) = after ≡ Some new
IsMade after old new None = (after ≡ None) × (new ≡ old)

-- the node, as code has it
abbrev pub node_of : Brought → NewNode
node_of n = record {
  at = n.at;
  list_at = n.list_at;
  version = n.version;
  level = n.level;
  id = n.id;
  bits = n.bits.now;
  slots = n.slots.now;
}

-- what a change makes of an element's head
abbrev pub head_after : HeadChange → ElementHead → Option ElementHead
head_after (MoreIds version id) = joined version id
head_after (FewerIds version gone) = dropped version gone
head_after (Deleted version wrap) = marked wrap version

-- the element of a node that is deleted, and its list
abbrev pub delete_element : Params → Deletion → PageChange
delete_element p d = on_graph p (head_changed (marked d.wrap d.version) p d.at.off)

abbrev pub delete_links : Params → Deletion → PageChange
delete_links p d = on_graph p (links_changed (emptied d.wrap d.version) p d.list_at.off)

-- Whether an item of so many bytes can be put: what stands at the offset, the next offset and what is free are the page's.
abbrev pub may_put : Option (List ℕ) → ℕ → Bool → ℕ → ℕ → ℕ → Bool
may_put None off may_go long next free = off == next && nat_le (round8 long + 4) free
may_put (Some old) off may_go long next free = may_go && length old == long
