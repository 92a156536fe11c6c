use Rattle.std.proofs.Common.{◌≡◌, drop}
use Rattle.std.specs.List.{list_all}
use Rattle.vec_tuples.specs.declared.links.Links.{Links}
use Rattle.vec_tuples.specs.Spelling.{links_bytes}
use Rattle.graph_pages.specs.Standing.{is_slot_below}
use Rattle.graph_pages.proofs.decoded.are_slots_below.Given as goal

-- all slots are below the number exactly where those are that are left
abbrev pub invariant-loop-i : goal.invariant-loop-i
invariant-loop-i l = (links : Links) → l.item ≡ links_bytes links → list_all (is_slot_below l.blocks) links.tids ≡ list_all (is_slot_below l.blocks) (drop l.i links.tids)
