use Rattle.std.proofs.Common.{◌++◌, List, take}
use Rattle.std.specs.Prelude.{flat_map}
use Rattle.vec_names.specs.declared.tid.Tid.{Tid}
use Rattle.graph_pages.specs.Decoding.{pointer_of, Tells}
use Rattle.graph_pages.proofs.list_pointers.add_block.Given as goal

-- the pointers of the items so far are told too
abbrev pub invariant-loop-item : goal.invariant-loop-item
invariant-loop-item l = (places : List Tid) → Tells l.initial.named places → Tells l.named (places ++ flat_map pointer_of (take l.item-index l.items))
