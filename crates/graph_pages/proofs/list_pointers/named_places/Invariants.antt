use Rattle.std.proofs.Common.{take}
use Rattle.std.specs.Prelude.{flat_map}
use Rattle.graph_pages.specs.Decoding.{pointer_of, Tells}
use Rattle.graph_pages.proofs.list_pointers.named_places.Given as goal

-- the pointers of the blocks so far are told
abbrev pub invariant-loop-on_block : goal.invariant-loop-on_block
invariant-loop-on_block l = Tells l.named (flat_map (flat_map pointer_of) (take l.on_block-index l.items))
