use Rattle.std.proofs.Common.{◌≡◌, take}
use Rattle.ivf_graph.proofs.copies.copied_chain.Given as goal

abbrev pub invariant-loop-part : goal.invariant-loop-part
invariant-loop-part l = l.copy ≡ take l.part-index l.chain
