use Rattle.ivf_pages.proofs.TuplePages.{AreCounted}
use Rattle.ivf_pages.proofs.list_blocks.first_broken_list.Given as goal

-- each lower block has its tuples
abbrev pub invariant-loop-block : goal.invariant-loop-block
invariant-loop-block l = AreCounted l.params l.pages l.block
