use Rattle.std.proofs.Common.{drop}
use Rattle.ivf_pages.proofs.TakenRows.{IsTaking}
use Rattle.ivf_pages.proofs.list_chains.chain_of.Given as goal

-- the rows of the first blocks were taken
abbrev pub invariant-loop-i : goal.invariant-loop-i
invariant-loop-i l = IsTaking l.blocks (drop l.i l.blocks) l.initial.rows.items l.rows.items l.chain
