use Rattle.ivf_pages.specs.Walking.{AreEntriesBelow, HasRows}
use Rattle.ivf_pages.proofs.entry_rows.rows_of_pages.Given as goal

-- the rows of the blocks so far, none of which breaks a rule
abbrev pub invariant-loop-block : goal.invariant-loop-block
invariant-loop-block l = HasRows l.params l.pages l.block l.rows.items × AreEntriesBelow l.params l.pages l.block
