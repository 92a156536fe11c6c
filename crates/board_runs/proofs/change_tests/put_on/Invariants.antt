use Rattle.std.proofs.Common.{◌≡◌}
use Rattle.std.specs.Prelude.{vec_len}
use Rattle.board_runs.proofs.change_tests.put_on.Given as goal

-- the core counts the pages
abbrev pub invariant-more : goal.invariant-more
invariant-more l = l.core.summary.blocks ≡ vec_len l.pages.pages
