use Rattle.std.proofs.Common.{ℕ, ◌<◌, ◌≤◌}
use Rattle.graph_pages.specs.Standing.{IsNodePage}
use Rattle.graph_pages.proofs.broken_blocks.first_broken.Given as goal

-- no lower block breaks a rule
abbrev pub invariant-loop-block : goal.invariant-loop-block
invariant-loop-block l = (lower : ℕ) → 1 ≤ lower → lower < l.block → IsNodePage l.params l.pages lower
