use Rattle.std.proofs.Common.{◌≡◌, ◌≤◌, take, sum_by}
use Rattle.vec_board.specs.Doomed.{doomed_item}
use Rattle.vec_board.proofs.doomed.doomed_on.Given as goal

-- the items so far are counted
abbrev pub invariant-loop-before : goal.invariant-loop-before
invariant-loop-before l = record {
  told : l.sum ≡ sum_by (doomed_item l.params) (take l.before l.page.items);
  low : l.sum ≤ l.before;
}
