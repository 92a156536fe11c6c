use Rattle.std.proofs.Common.{◌≡◌, ◌≤◌, ◌*◌, take, sum_by}
use Rattle.std.specs.List.{All}
use Rattle.page_bytes.specs.Content.{IsPage}
use Rattle.vec_board.specs.Doomed.{doomed_on}
use Rattle.vec_board.proofs.doomed.doomed_in.Given as goal

-- the pages so far are counted
abbrev pub invariant-loop-page : goal.invariant-loop-page
invariant-loop-page l = record {
  told : l.sum ≡ sum_by (doomed_on l.params) (take l.page-index l.pages);
  pages : All IsPage (take l.page-index l.pages);
  low : l.sum ≤ l.page-index * 65535;
}
