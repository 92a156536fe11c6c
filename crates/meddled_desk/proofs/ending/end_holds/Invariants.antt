use Rattle.std.proofs.Common.{◌≡◌, length}
use Rattle.vec_graph.specs.declared.graph.Graph.{Graph}
use Rattle.vec_steps.specs.Index.{OfNodes}
use Rattle.vec_board.specs.Standing.{acts_of}
use Rattle.vec_board.specs.Boards.{StandsWhole}
use Rattle.meddled_desk.specs.Meddling.{Meddles, AreHoldsOf, AreTakenFrom}
use Rattle.meddled_desk.proofs.ending.end_holds.Given as goal

-- holds of the gate that were taken before this act are ended
abbrev pub invariant-loop-k : goal.invariant-loop-k
invariant-loop-k g l =
    let count = g.D.Disks.count in
    record {
      meddles : (base : Graph) → Meddles base (count l.fn.board.disks) l.fn.board.core l.board.core l.fn.board.pages.pages.items l.board.pages.pages.items;
      ended : (base : Graph) → StandsWhole l.fn.board.core l.fn.board.pages.pages.items (count l.fn.board.disks) (OfNodes base)
          → AreTakenFrom (acts_of l.board.core) l.gate l.k;
      holds : AreHoldsOf (acts_of l.fn.board.core) (acts_of l.board.core);
      disks : l.board.disks ≡ l.fn.board.disks;
      params : l.board.core.params ≡ l.fn.board.core.params;
      bits : length l.told.bits ≡ length l.fn.told.bits;
    }
