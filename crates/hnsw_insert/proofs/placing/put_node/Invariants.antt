use Rattle.std.proofs.Common.{◌≡◌, length}
use Rattle.vec_steps.specs.Calls.{Goes}
use Rattle.hnsw_insert.proofs.Puts.{Placing, PutsSoFar}
use Rattle.hnsw_insert.proofs.placing.put_node.Given as goal

-- the blocks that were asked so far had no room
abbrev pub invariant-asking : goal.invariant-asking
invariant-asking g l =
    let S = g.S.Steps in
    let over = Placing (S.stands l.fn.steps) (S.seen l.fn.steps) (S.desk l.fn.steps).number l.fn.blocks.hint l.fn.blocks.count l.fn.node in
    record {
      goes : Goes S.desk S.stands S.comes_from over l.fn.steps l.steps;
      told : length l.told.bits ≡ (S.desk l.fn.steps).params.bits;
      so_far : PutsSoFar over (S.desk l.fn.steps) (S.seen l.fn.steps) (S.seen l.steps) l.fn.node l.fn.blocks.hint l.fn.blocks.count l.block l.ask;
    }
