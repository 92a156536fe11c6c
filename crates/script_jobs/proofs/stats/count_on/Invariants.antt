use Rattle.std.proofs.Common.{◌≡◌, length}
use Rattle.vec_graph.specs.declared.graph.Graph.{Graph}
use Rattle.vec_graph.specs.Effect.{after}
use Rattle.vec_steps.specs.Index.{OfNodes}
use Rattle.vec_steps.specs.Calls.{DoesSo, Goes, Looks}
use Rattle.hnsw_insert.specs.Over.{OverGraphs}
use Rattle.script_jobs.specs.Counting.{HasBlocks}
use Rattle.script_jobs.proofs.Sums.{CountedBelow}
use Rattle.script_jobs.proofs.stats.count_on.Given as goal

-- the pages before this one were looked at; where no act came, the counts are those of their nodes
abbrev pub invariant-page : goal.invariant-page
invariant-page g l =
    let S = g.S.Steps in
    let over = OverGraphs (S.stands l.fn.steps) (HasBlocks (S.seen l.fn.steps) l.blocks) in
    record {
      goes : Goes S.desk S.stands S.comes_from over l.fn.steps l.steps;
      told : length l.told.bits ≡ (S.desk l.fn.steps).params.bits;
      looked : DoesSo Looks over (S.desk l.fn.steps) (S.seen l.fn.steps) (S.seen l.steps);
      blocks_are : l.counts.blocks ≡ l.blocks;
      counted : (h : Graph) → over (OfNodes h) → S.seen l.steps ≡ S.seen l.fn.steps → CountedBelow l.counts l.block (after h (S.seen l.fn.steps));
    }
