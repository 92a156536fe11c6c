use Rattle.std.proofs.Common.{◌≡◌, drop, length}
use Rattle.vec_steps.specs.Index.{Index}
use Rattle.vec_steps.specs.Calls.{Goes}
use Rattle.layer_search.specs.Linking.{OverLinks, target_of}
use Rattle.layer_search.proofs.TriesMade.{LinksSoFar}
use Rattle.layer_search.proofs.linking.link_all.Given as goal

-- the neighbours so far
abbrev pub invariant-loop-k : goal.invariant-loop-k
invariant-loop-k g l =
    let S = g.S.Steps in
    let over : Index → Type 0 = OverLinks (S.stands l.fn.steps) (S.desk l.fn.steps) (S.seen l.fn.steps) l.back.at l.picks in
    record {
      goes : Goes S.desk S.stands S.comes_from over l.fn.steps l.steps;
      told : length l.room.told.bits ≡ (S.desk l.fn.steps).params.bits;
      at : l.room.entrant.at ≡ l.back.at;
      bits : l.room.entrant.bits ≡ l.fn.room.entrant.bits;
      may : (base : Index) → over base → OverLinks (S.stands l.steps) (S.desk l.steps) (S.seen l.steps) l.back.at l.picks base;
      so_far : LinksSoFar over (S.desk l.fn.steps) (S.seen l.fn.steps) (S.seen l.steps) l.fn.trace.reads l.trace.reads
          (target_of l.back l.fn.room.entrant.bits) l.picks (drop l.k l.picks) l.count;
    }
