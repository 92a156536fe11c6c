use Rattle.std.proofs.Common.{◌≡◌, length}
use Rattle.vec_steps.specs.Index.{Index}
use Rattle.vec_steps.specs.Calls.{Goes}
use Rattle.layer_search.specs.Linking.{OverLink, target_of}
use Rattle.layer_search.proofs.TriesMade.{TriesSoFar}
use Rattle.layer_search.proofs.linking.try_thrice.Given as goal

-- the tries so far
abbrev pub invariant-tries : goal.invariant-tries
invariant-tries g l =
    let S = g.S.Steps in
    let over : Index → Type 0 = OverLink (S.stands l.fn.steps) (S.desk l.fn.steps) (S.seen l.fn.steps) l.back.at l.back.layer l.element in
    record {
      goes : Goes S.desk S.stands S.comes_from over l.fn.steps l.steps;
      told : length l.room.told.bits ≡ (S.desk l.fn.steps).params.bits;
      entrant : l.room.entrant ≡ l.fn.room.entrant;
      may : (base : Index) → over base → OverLink (S.stands l.steps) (S.desk l.steps) (S.seen l.steps) l.back.at l.back.layer l.element base;
      so_far : TriesSoFar over (S.desk l.fn.steps) (S.seen l.fn.steps) (S.seen l.steps) l.fn.trace.reads l.trace.reads
          (target_of l.back l.fn.room.entrant.bits) l.element l.back.layer l.left;
    }

abbrev pub decreases-tries : goal.decreases-tries
decreases-tries g l = l.left
