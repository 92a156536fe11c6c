use Rattle.std.proofs.Common.{◌≡◌, [], length, Some}
use Rattle.vec_steps.specs.Index.{Index}
use Rattle.vec_steps.specs.Calls.{Goes}
use Rattle.ivf_ops.specs.Standing.{OverBlock}
use Rattle.ivf_ops.specs.Walking.{WalksOn}
use Rattle.ivf_ops.proofs.chains.walk_within.Given as goal

-- the blocks so far; the one that comes next has its place
abbrev pub invariant-loop-turn : goal.invariant-loop-turn
invariant-loop-turn g l =
    let S = g.S.Steps in
    let over : Index → Type 0 = OverBlock (S.stands l.fn.steps) (S.seen l.fn.steps) (Some l.first) in
    record {
      goes : Goes S.desk S.stands S.comes_from over l.fn.steps l.steps;
      bits : length l.told.bits ≡ (S.desk l.fn.steps).params.bits;
      next : (base : Index) → over base → OverBlock (S.stands l.steps) (S.seen l.steps) l.at base;
      so_far : WalksOn over (S.desk l.fn.steps) (S.seen l.fn.steps) (S.seen l.steps) l.fn.trace.reads l.trace.reads l.query (Some l.first) [] l.at
          l.fn.met.items l.met.items;
    }
