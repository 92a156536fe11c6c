use Rattle.std.proofs.Common.{◌≡◌, length}
use Rattle.vec_steps.specs.Calls.{Goes}
use Rattle.ivf_ops.specs.Scanning.{ReadsCentres}
use Rattle.ivf_ops.proofs.centres.read_centres.Given as goal

-- the blocks so far
abbrev pub invariant-loop-page : goal.invariant-loop-page
invariant-loop-page g l =
    let S = g.S.Steps in
    record {
      goes : Goes S.desk S.stands S.comes_from (S.stands l.fn.steps) l.fn.steps l.steps;
      bits : length l.told.bits ≡ (S.desk l.fn.steps).params.bits;
      so_far : ReadsCentres (S.stands l.fn.steps) (S.desk l.fn.steps) (S.seen l.fn.steps) (S.seen l.steps) l.fn.trace.reads l.trace.reads
          l.query l.page l.nears.items;
    }
