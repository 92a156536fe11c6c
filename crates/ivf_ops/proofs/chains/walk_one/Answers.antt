use Rattle.std.proofs.Common.{◌++◌, ap, map, List, ◌∙◌}
use Rattle.vec_steps.specs.declared.seen.RowSeen.{RowSeen}
use Rattle.ivf_ops.specs.Nearness.{met_of}
use Rattle.ivf_ops.proofs.Views.{ended_memory, fails}
use Rattle.ivf_ops.proofs.Walked.{walk_block}
use Rattle.ivf_ops.proofs.chains.walk_one.Goals as goal

pub returns-clause-ok : goal.returns-clause-ok
returns-clause-ok g c =
    walk_block c.args.query.now c.args.block c.look_at_rows.new.told.rows c.look_at_rows.new.told.next c.args.met.now.items c.put_rows.new.met.items
    c.in_ok-look_at_rows.ensures.ok
    (c.in_ok-put_rows.ensures.ok ∙ ap (λ (l : List RowSeen). c.args.met.now.items ++ map (met_of c.args.query.now c.args.block) l) c.as_slice.ensures)

pub returns-in_err-put_rows-clause-err : goal.returns-in_err-put_rows-clause-err
returns-in_err-put_rows-clause-err g c =
    fails c.from_residual-in_err-put_rows.result (λ e is. ended_memory e (is ∙ c.in_err-put_rows.ensures.memory) c.in_ok-look_at_rows.ensures.ok)
    c.from_residual-in_err-put_rows.ensures.1
