use Rattle.std.proofs.Common.{◌<◌, length, get_or, arith}
use Rattle.std.specs.Prelude.{◌==◌}
use Rattle.std.proofs.lemmas.List.{get_or_default}
use Rattle.ivf_means.specs.Centres.{values_of}
use Rattle.ivf_means.specs.Working.{assigned_to}
use Rattle.ivf_means.proofs.Tallies.{ones_few, members_of_rows, digit_small}
use Rattle.ivf_means.proofs.recentring.tally.Goals as goal

pub overflow_add-size : goal.overflow_add-size
overflow_add-size c =
    omega (arith, members_of_rows c.args.list c.args.assigned.now c.args.rows.now, digit_small (get_or c.args.assigned.now c.loop-k.k 0 == c.args.list))

pub add_if-size-requires-clause-room : goal.add_if-size-requires-clause-room
add_if-size-requires-clause-room c = λ j d h.
    let within : j < length c.args.ones.now = omega arith in
    omega (
      arith,
      get_or_default c.loop-k.ones j d 0 h,
      c.loop-k.invariant.ones j within,
      ones_few j (assigned_to c.args.list c.args.assigned.now (values_of c.args.rows.now)),
      members_of_rows c.args.list c.args.assigned.now c.args.rows.now,
    )
