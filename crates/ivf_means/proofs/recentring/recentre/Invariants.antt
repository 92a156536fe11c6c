use Rattle.std.proofs.Common.{◌≡◌, ◌++◌, ℕ, List, length, take, drop}
use Rattle.std.specs.Prelude.{Bool}
use Rattle.ivf_means.specs.Centres.{values_of, recentred_from}
use Rattle.ivf_means.specs.Working.{assigned_to}
use Rattle.ivf_means.proofs.recentring.recentre.Given as goal

abbrev pub invariant-loop-list : goal.invariant-loop-list
invariant-loop-list l =
    let members_of : ℕ → List (List Bool) = λ list. assigned_to list l.assigned (values_of l.rows) in
    record {
      room : length l.ones ≡ length l.fn.ones;
      long : length l.centres ≡ length l.fn.centres;
      left : drop l.list l.centres ≡ drop l.list l.fn.centres;
      done : take l.list l.centres ++ recentred_from l.list members_of (drop l.list l.fn.centres) ≡ recentred_from 0 members_of l.fn.centres;
    }
