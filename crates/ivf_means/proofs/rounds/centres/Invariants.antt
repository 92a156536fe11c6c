use Rattle.std.proofs.Common.{◌≡◌, ◌-◌, length}
use Rattle.ivf_means.specs.Centres.{values_of}
use Rattle.ivf_means.proofs.Lengths.{AreOf}
use Rattle.ivf_means.proofs.RoundsSoFar.{IsRound}
use Rattle.ivf_means.proofs.rounds.centres.Given as goal

-- the rounds so far
abbrev pub invariant-loop-round : goal.invariant-loop-round
invariant-loop-round g l = record {
  are : AreOf l.params.lists l.params.bits l.centres.items;
  room : length l.ones.items ≡ l.params.bits;
  round : IsRound l.params l.word (values_of l.rows) l.centres.items (19 - l.round) l.assigned.items;
}
