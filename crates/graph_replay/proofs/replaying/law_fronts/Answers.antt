use Rattle.graph_replay.proofs.Replays.{replay_joined, replay_parted}
use Rattle.graph_replay.proofs.replaying.law_fronts.Goals as goal

pub returns-clause-parted : goal.returns-clause-parted
returns-clause-parted c = λ params first others wrap number pages after low f. replay_parted params wrap number first others pages after low f

pub returns-clause-joined : goal.returns-clause-joined
returns-clause-joined c = λ params first others wrap number pages mid after low f h. replay_joined params wrap number first others pages mid after low f h
