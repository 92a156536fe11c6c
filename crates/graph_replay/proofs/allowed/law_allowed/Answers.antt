use Rattle.graph_replay.proofs.AllowedFits.{allowed_fits}
use Rattle.graph_replay.proofs.allowed.law_allowed.Goals as goal

pub returns : goal.returns
returns c = λ pages base acts desk event few all on legal stands lasting may. allowed_fits pages base acts desk few all on legal stands event lasting may
