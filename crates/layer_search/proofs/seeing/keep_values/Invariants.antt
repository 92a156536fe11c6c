use Rattle.std.proofs.Common.{length}
use Rattle.layer_search.proofs.seeing.keep_values.Given as goal

abbrev pub decreases-slots : goal.decreases-slots
decreases-slots l = length l.seen
