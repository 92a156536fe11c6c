use Rattle.std.proofs.Common.{refl}
use Rattle.layer_search.proofs.SlotsSeen.{without_put}
use Rattle.layer_search.proofs.seeing.see_without.Goals as goal

pub returns : goal.returns
returns c = without_put _ c.in_ok-push.ensures.ok refl refl c.in_ok-bits.ensures
