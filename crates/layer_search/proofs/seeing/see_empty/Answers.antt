use Rattle.layer_search.proofs.SlotsSeen.{empty_seen}
use Rattle.layer_search.proofs.seeing.see_empty.Goals as goal

pub returns-clause-seen : goal.returns-clause-seen
returns-clause-seen c = empty_seen c.args.back.ops c.args.owner.now c.args.back.layer c.in_ok-see_without.ensures
