use Rattle.layer_search.proofs.Chosen.{candidates_sorted}
use Rattle.layer_search.proofs.choosing.choose.Goals as goal

pub pick-requires-clause-rising : goal.pick-requires-clause-rising
pick-requires-clause-rising c = candidates_sorted c.args.others.now c.requires.rising
