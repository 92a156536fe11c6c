use Rattle.search_sets.proofs.Leaders.{near_taken}
use Rattle.search_sets.proofs.candidates.take_near.Goals as goal

pub returns-clause-whole : goal.returns-clause-whole
returns-clause-whole c = near_taken c.in-Some.key _ c.args.far.now _ c.requires.leads c.in-Some.ensures.permutation (c.in-Some.ensures.below_top c.requires.heap)
