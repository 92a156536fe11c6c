use Rattle.graph_pages.proofs.OneBlock.{one_block}
use Rattle.graph_pages.proofs.effects.law_one_block.Goals as goal

pub returns : goal.returns
returns c = λ pages after g event wrap number block all stands touches within is f. one_block pages after g event wrap number block touches within f all stands is
