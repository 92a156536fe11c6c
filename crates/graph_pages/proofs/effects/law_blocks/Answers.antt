use Rattle.graph_pages.proofs.BlocksKept.{blocks_kept}
use Rattle.graph_pages.proofs.effects.law_blocks.Goals as goal

pub returns : goal.returns
returns c = λ pages after g event wrap number few follows are. blocks_kept pages g few event g.params wrap number after follows are
